-- `rule::year_name` meets its contract: the formula itself. Assumes nothing.
use Rattle.rule.specs.Counts.{year_name}
use Rattle.std.proofs.Common.{rules}
use Rattle.rule.proofs.year_name.Goals as goal

pub returns : goal.returns
unfolding year_name
returns c = search rules
