-- `rule::day_name` meets its contract: the formula itself. Assumes nothing.
use Rattle.rule.specs.Counts.{day_name}
use Rattle.std.proofs.Common.{rules}
use Rattle.rule.proofs.day_name.Goals as goal

pub returns : goal.returns
unfolding day_name
returns c = search rules
