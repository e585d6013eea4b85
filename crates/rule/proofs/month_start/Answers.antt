-- `rule::month_start` meets its contract: the formula itself. Assumes nothing.
use Rattle.rule.specs.Rule.{month_start}
use Rattle.std.proofs.Common.{rules}
use Rattle.rule.proofs.month_start.Goals as goal

pub returns : goal.returns
unfolding month_start
returns c = search rules
