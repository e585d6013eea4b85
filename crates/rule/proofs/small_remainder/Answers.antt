-- `rule::small_remainder` meets its contract: the formula itself. Assumes nothing.
use Rattle.rule.specs.Rule.{small_remainder}
use Rattle.std.proofs.Common.{rules}
use Rattle.rule.proofs.small_remainder.Goals as goal

pub returns : goal.returns
unfolding small_remainder
returns c = search rules
