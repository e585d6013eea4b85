-- `rule::leap_remainder` meets its contract: the formula itself. Assumes nothing.
use Rattle.rule.specs.Rule.{leap_remainder}
use Rattle.std.proofs.Common.{rules}
use Rattle.rule.proofs.leap_remainder.Goals as goal

pub returns : goal.returns
unfolding leap_remainder
returns c = search rules
