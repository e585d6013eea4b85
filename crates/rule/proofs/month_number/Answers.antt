-- `rule::month_number` meets its contract: the number of the last mid-term before the month's end. Assumes nothing.
use Rattle.std.proofs.Common.{◌+◌, arith}
use Rattle.rule.specs.Rule.{mid_term_number, month_number}
use Rattle.rule.proofs.Leap.{before-pos}
use Rattle.rule.proofs.Terms.{before-end}
use Rattle.rule.proofs.month_number.Goals as goal

pub returns : goal.returns
unfolding month_number mid_term_number
returns c = omega arith

pub overflow_sub-result : goal.overflow_sub-result
overflow_sub-result c = omega (arith, before-pos c.args.n)

pub overflow_add-result : goal.overflow_add-result
overflow_add-result c = omega (arith, before-end (c.args.n + 1) (omega arith))
