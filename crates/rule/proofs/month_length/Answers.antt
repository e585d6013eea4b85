-- `rule::month_length` meets its contract: the two laws of lengths. Assumes nothing.
use Rattle.std.proofs.Common.{arith}
use Rattle.rule.proofs.Months.{length-small, length-big}
use Rattle.rule.proofs.month_length.Goals as goal

pub returns-then-small_remainder-lt441 : goal.returns-then-small_remainder-lt441
returns-then-small_remainder-lt441 c = omega (arith, length-small c.args.n (omega arith))

pub returns-else-small_remainder-lt441 : goal.returns-else-small_remainder-lt441
returns-else-small_remainder-lt441 c = omega (arith, length-big c.args.n (omega arith))
