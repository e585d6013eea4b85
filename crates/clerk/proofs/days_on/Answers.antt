-- `clerk::days_on` meets its contract. Assumes nothing.
use native.Mathlib.Omega.{arith}
use Rattle.clerk.proofs.Carries.{days-small, days-big}
use Rattle.clerk.proofs.days_on.Goals as goal

pub returns-then-small_remainder-lt441 : goal.returns-then-small_remainder-lt441
returns-then-small_remainder-lt441 c = omega (arith, days-small c.args.small_remainder (omega arith))

pub returns-else-small_remainder-lt441 : goal.returns-else-small_remainder-lt441
returns-else-small_remainder-lt441 c = omega (arith, days-big c.args.small_remainder (omega arith))
