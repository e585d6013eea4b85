-- `clerk::remainder_on` meets its contract. Assumes nothing.
use Prim.Native.Nat.{◌+◌}
use native.Mathlib.Omega.{arith}
use Rattle.clerk.proofs.Carries.{carried-below, carried-over}
use Rattle.clerk.proofs.remainder_on.Goals as goal

pub returns-then-small_remainder-lt441 : goal.returns-then-small_remainder-lt441
returns-then-small_remainder-lt441 c =
    let r = c.args.small_remainder in omega (arith, carried-below 940 (r + 499) (omega arith))

pub returns-else-small_remainder-lt441 : goal.returns-else-small_remainder-lt441
returns-else-small_remainder-lt441 c = let r = c.args.small_remainder in omega (arith, carried-over 940 (r + 499) (omega arith))
