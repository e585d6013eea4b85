-- `clerk::carry_parts` meets its contract. Assumes nothing.
use Prim.Native.Nat.{◌+◌}
use native.Mathlib.Omega.{arith}
use Rattle.clerk.proofs.Carries.{carried-below, carried-over}
use Rattle.clerk.proofs.carry_parts.Goals as goal

pub returns-then-parts-room : goal.returns-then-parts-room
returns-then-parts-room c = let a = c.args in omega (arith, carried-below a.whole (a.parts + a.more) (omega arith))

pub returns-else-parts-room : goal.returns-else-parts-room
returns-else-parts-room c = let a = c.args in omega (arith, carried-over a.whole (a.parts + a.more) (omega arith))
