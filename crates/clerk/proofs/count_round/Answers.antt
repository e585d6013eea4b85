-- `clerk::count_round` meets its contract. Assumes nothing.
use Prim.Native.Nat.{◌+◌}
use native.Mathlib.Omega.{arith}
use Rattle.clerk.proofs.Carries.{round-within, round-past}
use Rattle.clerk.proofs.count_round.Goals as goal

pub returns-then-room-count : goal.returns-then-room-count
returns-then-room-count c = let a = c.args in omega (arith, round-past a.whole (a.count + a.more) (omega arith))

pub returns-else-room-count : goal.returns-else-room-count
returns-else-room-count c = let a = c.args in omega (arith, round-within a.whole (a.count + a.more) (omega arith))
