-- `octets::number_in` meets its contract. The invariant: x is the number in the bytes from i on. Assumes nothing.
use Prim.Native.Nat.{◌-◌}
use native.Mathlib.Omega.{arith}
use Rattle.octets.proofs.Numbers.{none_read, room-for-byte, byte-read}
use Rattle.octets.proofs.number_in.Goals as goal

pub loop-i-init : goal.loop-i-init
loop-i-init c = let args = c.args in none_read args.width args.s.now

pub overflow_mul-x : goal.overflow_mul-x
overflow_mul-x c = omega (arith, room-for-byte c.loop-i.invariant (omega arith) (omega arith))

pub overflow_add-x : goal.overflow_add-x
overflow_add-x c =
    let loop = c.loop-i in omega (arith, c.type_inv.s (loop.i - 1), room-for-byte loop.invariant (omega arith) (omega arith))

pub loop-i-preserved : goal.loop-i-preserved
loop-i-preserved c =
    let loop = c.loop-i in byte-read loop.invariant (omega arith) (omega (arith, c.type_inv.s (loop.i - 1)))
