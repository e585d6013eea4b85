-- `newsheet::copy_bytes` meets its contract. The invariant: copying what is left gives what all gives. Assumes nothing.
use Rattle.std.proofs.Common.{◌≡◌, length, drop}
use lib.Seq.{sets}
use Rattle.newsheet.proofs.copy_bytes.Given as goal

abbrev pub invariant-loop-i : goal.invariant-loop-i
invariant-loop-i l = (length l.out ≡ length l.initial.out) × (sets l.out l.i (drop l.i l.bytes) ≡ sets l.initial.out 0 l.bytes)
