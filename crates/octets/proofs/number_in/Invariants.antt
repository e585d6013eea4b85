-- `octets::number_in` meets its contract. The invariant: x is the number in the bytes from i on. Assumes nothing.
use Rattle.octets.proofs.Numbers.{FromByte}
use Rattle.octets.proofs.number_in.Given as goal

abbrev pub invariant-loop-i : goal.invariant-loop-i
invariant-loop-i l = FromByte l.width l.s l.x l.i
