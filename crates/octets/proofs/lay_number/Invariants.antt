-- `octets::lay_number` meets its contract. The invariant: laying what is left at i gives what all gives. Assumes nothing.
use Rattle.octets.proofs.Filling.{LayingBytes}
use Rattle.octets.proofs.lay_number.Given as goal

abbrev pub invariant-loop-i : goal.invariant-loop-i
invariant-loop-i l = LayingBytes l.width l.x l.initial.out l.at l.out l.rest l.i
