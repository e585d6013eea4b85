-- `octets::lay_each` meets its contract. The invariant: laying what is left gives what all gives. Assumes nothing.
use Rattle.octets.proofs.Filling.{Laying}
use Rattle.octets.proofs.lay_each.Given as goal

abbrev pub invariant-loop-i : goal.invariant-loop-i
invariant-loop-i g l = Laying g.T.InBytes.laid g.T.InBytes.WIDTH l.xs l.initial.out l.at l.out l.i
