-- `octets::fill` meets its contract. The invariant: storing what is left gives what all gives. Assumes nothing.
use lib.ListN.{drop}
use Rattle.octets.proofs.Filling.{Storing}
use Rattle.octets.proofs.fill.Given as goal

abbrev pub invariant-loop-i : goal.invariant-loop-i
invariant-loop-i g l = Storing g.T.InBytes.read g.T.InBytes.WIDTH (drop 2 l.s) l.initial.out l.n l.out l.t l.i
