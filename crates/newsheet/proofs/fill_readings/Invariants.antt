-- `newsheet::fill_readings` meets its contract. The invariant: storing what is left gives what all gives. Assumes nothing.
use lib.ListN.{drop}
use Rattle.newsheet.proofs.Eights.{StoringEights}
use Rattle.newsheet.proofs.fill_readings.Given as goal

abbrev pub invariant-loop-i : goal.invariant-loop-i
invariant-loop-i l = StoringEights (drop 2 l.s) l.initial.out l.n l.out l.t l.i
