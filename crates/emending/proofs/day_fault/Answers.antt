-- `emending::day_fault` meets its contract. Assumes nothing.
use Rattle.emending.specs.Faults.{day_fault}
use Rattle.emending.proofs.day_fault.Goals as goal

pub returns : goal.returns
unfolding day_fault
returns c = cc
