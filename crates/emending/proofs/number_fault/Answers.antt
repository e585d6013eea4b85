-- `emending::number_fault` meets its contract. Assumes nothing.
use Rattle.emending.specs.Faults.{number_fault}
use Rattle.emending.proofs.number_fault.Goals as goal

pub returns : goal.returns
unfolding number_fault
returns c = cc
