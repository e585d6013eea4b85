-- `emending::name_fault` meets its contract. Assumes nothing.
use Rattle.emending.specs.Faults.{name_fault}
use Rattle.emending.proofs.name_fault.Goals as goal

pub returns : goal.returns
unfolding name_fault
returns c = cc
