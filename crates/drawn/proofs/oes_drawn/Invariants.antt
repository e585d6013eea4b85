-- `drawn::oes_drawn` meets its contract. The invariant: the sum is that of the records so far. Assumes nothing.
use Rattle.std.proofs.Common.{◌≡◌, take}
use Rattle.drawn.specs.Drawn.{sum_from}
use Rattle.drawn.proofs.oes_drawn.Given as goal

abbrev pub invariant-loop-record : goal.invariant-loop-record
invariant-loop-record l = l.sum ≡ sum_from 0 (take l.record-index l.record-items)
