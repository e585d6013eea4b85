-- `concordance::scan` meets its contract. So many digits are read and worth the value. Assumes nothing.
use Rattle.concordance.proofs.Scanning.{Scanning}
use Rattle.concordance.proofs.scan.Given as goal

abbrev pub invariant-loop-end : goal.invariant-loop-end
invariant-loop-end l = Scanning l.s l.value l.end
