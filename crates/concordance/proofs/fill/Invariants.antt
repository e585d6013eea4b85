-- `concordance::fill` meets its contract: i verdicts are stored where place is the start of line i. Assumes nothing.
use Rattle.std.proofs.Common.{◌≡◌, length}
use Rattle.concordance.proofs.Filling.{Filling}
use Rattle.concordance.proofs.fill.Given as goal

abbrev pub invariant-loop-i : goal.invariant-loop-i
invariant-loop-i l = Filling l.text l.initial.out l.out l.place l.i × (length l.out ≡ length l.initial.out)
