-- `concordance::count_newlines` meets its contract. What is left has the newlines that are not counted yet. Assumes nothing.
use Rattle.std.proofs.Common.{◌≡◌, ◌+◌, drop}
use Rattle.concordance.specs.Text.{newlines}
use Rattle.concordance.proofs.count_newlines.Given as goal

abbrev pub invariant-loop-b : goal.invariant-loop-b
invariant-loop-b l = l.n + newlines (drop l.b-index l.text) ≡ newlines l.text
