-- `concordance::line_end` meets its contract. The line's end is as far from here as from its start. Assumes nothing.
use Rattle.std.proofs.Common.{◌≡◌, ◌+◌, drop}
use Rattle.concordance.specs.Text.{line_length}
use Rattle.concordance.proofs.line_end.Given as goal

abbrev pub invariant-loop-to : goal.invariant-loop-to
invariant-loop-to l = l.from + line_length (drop l.from l.text) ≡ l.to + line_length (drop l.to l.text)
