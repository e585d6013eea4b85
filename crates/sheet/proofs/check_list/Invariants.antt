-- `sheet::check_list` meets its contract. The invariant: what is left gives the same answer. Assumes nothing.
use Rattle.std.proofs.Common.{◌≡◌, length, map}
use Rattle.std.proofs.Math.ListN.{drop}
use Rattle.rule.specs.Reasons.{is, and_then}
use Rattle.sheet.specs.Sheet.{ranged, items_written, section_written}
use Rattle.sheet.proofs.check_list.Given as goal

abbrev pub invariant-loop-x : goal.invariant-loop-x
invariant-loop-x g l =
    let xs = map g.T.InBytes.value l.xs in
    and_then (items_written (ranged l.k) (drop l.x-index xs)) (λ b. is (length l.xs)) ≡ and_then (section_written (ranged l.k) xs) (λ b. is (length l.xs))
