-- `sheet::check_items` meets its contract. The invariant: what is left gives the same answer. Assumes nothing.
use Rattle.std.proofs.Common.{◌≡◌, ◌-◌}
use Rattle.rule.specs.Reasons.{is, and_then}
use Rattle.sheet.specs.Sheet.{items_read}
use Rattle.sheet.proofs.check_items.Given as goal

abbrev pub invariant-loop : goal.invariant-loop
invariant-loop g l =
    let k = g.K.InSection.section l.k in
    and_then (items_read k (l.n - l.counter) l.t) (λ xs. is l.n) ≡ and_then (items_read k l.n l.s) (λ xs. is l.n)
