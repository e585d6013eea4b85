-- `newsheet::check_new` meets its contract. Assumes nothing.
use Rattle.rule.proofs.Answers.{handed_on}
use Prim.Native.Nat.{ℕ}
use native.Mathlib.Omega.{arith}
use mathlib.Core.Path.{ap, sym, ◌∙◌}
use lib.ListN.{drop}
use Rattle.rule.proofs.Stores.{part-all}
use Rattle.sheet.proofs.Reading.{Three, three}
use Rattle.newsheet.proofs.Fourth.{first-bad, last-bad, all-good}
use Rattle.newsheet.proofs.check_new.Goals as goal

pub end-end-requires : goal.end-end-requires
end-end-requires c =
    let first : Three c.args.s.now c.in_ok-three.three = three _ _ (sym c.in_ok-three.ensures) in
    first.few

pub slice_bounds-check_fourth-count : goal.slice_bounds-check_fourth-count
slice_bounds-check_fourth-count c =
    let first : Three c.args.s.now c.in_ok-three.three = three _ _ (sym c.in_ok-three.ensures) in
    omega (arith, c.end-end.ensures, first.long)

pub slice_bounds-check_fourth-start : goal.slice_bounds-check_fourth-start
slice_bounds-check_fourth-start c =
    let first : Three c.args.s.now c.in_ok-three.three = three _ _ (sym c.in_ok-three.ensures) in
    omega (arith, c.end-end.ensures, first.long)

pub returns-in_err-three : goal.returns-in_err-three
returns-in_err-three c = handed_on _ _ c.from_residual.ensures.1 ∙ sym (first-bad _ _ (sym c.in_err-three.ensures))

pub returns-in_err-readings : goal.returns-in_err-readings
returns-in_err-readings c =
    let first : Three c.args.s.now c.in_ok-three.three = three _ _ (sym c.in_ok-three.ensures) in
    let s = c.args.s.now in
    let e = part-all _ s ∙ ap (λ (i : ℕ). drop i s) c.end-end.ensures in
    handed_on _ _ c.from_residual-in_err-readings.ensures.1 ∙ sym (last-bad _ _ first _ e _ (sym c.in_err-readings.ensures))

pub returns : goal.returns
returns c =
    let first : Three c.args.s.now c.in_ok-three.three = three _ _ (sym c.in_ok-three.ensures) in
    let s = c.args.s.now in
    let e = part-all _ s ∙ ap (λ (i : ℕ). drop i s) c.end-end.ensures in
    sym (all-good _ _ first _ e _ (sym c.in_ok-readings.ensures))
