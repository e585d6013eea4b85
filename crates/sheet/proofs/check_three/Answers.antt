-- `sheet::check_three` meets its contract: each section stops it, or is found good. Assumes nothing.
use Rattle.std.proofs.Common.{refl, ap, sym, ◌∙◌, arith}
use Rattle.rule.specs.Reasons.{is}
use Rattle.rule.proofs.Answers.{handed_on}
use Rattle.sheet.specs.Sheet.{ranged, year_items, month_items, day_items}
use Rattle.sheet.proofs.Reading.{found, front-stops, front-passes, front-ends, counts-found}
use Rattle.sheet.proofs.check_three.Goals as goal

pub returns-in_err-years : goal.returns-in_err-years
returns-in_err-years c =
    handed_on _ _ c.from_residual.ensures.1 ∙ sym (front-stops (ranged year_items) _ _ _ _ (sym c.in_err-years.ensures))

pub overflow_mul-t : goal.overflow_mul-t
overflow_mul-t c = omega (arith, (found (ranged year_items) _ _ _ refl (sym c.in_ok-years.ensures)).few)

pub overflow_add-t : goal.overflow_add-t
overflow_add-t c = omega (arith, (found (ranged year_items) _ _ _ refl (sym c.in_ok-years.ensures)).few)

pub slice_bounds-t-count : goal.slice_bounds-t-count
slice_bounds-t-count c = omega (arith, (found (ranged year_items) _ _ _ refl (sym c.in_ok-years.ensures)).long)

pub slice_bounds-t-start : goal.slice_bounds-t-start
slice_bounds-t-start c = omega (arith, (found (ranged year_items) _ _ _ refl (sym c.in_ok-years.ensures)).long)

pub returns-in_err-months : goal.returns-in_err-months
returns-in_err-months c =
    handed_on _ _ c.from_residual-in_err-months.ensures.1
    ∙ sym (front-passes (ranged year_items) _ _ _ _ (sym c.in_ok-years.ensures)
    ∙ front-stops (ranged month_items) _ _ _ _ (sym c.in_err-months.ensures))

pub overflow_mul-u : goal.overflow_mul-u
overflow_mul-u c = omega (arith, (found (ranged month_items) _ _ _ refl (sym c.in_ok-months.ensures)).few)

pub overflow_add-u : goal.overflow_add-u
overflow_add-u c = omega (arith, (found (ranged month_items) _ _ _ refl (sym c.in_ok-months.ensures)).few)

pub slice_bounds-u-count : goal.slice_bounds-u-count
slice_bounds-u-count c = omega (arith, (found (ranged month_items) _ _ _ refl (sym c.in_ok-months.ensures)).long)

pub slice_bounds-u-start : goal.slice_bounds-u-start
slice_bounds-u-start c = omega (arith, (found (ranged month_items) _ _ _ refl (sym c.in_ok-months.ensures)).long)

pub returns-in_err-days : goal.returns-in_err-days
returns-in_err-days c =
    handed_on _ _ c.from_residual-in_err-days.ensures.1
    ∙ sym (front-passes (ranged year_items) _ _ _ _ (sym c.in_ok-years.ensures)
    ∙ front-passes (ranged month_items) _ _ _ _ (sym c.in_ok-months.ensures)
    ∙ front-stops (ranged day_items) _ _ _ _ (sym c.in_err-days.ensures))

pub returns : goal.returns
returns c =
    let y = found (ranged year_items) _ _ _ refl (sym c.in_ok-years.ensures) in
    let m = found (ranged month_items) _ _ _ refl (sym c.in_ok-months.ensures) in
    let d = found (ranged day_items) _ _ _ refl (sym c.in_ok-days.ensures) in
    ap is (sym (counts-found _ _ _ _ _ _ y y.next m m.next d))
    ∙ sym (front-passes (ranged year_items) _ _ _ _ (sym c.in_ok-years.ensures)
    ∙ front-passes (ranged month_items) _ _ _ _ (sym c.in_ok-months.ensures)
    ∙ front-passes (ranged day_items) _ _ _ _ (sym c.in_ok-days.ensures)
    ∙ front-ends _ _)
