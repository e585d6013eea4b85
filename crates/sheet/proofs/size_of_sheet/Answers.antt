-- `sheet::size_of_sheet` meets its contract: each list stops it, or is found good. Assumes nothing.
use Rattle.rule.proofs.Answers.{handed_on}
use Prim.Native.Nat.{ℕ, ◌+◌, ◌*◌, ◌≤◌}
use native.Mathlib.Omega.{arith}
use mathlib.Core.Path.{◌≡◌, ap, sym, ◌∙◌}
use mathlib.Core.List.{List, [], ◌∷◌, map}
use Rattle.std.proofs.lemmas.List.{map-id}
use lib.ListN.{length}
use Rattle.rule.specs.Reasons.{Answer, is, refused, and_then}
use Rattle.sheet.specs.Sheet.{Section, ranged, year_items, month_items, day_items, Lists, three_lists, in_order, section_written, sections_written, sheet_of, write_sheet}
use Rattle.sheet.proofs.Laying.{length-sheet}
use Rattle.sheet.proofs.Writing.{list-found, list-stops, list-passes, no-list}
use Rattle.sheet.proofs.size_of_sheet.Goals as goal

-- a list of numbers, as it is and by the number of each
as-numbers : (k : Section) (xs : List ℕ) (n : ℕ) (a : Answer ℕ) →
    and_then (section_written k (map (λ x. x) xs)) (λ b. is n) ≡ a → and_then (section_written k xs) (λ b. is n) ≡ a
as-numbers k xs n a h = rw (map-id xs) at h

-- the three lists l, of which the years, the months and the days are found good one after the other, with so many items
module _ (l : Lists) where
  abbrev YearsFound : ℕ → Type 0
  YearsFound y = and_then (section_written (ranged year_items) l.years) (λ b. is (length l.years)) ≡ is y

  abbrev MonthsFound : ℕ → Type 0
  MonthsFound m = and_then (section_written (ranged month_items) l.months) (λ b. is (length l.months)) ≡ is m

  abbrev DaysFound : ℕ → Type 0
  DaysFound d = and_then (section_written (ranged day_items) l.days) (λ b. is (length l.days)) ≡ is d

  -- the sheet's size, before the years, after them, after the months, after the days
  module _ {A : Type 0} (z : A) where
    after-years : (y : ℕ) → YearsFound y →
        and_then (write_sheet l) (λ b. is z)
        ≡ and_then (sections_written (ranged month_items ∷ ranged day_items ∷ []) (l.months, (l.days, tt))) (λ b. is z)
    unfolding write_sheet
    after-years y h = list-passes (ranged year_items) _ (in_order l) z _ _ h

    after-months : (y m : ℕ) → YearsFound y → MonthsFound m →
        and_then (write_sheet l) (λ b. is z) ≡ and_then (sections_written (ranged day_items ∷ []) (l.days, tt)) (λ b. is z)
    after-months y m h k = after-years y h ∙ list-passes (ranged month_items) _ _ z _ _ k

    after-days : (y m d : ℕ) → YearsFound y → MonthsFound m → DaysFound d → and_then (write_sheet l) (λ b. is z) ≡ is z
    after-days y m d h k g = after-months y m h k ∙ list-passes (ranged day_items) [] _ z _ _ g ∙ no-list z

    years-stop : (r : ℕ) → and_then (section_written (ranged year_items) l.years) (λ b. is (length l.years)) ≡ refused r →
        and_then (write_sheet l) (λ b. is z) ≡ refused r
    unfolding write_sheet
    years-stop r h = list-stops (ranged year_items) _ (in_order l) _ _ r h

    months-stop : (y r : ℕ) → YearsFound y → and_then (section_written (ranged month_items) l.months) (λ b. is (length l.months)) ≡ refused r →
        and_then (write_sheet l) (λ b. is z) ≡ refused r
    months-stop y r h k = after-years y h ∙ list-stops (ranged month_items) _ _ _ _ r k

    days-stop : (y m r : ℕ) → YearsFound y → MonthsFound m → and_then (section_written (ranged day_items) l.days) (λ b. is (length l.days)) ≡ refused r →
        and_then (write_sheet l) (λ b. is z) ≡ refused r
    days-stop y m r h k g = after-months y m h k ∙ list-stops (ranged day_items) _ _ _ _ r g

  -- the size, which fits
  size : (y m d : ℕ) → YearsFound y → MonthsFound m → DaysFound d → (6 + 2 * y + 4 * m + 4 * d ≡ length (sheet_of l)) × (length (sheet_of l) ≤ 10006)
  size y m d h k g =
      let a = list-found (ranged year_items) l.years y h in
      let b = list-found (ranged month_items) l.months m k in
      let e = list-found (ranged day_items) l.days d g in
      (omega (arith, length-sheet l, a.1, b.1, e.1), omega (arith, length-sheet l, a.0, b.0, e.0))

pub overflow_add-result-2 : goal.overflow_add-result-2
overflow_add-result-2 c =
    let a = c.args in
    let s = size (three_lists a.years.now a.months.now a.days.now) _ _ _ (as-numbers _ _ _ _ (sym c.in_ok-y.ensures)) (as-numbers _ _ _ _ (sym c.in_ok-m.ensures)) (as-numbers _ _ _ _ (sym c.in_ok-d.ensures)) in
    omega (arith, s.0, s.1)

pub overflow_add-result-3 : goal.overflow_add-result-3
overflow_add-result-3 c =
    let a = c.args in
    let s = size (three_lists a.years.now a.months.now a.days.now) _ _ _ (as-numbers _ _ _ _ (sym c.in_ok-y.ensures)) (as-numbers _ _ _ _ (sym c.in_ok-m.ensures)) (as-numbers _ _ _ _ (sym c.in_ok-d.ensures)) in
    omega (arith, s.0, s.1)

pub returns-in_err-y : goal.returns-in_err-y
returns-in_err-y c =
    let a = c.args in handed_on _ _ c.from_residual.ensures.1 ∙ sym (years-stop (three_lists a.years.now a.months.now a.days.now) _ _ (as-numbers _ _ _ _ (sym c.in_err-y.ensures)))

pub returns-in_err-m : goal.returns-in_err-m
returns-in_err-m c =
    let a = c.args in handed_on _ _ c.from_residual-in_err-m.ensures.1 ∙ sym (months-stop (three_lists a.years.now a.months.now a.days.now) _ c.in_ok-y.y _ (as-numbers _ _ _ _ (sym c.in_ok-y.ensures)) (as-numbers _ _ _ _ (sym c.in_err-m.ensures)))

pub returns-in_err-d : goal.returns-in_err-d
returns-in_err-d c =
    let a = c.args in handed_on _ _ c.from_residual-in_err-d.ensures.1 ∙ sym (days-stop (three_lists a.years.now a.months.now a.days.now) _ c.in_ok-y.y c.in_ok-m.m _ (as-numbers _ _ _ _ (sym c.in_ok-y.ensures)) (as-numbers _ _ _ _ (sym c.in_ok-m.ensures)) (as-numbers _ _ _ _ (sym c.in_err-d.ensures)))

pub returns : goal.returns
returns c =
    let a = c.args in
    let l = three_lists a.years.now a.months.now a.days.now in
    let y = as-numbers _ _ _ _ (sym c.in_ok-y.ensures) in
    let m = as-numbers _ _ _ _ (sym c.in_ok-m.ensures) in
    let d = as-numbers _ _ _ _ (sym c.in_ok-d.ensures) in
    ap is (size l _ _ _ y m d).0 ∙ sym (after-days l _ _ _ _ y m d)
