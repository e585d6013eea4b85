-- Runs of days: a month's part of a window, a list filled place by place. Assumes nothing.
use Prim.Native.Nat.{ℕ, ◌+◌, ◌-◌, ◌≤◌, ◌<◌, min, max}
use native.Mathlib.Nat.{sub_self, zero-add}
use native.Mathlib.Omega.{arith}
use mathlib.Core.Path.{◌≡◌, ap, ap₂, sym, ◌∙◌}
use mathlib.Core.Bool.{Bool, true, false, ◌&&◌}
use mathlib.Core.List.{List, [], ◌∷◌, ◌++◌, append-nil}
use lib.ListN.{length, set, length-append}
use lib.Seq.{sets}
use Rattle.rule.specs.Counts.{MonthInRange}
use Rattle.rule.specs.Lists.{kept, those}
use Rattle.rule.specs.Rule.{month_start, month_of_day}
use Rattle.rule.proofs.Lists.{bit, complement, length-kept, those-same, none_pass, empty, from-to, one_more}
use Rattle.rule.proofs.Stores.{sets-append}
use Rattle.rule.proofs.Months.{of-day-only, of-day-low, of-day-high, start-least, start-most, start-inside}
use Rattle.reading.specs.declared.Reading.{Reading}
use Rattle.reading.specs.Readings.{month_fits, day_fits, fits, PartOfMonth, fitting}

-- the days of a part of a month: its own four values are looked at once
module _ {n from to : ℕ} (h : PartOfMonth n from to) where
  of-month : (i : ℕ) → i < to - from → month_of_day (from + i) ≡ n
  of-month i l = of-day-only n (from + i) (omega (arith, h.low), omega (arith, h.high))

  -- a day of it fits by its own values, or not at all
  fits-as : (r : Reading) {b : Bool} → month_fits r n ≡ b → (i : ℕ) → i < to - from → fits r (from + i) ≡ (b && day_fits r (month_start n) (from + i))
  unfolding fits
  fits-as r e i l =
      ap (λ (m : ℕ). month_fits r m && day_fits r (month_start m) (from + i)) (of-month i l)
      ∙ ap (λ (b : Bool). b && day_fits r (month_start n) (from + i)) e

  pub month-fitting : (r : Reading) {s : ℕ} → s ≡ month_start n → month_fits r n ≡ true → those (day_fits r s) from (to - from) ≡ fitting r from (to - from)
  unfolding fitting
  month-fitting r s e =
      ap (λ (s : ℕ). those (day_fits r s) from (to - from)) s
      ∙ sym (those-same (fits r) (day_fits r (month_start n)) from (to - from) (fits-as r e))

  pub month-not-fitting : (r : Reading) → month_fits r n ≡ false → fitting r from (to - from) ≡ []
  unfolding fitting
  month-not-fitting r e = empty (those (fits r) from (to - from)) (none_pass (fits r) from (to - from) (fits-as r e))

  pub part-short : to ≤ month_start n + 30
  part-short = omega (arith, h.high, start-most n)

-- the fitting days from `first` up to `day` and on up to `to`
module _ (r : Reading) (first day to : ℕ) (h : first ≤ day) (g : day ≤ to) where
  fitting-on : fitting r first (to - first) ≡ fitting r first (day - first) ++ fitting r day (to - day)
  unfolding fitting
  fitting-on = from-to (fits r) first day to h g

  length-on : length (fitting r first (to - first)) ≡ length (fitting r first (day - first)) + length (fitting r day (to - day))
  length-on = ap length fitting-on ∙ length-append (fitting r first (day - first)) (fitting r day (to - day))

-- no day yet
pub none_yet : (p : ℕ → Bool) (a : ℕ) → those p a (a - a) ≡ []
unfolding those
none_yet p a = ap (those p a) (sub_self a)

-- a run of days counted and filled one day at a time
module _ (p : ℕ → Bool) (from day : ℕ) (h : from ≤ day) where
  pub counted-more : length (those p from (day + 1 - from)) ≡ length (those p from (day - from)) + bit (p day)
  counted-more =
      ap length (one_more p from day h) ∙ length-append (those p from (day - from)) (kept (p day) day)
      ∙ ap (λ (n : ℕ). length (those p from (day - from)) + n) (length-kept (p day) day)

  pub counted-before : (to : ℕ) → day ≤ to → length (those p from (day - from)) ≤ length (those p from (to - from))
  counted-before to g =
      omega (arith, ap length (from-to p from day to h g) ∙ length-append (those p from (day - from)) (those p day (to - day)))

  pub filled_more : (out : List ℕ) (at : ℕ) → p day ≡ true →
      let passed = those p from (day - from) in
      set (sets out at passed) (at + length passed) day ≡ sets out at (those p from (day + 1 - from))
  filled_more out at e =
      sym (sets-append (those p from (day - from)) (day ∷ []) out at)
      ∙ ap (sets out at) (sym (one_more p from day h ∙ ap (λ (b : Bool). those p from (day - from) ++ kept b day) e))

  pub filled-same : (out : List ℕ) (at : ℕ) → p day ≡ false → sets out at (those p from (day - from)) ≡ sets out at (those p from (day + 1 - from))
  filled-same out at e =
      let passed = those p from (day - from) in
      ap (sets out at) (sym (one_more p from day h ∙ ap (λ (b : Bool). passed ++ kept b day) e ∙ append-nil passed))

pub at-most-all : (p : ℕ → Bool) (a k : ℕ) → length (those p a k) ≤ k
at-most-all p a k = omega (arith, complement p a k)

pub at-most-fitting : (r : Reading) (a k : ℕ) → length (fitting r a k) ≤ k
unfolding fitting
at-most-fitting r a k = at-most-all (fits r) a k

pub none-fitting : (r : Reading) (a : ℕ) → fitting r a (a - a) ≡ []
unfolding fitting
none-fitting r a = none_yet (fits r) a

-- a walk over the window from `first` up to `end`, month by month: `day` is where month n's part begins, or the end
pub record Walk (first end day n : ℕ) : Type 0 where
  pub here : day ≡ min (max first (month_start n)) end
  pub passed : first < month_start (n + 1)

pub walk-starts : {first end n : ℕ} → first < end → n ≡ month_of_day first → Walk first end first n
walk-starts {first} {end} {n} h e =
    let a : month_start (month_of_day first) ≡ month_start n = ap month_start (sym e) in
    let b : month_start (month_of_day first + 1) ≡ month_start (n + 1) = ap (λ (m : ℕ). month_start (m + 1)) (sym e) in
    record { here = omega (arith, of-day-low first); passed = omega (arith, of-day-high first) }

module _ {first end day n : ℕ} (h : first < end) (w : Walk first end day n) where
  pub walk_inside : (first ≤ day) × (day ≤ end)
  walk_inside = omega (arith, w.here)

  pub walk-month : end ≤ 14989860 → day < end → MonthInRange n
  walk-month l g = start-inside n (omega (arith, w.here))

  -- the month's part, from `day` up to `to`
  module _ {to : ℕ} (g : day < end) (e : to ≡ min (month_start (n + 1)) end) where
    pub walk-goes-on : (day < to) × (to ≤ end)
    walk-goes-on = omega (arith, w.here, w.passed, start-least n)

    pub walk-part : end ≤ 14989860 → PartOfMonth n day to
    walk-part l =
        record {
          month = walk-month l g;
          low = omega (arith, w.here);
          some = omega (arith, walk-goes-on);
          high = omega arith;
        }

    pub walk-next : Walk first end to (n + 1)
    walk-next = record { here = omega (arith, w.passed); passed = omega (arith, w.passed, start-least (n + 1)) }

    -- the fitting days of the window so far, k of them, and those of the month
    module _ (r : Reading) {k : ℕ} (c : k ≡ length (fitting r first (day - first))) where
      so_far : length (fitting r first (to - first)) ≡ k + length (fitting r day (to - day))
      so_far = omega (arith, c, length-on r first day to walk_inside.0 (omega (arith, walk-goes-on)))

      pub walk-counted : {j : ℕ} → j ≡ length (fitting r day (to - day)) → k + j ≡ length (fitting r first (to - first))
      walk-counted d = omega (arith, so_far, d)

      pub walk-room : k + length (fitting r day (to - day)) ≤ length (fitting r first (end - first))
      walk-room = omega (arith, so_far, length-on r first to end (omega (arith, walk_inside, walk-goes-on)) walk-goes-on.1)

      pub walk-filled : (old : List ℕ) {out new : List ℕ} →
          out ≡ sets old 0 (fitting r first (day - first)) → new ≡ sets out k (fitting r day (to - day)) →
          new ≡ sets old 0 (fitting r first (to - first))
      walk-filled old o p =
          let before = fitting r first (day - first) in
          let month = fitting r day (to - day) in
          p
          ∙ ap₂ (λ (l : List ℕ) (i : ℕ). sets l i month) o (c ∙ sym (zero-add (length before)))
          ∙ sym (sets-append before month old 0)
          ∙ sym (ap (sets old 0) (fitting-on r first day to walk_inside.0 (omega (arith, walk-goes-on))))
