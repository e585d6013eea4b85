-- The last mid-term before a month's end says the month's civil and solstice years and its number, and whether it is leap. Assumes nothing.
use Rattle.std.proofs.Common.{◌≡◌, ℕ, ◌+◌, ◌/◌, ◌<◌, ◌≤◌, Bool, true, false, ltb, sym, refl, ap, ◌∙◌, arith, le-ltb, lt-ltb}
use Rattle.rule.specs.Rule.{
  month_start,
  InMonth,
  mid_term_day,
  mid_terms_before,
  solstice_year_of_month,
  leap,
  mid_term_number,
  month_number,
  civil_year_of_month,
}
use Rattle.rule.proofs.Leap.{before-iff, before-mono, before-step, holds-next, leap-stays, ordinary-rises, stays-leap, rises-ordinary, number-range}
use Rattle.rule.proofs.CivilYears.{civil-count, solstice-count}

module _ (n m : ℕ) (low : mid_term_day m < month_start (n + 1)) (high : month_start (n + 1) ≤ mid_term_day (m + 1)) where
  all-before : mid_terms_before (n + 1) ≡ m + 1
  all-before =
      let no : ¬ (m + 1 < mid_terms_before (n + 1)) = λ h. omega (arith, high, (before-iff (n + 1) (m + 1)).0 h) in
      omega (arith, (before-iff (n + 1) m).1 low)

  pub number-by-last : mid_term_number m ≡ month_number n
  unfolding month_number
  number-by-last = ap mid_term_number (omega (arith, all-before))

  -- leap exactly where its day is before the month's start
  pub leap-by-last : ltb (mid_term_day m) (month_start n) ≡ leap n
  leap-by-last = go (leap n) refl
    where
      go : (b : Bool) → leap n ≡ b → ltb (mid_term_day m) (month_start n) ≡ leap n
      go true h = lt-ltb (mid_term_day m) (month_start n) ((before-iff n m).0 (omega (arith, all-before, leap-stays n h))) ∙ sym h
      go false h =
          let no : ¬ (mid_term_day m < month_start n) = λ g. omega (arith, all-before, ordinary-rises n h, (before-iff n m).1 g) in
          le-ltb (mid_term_day m) (month_start n) (omega arith) ∙ sym h

  pub year-by-last : (m + 10) / 12 ≡ civil_year_of_month n
  year-by-last = omega (arith, all-before, civil-count n, number-range n)

  pub solstice-by-last : m / 12 + 1 ≡ solstice_year_of_month n
  solstice-by-last = omega (arith, all-before, solstice-count n)

-- and the month after one that holds mid-term m is leap exactly where the next mid-term does not come before its end
module _ (n m : ℕ) (h : InMonth n (mid_term_day m)) where
  held : mid_terms_before (n + 1) ≡ m + 1
  held = (holds-next n m h).1

  end : month_start (n + 2) ≡ month_start (n + 1 + 1)
  end = ap month_start (omega arith)

  pub ordinary-after : mid_term_day (m + 1) < month_start (n + 2) → leap (n + 1) ≡ false
  ordinary-after soon =
      rises-ordinary (n + 1) (omega (arith, held, (before-iff (n + 1 + 1) (m + 1)).1 (omega (arith, end)), before-step (n + 1)))

  pub leap-after : month_start (n + 2) ≤ mid_term_day (m + 1) → leap (n + 1) ≡ true
  leap-after late =
      let no : ¬ (m + 1 < mid_terms_before (n + 1 + 1)) = λ g. omega (arith, late, end, (before-iff (n + 1 + 1) (m + 1)).0 g) in
      stays-leap (n + 1) (omega (arith, held, before-mono (n + 1) (n + 1 + 1) (omega arith)))
