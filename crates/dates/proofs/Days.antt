-- Laws of a date's parts, over plain numbers, for the functions that make them. Assumes nothing.
use Prim.Native.Nat.{ℕ, ◌+◌, ◌-◌, ◌/◌, ◌≤◌, ◌<◌}
use native.Mathlib.Omega.{arith}
use mathlib.Core.Path.{◌≡◌, ap₂, sym, ◌∙◌}
use mathlib.Core.Logic.{◌↔◌, ◌⊎◌, inl, inr}
use mathlib.Core.Bool.{Bool, true, false, ◌&&◌}
use lib.Dec.{leb, ltb}
use borrow.Author.Tests.{le-leb, lt-leb, ltb-true, lt-ltb}
use Rattle.rule.specs.Counts.{DayInRange, MonthInRange, day_name, year_name, ji, bu, year_in_bu}
use Rattle.rule.specs.Rule.{
  month_start,
  small_remainder,
  month_length,
  InMonth,
  month_of_day,
  mid_term_day,
  solstice_year_of_month,
  civil_year_of_month,
  mid_term_number,
  marked,
  month_at,
  eclipse,
}
use Rattle.rule.specs.Reasons.{is, refused, within}
use Rattle.rule.specs.declared.Month.{Month}
use Rattle.rule.proofs.Months.{of-day, of-day-low, of-day-high, of-day-range, length-range, length-big, length-small, start-next, start-end}
use Rattle.rule.proofs.Last.{year-by-last, solstice-by-last, number-by-last, leap-by-last, ordinary-after, leap-after}
use Rattle.rule.proofs.Pairs.{lt-or-le}
use Rattle.rule.proofs.Answers.{stops, passes, both_true, fails}
use Rattle.dates.specs.Dates.{date_in, date_of, date_at, number_there, mid_term_of, named_month, day_in_month, day_of_named, day_of_date}
use Rattle.dates.proofs.Named.{named-range}

-- a day that stands in month n: p of the month's l days are before it
module _ (d n p l : ℕ) (i : n ≡ month_of_day d) (a : month_start n + p ≡ d) (b : l ≡ month_length n) where
  end : d - p + l ≡ month_start (n + 1)
  end = omega (arith, start-next n)

  pub between : DayInRange d → (p ≤ d) × (p < l) × (l ≤ 30) × (d - p + l ≤ 14989860)
  between r =
      let high : d < month_start (n + 1) = ((of-day n d).1 (sym i)).1 in
      let most : MonthInRange n = omega (arith, i, (of-day-range d).0 r) in (
        omega arith,
        omega (arith, end, high),
        omega (arith, length-range n),
        omega (arith, end, start-end (n + 1) (omega (arith, most))),
      )

  -- its date, made of them and of the last mid-term m before the month's end
  module _ (m : ℕ) (low : mid_term_day m < d - p + l) (high : d - p + l ≤ mid_term_day (m + 1)) where
    low' : mid_term_day m < month_start (n + 1)
    low' = omega (arith, low, end)

    high' : month_start (n + 1) ≤ mid_term_day (m + 1)
    high' = omega (arith, high, end)

    start : d - p ≡ month_start n
    start = omega arith

    its-year : {y : ℕ} → y ≡ (m + 10) / 12 → y ≡ civil_year_of_month n
    its-year h = h ∙ year-by-last n m low' high'

    its-month : {t k : ℕ} → t ≡ mid_term_day m → k ≡ mid_term_number m → marked (ltb t (d - p)) k ≡ month_at n
    unfolding month_at
    its-month h j = ap₂ marked (ap₂ ltb h start ∙ leap-by-last n m low' high') (j ∙ number-by-last n m low' high')

    day-of-month : p + 1 ≡ d - month_start n + 1
    day-of-month = omega arith

    its-solstice-year : {y : ℕ} → y ≡ m / 12 + 1 → y ≡ solstice_year_of_month n
    its-solstice-year h = h ∙ solstice-by-last n m low' high'

    pub made : {y s t k dn yn j b' v : ℕ} {mo : Month} {e : Bool} →
        y ≡ (m + 10) / 12 → s ≡ m / 12 + 1 → t ≡ mid_term_day m → k ≡ mid_term_number m → mo ≡ marked (ltb t (d - p)) k → dn ≡ day_name d →
        yn ≡ year_name y → (j ≡ ji s) × (b' ≡ bu s) × (v ≡ year_in_bu s) → e ≡ eclipse n →
        record {
          month = mo;
          year = y;
          day_of_month = p + 1;
          month_length = l;
          day_name = dn;
          year_name = yn;
          ji = j;
          bu = b';
          year_in_bu = v;
          eclipse = e;
        }
        ≡ date_of d
    unfolding date_of date_in
    made f s g h j k o q e = cc (i, b, day-of-month, its-year f, its-solstice-year s, j ∙ its-month g h, k, o, q.0, q.1, q.2, e)

pub in-month : (n m : ℕ) → m ≤ month_length n → day_in_month n m ≡ is (month_start n + (m - 1))
unfolding day_in_month
in-month n m h = passes (leb m (month_length n)) 5 (is (month_start n + (m - 1))) (le-leb m (month_length n) h)

pub thirtieth : (n m : ℕ) → month_length n < m → day_in_month n m ≡ refused 5
unfolding day_in_month
thirtieth n m h = stops (leb m (month_length n)) 5 (is (month_start n + (m - 1))) (lt-leb m (month_length n) h)

-- a month that had `left` left of its first day has no day m where that is above 498 and m above 29, and else it has
module _ (n left m : ℕ) (e : left + small_remainder n ≡ 939) where
  both : ((ltb 498 left && ltb 29 m) ≡ true) ↔ ((498 < left) × (29 < m))
  both = both_true (ltb 498 left) (ltb 29 m) (ltb-true 498 left, lt-ltb 498 left) (ltb-true 29 m, lt-ltb 29 m)

  pub no-thirtieth : (ltb 498 left && ltb 29 m) ≡ true → month_length n < m
  no-thirtieth h = omega (arith, both.0 h, length-small n (omega (arith, e, both.0 h)))

  pub has-day : m ≤ 30 → (ltb 498 left && ltb 29 m) ≡ false → m ≤ month_length n
  has-day b h = go (lt-or-le 498 left) (lt-or-le 29 m)
    where
      no : (498 < left) × (29 < m) → ⊥
      no = (fails (ltb 498 left && ltb 29 m) both).0 h

      go : (498 < left) ⊎ (left ≤ 498) → (29 < m) ⊎ (m ≤ 29) → m ≤ month_length n
      go (inl small) (inl past) = absurd (no (small, past))
      go (inl small) (inr few) = omega (arith, length-range n)
      go (inr big) w = omega (arith, length-big n (omega (arith, e)))

pub no-day : (d : ℕ) → 14989859 < d → date_at d ≡ refused 6
unfolding date_at
no-day d h = stops (leb d 14989859) 6 (is (date_of d)) (lt-leb d 14989859 h)

pub a-day : (d : ℕ) → DayInRange d → date_at d ≡ is (date_of d)
unfolding date_at
a-day d h = passes (leb d 14989859) 6 (is (date_of d)) (le-leb d 14989859 h)

-- which month is asked for, and that there is none; m is the mid-term of the number
module _ (m q : ℕ) where
  abbrev n : ℕ
  n = month_of_day (mid_term_day m)

  holds : InMonth n (mid_term_day m)
  holds = (of-day-low (mid_term_day m), of-day-high (mid_term_day m))

  pub ordinary-asked : {l : Bool} → l ≡ false → day_in_month n q ≡ day_of_named m l q
  unfolding day_of_named named_month
  ordinary-asked f = rw (f)

  pub no-leap : {l : Bool} → l ≡ true → mid_term_day (m + 1) < month_start (n + 2) → refused 4 ≡ day_of_named m l q
  unfolding day_of_named named_month
  no-leap f h = rw (f, ordinary-after n m holds h)

  pub leap-asked : {l : Bool} → l ≡ true → month_start (n + 2) ≤ mid_term_day (m + 1) → day_in_month (n + 1) q ≡ day_of_named m l q
  unfolding day_of_named named_month
  leap-asked f h = rw (f, leap-after n m holds h)

  -- the month after the ordinary one ends in the range
  pub named_end : m < 492480 → month_start (n + 2) ≤ 14989860
  unfolding named_month
  named_end h = start-end (n + 2) (omega (arith, named-range m h))

-- the refusals of a date, in order, from the tests
module _ (y k : ℕ) (l : Bool) (q : ℕ) where
  pub no-year : 41040 < y → day_of_date y k l q ≡ refused 1
  unfolding day_of_date
  no-year h = rw (lt-leb y 41040 h)

  module _ (a : y ≤ 41040) where
    pub no_number_lem : within 1 12 k ≡ false → day_of_date y k l q ≡ refused 2
    unfolding day_of_date
    no_number_lem h = rw (le-leb y 41040 a, h)

    pub no-day-of-month : within 1 12 k ≡ true → within 1 30 q ≡ false → day_of_date y k l q ≡ refused 3
    unfolding day_of_date
    no-day-of-month b h = rw (le-leb y 41040 a, b, h)

    pub not_there : within 1 12 k ≡ true → within 1 30 q ≡ true → number_there y k ≡ false → day_of_date y k l q ≡ refused 16
    unfolding day_of_date
    not_there b c h = rw (le-leb y 41040 a, b, c, h)

    pub in-ranges : within 1 12 k ≡ true → within 1 30 q ≡ true → number_there y k ≡ true → day_of_date y k l q ≡ day_of_named (mid_term_of y k) l q
    unfolding day_of_date
    in-ranges b c h = rw (le-leb y 41040 a, b, c, h)
