-- What each call gives is exactly what the paper says of it, and nothing else is. Assumes nothing.
use Rattle.std.specs.Prelude.{Option, Some, None}
use Prim.Native.Nat.{ℕ, ◌+◌, ◌-◌, ◌*◌, ◌/◌, ◌≤◌, ◌<◌}
use native.Mathlib.Omega.{arith}
use mathlib.Core.Path.{◌≡◌, refl, ap, sym, ◌∙◌}
use mathlib.Core.Logic.Iff
use mathlib.Core.Logic.{◌↔◌, ⊎_elim}
use mathlib.Core.Bool.{Bool, true, false}
use Rattle.rule.specs.Counts.{CivilYearInRange, elapsed, day_name, ji, bu, year_in_bu, head_name}
use Rattle.rule.specs.Rule.{
  month_start,
  small_remainder,
  quarter_day,
  quarter_parts,
  year_term,
  solstice_first_month,
  leap_remainder,
  months_in_solstice_year,
  leap,
  month_number,
  month_at,
  number_of,
  leap_mark,
  InCivilYear,
  civil_first_month,
  months_in_civil_year,
  eclipse,
}
use Rattle.rule.specs.Paper.{IsTerm, NoMidTerm, IsMonth}
use Rattle.rule.specs.declared.Month.TheVariants.{Leap}
use Rattle.rule.specs.declared.Quarter.{Quarter}
use Rattle.rule.specs.declared.Term.{Term}
use Rattle.rule.proofs.Months
use Rattle.rule.proofs.Years
use Rattle.rule.proofs.CivilYears.{civil-so-many, civil-end}
use Rattle.rule.proofs.Civil.{civil-year-opens}
use Rattle.rule.proofs.Answers.{same_test, exactly}
use Rattle.rule.proofs.Leap.{at_mark, mark-at, number_at}
use Rattle.rule.proofs.Pairs.{lt-or-le}
use Rattle.rule.proofs.Paper as Rule
use Rattle.facts.specs.declared.SolsticeYear.{SolsticeYear}
use Rattle.facts.specs.declared.LeapMonth.{LeapMonth}
use Rattle.facts.specs.declared.YearFacts.{YearFacts}
use Rattle.facts.specs.declared.MonthFacts.{MonthFacts}
use Rattle.facts.specs.Facts.{solstice_year, leap_month, year_facts, month_facts, quarter_of, term_of}
use Rattle.facts.specs.Paper.{SolsticeYearBegins, YearOpens, IsSolsticeYear, LeapMonthOf, IsYearFacts, IsMonthFacts, IsQuarter}
use Rattle.facts.proofs.Leaps.{leap-found, leap-none, leap-is}
use Rattle.facts.proofs.Made.{solstice-year-made, year-made, month-made, quarter-made, term_made}

-- whole part and rest: of a year's months, a month's days, a quarter's
year-parts : (y : ℕ) → (19 * solstice_first_month y + leap_remainder y ≡ 235 * elapsed y) × (leap_remainder y < 19)
unfolding solstice_first_month leap_remainder
year-parts y = (omega arith, omega arith)

year-whole : (y a b : ℕ) → 19 * a + b ≡ 235 * elapsed y → b < 19 → (a ≡ solstice_first_month y) × (b ≡ leap_remainder y)
unfolding solstice_first_month leap_remainder
year-whole y a b e h = (omega arith, omega arith)

month-parts : (n : ℕ) → (940 * month_start n + small_remainder n ≡ 27759 * n) × (small_remainder n < 940)
unfolding month_start small_remainder
month-parts n = (omega arith, omega arith)

month-whole : (n a b : ℕ) → 940 * a + b ≡ 27759 * n → b < 940 → (a ≡ month_start n) × (b ≡ small_remainder n)
unfolding month_start small_remainder
month-whole n a b e h = (omega arith, omega arith)

quarter-parts : (n q : ℕ) → IsQuarter n q (quarter_of n q)
unfolding quarter_of quarter_day quarter_parts
quarter-parts n q = omega arith

quarter-whole : (n q : ℕ) (r : Quarter) → IsQuarter n q r → (r.day ≡ quarter_day n q) × (r.parts ≡ quarter_parts n q)
unfolding quarter_day quarter_parts
quarter-whole n q r h = (omega arith, omega arith)

pub quarter-exactly : (n q : ℕ) (r : Quarter) → (quarter_of n q ≡ r) ↔ IsQuarter n q r
quarter-exactly n q = exactly (IsQuarter n q) (quarter_of n q) (quarter-parts n q) (λ r h. quarter-made n q r (quarter-whole n q r h))

pub term-exactly : (y k : ℕ) (r : Term) → (term_of y k ≡ r) ↔ IsTerm (year_term y k) r.day r.parts
unfolding term_of
term-exactly y k =
    let t = year_term y k in
    exactly (λ r. IsTerm t r.day r.parts) (term_of y k) ((Rule.one-pair-a-term t _ _).1 (refl, refl))
    (λ r h. term_made y k t r refl ((Rule.one-pair-a-term t r.day r.parts).0 h))

-- a month
month-there : (n : ℕ) → IsMonthFacts n (month_facts n)
unfolding month_facts
month-there n =
    record {
      its-month = (Rule.month-literally n (month_at n)).0 refl;
      starts = (month-parts n).0;
      below = (month-parts n).1;
      its-length = sym (Months.start-next n);
      thirty = (Rule.month-lengths n).thirty;
      twenty-nine = (Rule.month-lengths n).twenty-nine;
      its-name = refl;
      its-eclipse = Rule.eclipse-rule n;
    }

month-only : (n : ℕ) (f : MonthFacts) → IsMonthFacts n f → f ≡ month_facts n
month-only n f h =
    month-made n
    (sym ((Rule.month-literally n f.month).1 h.its-month))
    whole.0
    whole.1
    (omega (arith, h.its-length, whole.0, Months.start-next n))
    h.its-name
    (same_test f.eclipse (eclipse n) h.its-eclipse (Rule.eclipse-rule n))
  where
    whole : (f.first_day ≡ month_start n) × (f.small_remainder ≡ small_remainder n)
    whole = month-whole n f.first_day f.small_remainder h.starts h.below

pub month-exactly : (n : ℕ) (f : MonthFacts) → (month_facts n ≡ f) ↔ IsMonthFacts n f
month-exactly n = exactly (IsMonthFacts n) (month_facts n) (month-there n) (month-only n)

-- a solstice year, of 13 months or of 12
module _ (y : ℕ) (l : 1 ≤ y) where
  begins-there : SolsticeYearBegins y (solstice_first_month y) (leap_remainder y) (months_in_solstice_year y)
  begins-there =
      record {
        begins = (year-parts y).0;
        below = (year-parts y).1;
        thirteen = (Rule.thirteen-in-a-solstice-year y l).thirteen;
        twelve = (Rule.thirteen-in-a-solstice-year y l).twelve;
      }

  begins-only : (a b m : ℕ) → SolsticeYearBegins y a b m → (a ≡ solstice_first_month y) × (b ≡ leap_remainder y) × (m ≡ months_in_solstice_year y)
  begins-only a b m h = (whole.0, whole.1, ⊎_elim short long (lt-or-le b 12))
    where
      whole : (a ≡ solstice_first_month y) × (b ≡ leap_remainder y)
      whole = year-whole y a b h.begins h.below

      short : b < 12 → m ≡ months_in_solstice_year y
      short g = omega (arith, h.twelve.1 g, Years.months-short y l (omega (arith, whole.1)))

      long : 12 ≤ b → m ≡ months_in_solstice_year y
      long g = omega (arith, h.thirteen.1 g, Years.months-long y l (omega (arith, whole.1)))

  -- its place among the years
  solstice-there : IsSolsticeYear y (solstice_year y)
  unfolding solstice_year
  solstice-there =
      record {
        w = elapsed y / 4560;
        its-place = Rule.place-of-year y;
        its-head = Rule.head-name y l;
        its-months = begins-there;
      }

  solstice-only : (s : SolsticeYear) → IsSolsticeYear y s → s ≡ solstice_year y
  solstice-only s h =
      solstice-year-made y
      place.0
      place.1
      place.2
      head
      months.0
      months.1
      months.2
    where
      place : (s.ji ≡ ji y) × (s.bu ≡ bu y) × (s.year_in_bu ≡ year_in_bu y)
      place = Rule.only-one-place y h.w s.ji s.bu s.year_in_bu h.its-place

      head : s.head_name ≡ head_name s.bu
      head =
          h.its-head ∙ ap (λ (i : ℕ). day_name (month_start (solstice_first_month (y - (i - 1))))) place.2
          ∙ sym (Rule.head-name y l) ∙ ap head_name (sym place.1)

      months : (s.first_month ≡ solstice_first_month y) × (s.leap_remainder ≡ leap_remainder y) × (s.months ≡ months_in_solstice_year y)
      months = begins-only s.first_month s.leap_remainder s.months h.its-months

  pub solstice-exactly : (s : SolsticeYear) → (solstice_year y ≡ s) ↔ IsSolsticeYear y s
  solstice-exactly = exactly (IsSolsticeYear y) (solstice_year y) solstice-there solstice-only

-- two runs of months that are the same, of which the second is not empty
same-run : (a m b k : ℕ) → 1 ≤ k → ((n : ℕ) → ((a ≤ n) × (n < a + m)) ↔ ((b ≤ n) × (n < b + k))) → (a ≡ b) × (m ≡ k)
same-run a m b k l h =
    let first = (h b).1 (omega arith, omega arith) in
    let last = (h (b + k - 1)).1 (omega arith, omega arith) in
    let first' = (h a).0 (omega arith, omega (arith, first)) in
    let last' = (h (a + m - 1)).0 (omega (arith, first), omega (arith, first)) in
    (omega (arith, first, first'), omega (arith, first, last, first', last'))

-- a civil year, with the months from its first up to the next year's
module _ (y : ℕ) (l : CivilYearInRange y) where
  opens-there : YearOpens y (civil_first_month y) (months_in_civil_year y)
  opens-there =
      let o = civil-year-opens y l in
      record { month-1 = o.month-1; month-11 = o.month-11; the-months = o.so-many }

  opens-only : (a m : ℕ) → YearOpens y a m → (a ≡ civil_first_month y) × (m ≡ months_in_civil_year y)
  opens-only a m h =
      same-run a m (civil_first_month y) (months_in_civil_year y) (civil-end y l).1
      (λ n. Iff.trans (λ i. (h.the-months n).1 i, λ i. (h.the-months n).0 i) (civil-so-many y n l))

  -- its leap month
  pub leap-there : LeapMonthOf y (leap_month y)
  leap-there = record { with-one = λ k n. (there k n, back k n); without = (none, λ h. leap-none y l (λ n i. ordinary h n i (leap n) refl)) }
    where
      there : (k n : ℕ) → leap_month y ≡ Some (record { number = k; month = n }) → InCivilYear y n × IsMonth n (Leap k)
      there k n f = let h = leap-is y k n l f in (h.0, (Rule.month-literally n (Leap k)).0 (at_mark n k true h.1 h.2))

      back : (k n : ℕ) → InCivilYear y n × IsMonth n (Leap k) → leap_month y ≡ Some (record { number = k; month = n })
      back k n h =
          let e : month_at n ≡ Leap k = (Rule.month-literally n (Leap k)).1 h.1 in
          leap-found y n h.0 (sym (mark-at n) ∙ ap leap_mark e) ∙ ap (λ (j : ℕ). Some (record { number = j; month = n })) (sym (number_at n) ∙ ap number_of e)

      none : leap_month y ≡ None → (n : ℕ) → InCivilYear y n → NoMidTerm n → ⊥
      none e n i h =
          let g : leap_month y ≡ Some (record { number = month_number n; month = n }) = leap-found y n i ((Rule.leap-without-mid-term n).1 h) in
          let o : ◌≡◌ {A = ℕ} 0 1 = cc in omega arith

      ordinary : ((n : ℕ) → InCivilYear y n → NoMidTerm n → ⊥) → (n : ℕ) → InCivilYear y n → (b : Bool) → leap n ≡ b → leap n ≡ false
      ordinary h n i true e = absurd (h n i ((Rule.leap-without-mid-term n).0 e))
      ordinary h n i false e = e

  leap-only : (m : Option LeapMonth) → LeapMonthOf y m → m ≡ leap_month y
  leap-only None h = sym (leap-there.without.1 (h.without.0 refl))
  leap-only (Some l) h = sym ((leap-there.with-one l.number l.month).1 ((h.with-one l.number l.month).0 refl))

  -- its own facts
  year-there : IsYearFacts y (year_facts y)
  unfolding year_facts
  year-there = record { its-name = refl; its-months = opens-there; its-leap-month = leap-there }

  year-only : (f : YearFacts) → IsYearFacts y f → f ≡ year_facts y
  year-only f h =
      year-made y h.its-name months.0 months.1
      (leap-only f.leap_month h.its-leap-month)
    where
      months : (f.first_month ≡ civil_first_month y) × (f.months ≡ months_in_civil_year y)
      months = opens-only f.first_month f.months h.its-months

  pub year-exactly : (f : YearFacts) → (year_facts y ≡ f) ↔ IsYearFacts y f
  year-exactly = exactly (IsYearFacts y) (year_facts y) year-there year-only
