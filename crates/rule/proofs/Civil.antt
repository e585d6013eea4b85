-- The sentences of specs/Civil, proved, each under its name in small letters. Assumes nothing.
use Rattle.std.proofs.Common.{◌≡◌, ℕ, zero, suc, ◌+◌, ◌-◌, ◌*◌, ◌/◌, ◌<◌, ◌≤◌, Bool, true, false, cond, not, ◌&&◌, eqb, leb, length, sym, refl, ap, ◌∙◌, subst, ap₂, inl, inr, ⊎_elim, add-one, arith, length-append, eq-eqb, ne_eqb, le-leb, leb-false, leb-true}
use mathlib.Core.Bool.{and-true, and-false}
use borrow.Author.Tests.{lt-leb}
use Rattle.rule.specs.Counts.{CivilYearInRange}
use Rattle.rule.specs.Lists.{those}
use Rattle.rule.specs.Rule.{
  month_start,
  month_length,
  InMonth,
  solstice_first_month,
  leap_remainder,
  InSolsticeYear,
  solstice_year_of_month,
  mid_terms_before,
  leap,
  mid_term_number,
  month_number,
  closing,
  civil_year_of_month,
  solstice_year_of,
  civil_first_month,
  months_in_civil_year,
}
use Rattle.rule.specs.declared.Month.TheVariants.{Ordinary}
use Rattle.rule.specs.Paper.{IsMonth, AfterNamesake}
use Rattle.rule.specs.Civil as Civil
use Rattle.rule.specs.Civil.{civil_months_of, years_differ, in_nineteen}
use Rattle.rule.proofs.Computing.{rule-computed}
use Rattle.rule.proofs.Lists.{table, from-to, length-same, length-all, none_pass, within, in_window}
use Rattle.rule.proofs.Months
use Rattle.rule.proofs.Leap as Leaps
use Rattle.rule.proofs.Pairs.{lt-or-le}
use Rattle.rule.proofs.CivilYears as Years
use Rattle.rule.proofs.Paper.{month-literally}

pub civil-year : Civil.CivilYear
civil-year n = record { those-months = Years.one_less n; any-other = Years.no_less n }

pub one-civil-year-a-month : Civil.OneCivilYearAMonth
one-civil-year-a-month =
    record {
      one = Years.of-civil;
      in-range = λ y n i. let h = (Years.of-civil y n).0 i in subst CivilYearInRange h.1 (Years.civil-range n h.0);
    }

-- the month with which a civil year opens is ordinary, of number 1
month-1 : (y : ℕ) → 1 ≤ y → IsMonth (civil_first_month y) (Ordinary 1)
unfolding mid_term_number
month-1 y l =
    (month-literally n (Ordinary 1)).0
    (Leaps.at_mark n 1 false (Leaps.rises-ordinary n (omega (arith, held))) (Leaps.number-holding n (12 * y - 10) (Years.opens-holds y l) ∙ omega arith))
  where
    n : ℕ
    n = civil_first_month y

    held : (mid_terms_before n ≡ 12 * y - 10) × (mid_terms_before (n + 1) ≡ 12 * y - 10 + 1)
    held = Leaps.holds-next n (12 * y - 10) (Years.opens-holds y l)

month-0 : IsMonth 0 (Ordinary 11)
unfolding rule-computed
month-0 = (month-literally 0 (Ordinary 11)).0 refl

pub civil-year-opens : Civil.CivilYearOpens
unfolding civil_first_month
civil-year-opens y r =
    record {
      its_own = (Years.civil-so-many y (civil_first_month y) r).1 (omega arith, omega (arith, Years.civil-end y r));
      month-1 = month-1 y;
      month-11 = λ e. subst (λ (n : ℕ). IsMonth n (Ordinary 11)) {x = 0} (omega arith) month-0;
      up-to-next = Years.civil-months y;
      so-many = λ n. Years.civil-so-many y n r;
    }

pub civil-first-month : Civil.CivilFirstMonth
unfolding civil_first_month leap_remainder
civil-first-month y l = record { two-on = omega arith; three-on = omega arith }

-- the months of a year by its leap remainder, which goes on by 7 each year
opens-by-rest : (y : ℕ) → 1 ≤ y → civil_first_month y ≡ solstice_first_month y + 2 + (leap_remainder y + 1) / 19
unfolding civil_first_month solstice_first_month leap_remainder
opens-by-rest y l = omega arith

next-by-rest : (y : ℕ) → 1 ≤ y → civil_first_month (y + 1) ≡ solstice_first_month y + 14 + (leap_remainder y + 8) / 19
unfolding civil_first_month solstice_first_month leap_remainder
next-by-rest y l = omega arith

rest_below : (y : ℕ) → leap_remainder y < 19
unfolding leap_remainder
rest_below y = omega arith

months-by-rest : (y : ℕ) → 1 ≤ y → y ≤ 41039 → months_in_civil_year y + (leap_remainder y + 1) / 19 ≡ 12 + (leap_remainder y + 8) / 19
months-by-rest y l h = omega (arith, Years.civil-next y (omega arith), opens-by-rest y l, next-by-rest y l)

pub thirteen-in-a-civil-year : Civil.ThirteenInACivilYear
thirteen-in-a-civil-year y l h =
    record {
      thirteen = omega (arith, months-by-rest y l h, rest_below y);
      twelve = (
        λ e.
            ⊎_elim (λ g. inl (omega arith)) (λ g. inr (omega (arith, months-by-rest y l h, rest_below y)))
            (lt-or-le (leap_remainder y) 11),
        ⊎_elim (λ g. omega (arith, months-by-rest y l h)) (λ g. omega (arith, months-by-rest y l h)),
      );
    }

-- over the months of a civil year up to the next twelve mid-terms fall
twelve-mid-terms : (y : ℕ) → 1 ≤ y → y ≤ 41039 → mid_terms_before (civil_first_month y + months_in_civil_year y) ≡ 12 * y + 2
twelve-mid-terms y l h = ap mid_terms_before (Years.civil-next y (omega arith)) ∙ omega (arith, Years.before-civil (y + 1) (omega arith))

pub numbers-of-civil-year : Civil.NumbersOfCivilYear
unfolding mid_term_number table
numbers-of-civil-year y l h =
    Leaps.twelve-numbers (civil_first_month y) (months_in_civil_year y) (y - 1) 2
    (omega (arith, twelve-mid-terms y l h, Years.before-civil y l, Leaps.ordinary-counted (civil_first_month y) (months_in_civil_year y)))
    (omega (arith, Years.before-civil y l))

pub leap-in-its-civil-year : Civil.LeapInItsCivilYear
leap-in-its-civil-year y n i h =
    record {
      later = a.later;
      same-year = (omega (arith, i.0), subst (λ (k : ℕ). InSolsticeYear (solstice_year_of y k) (n - 1)) (sym a.same_number) a.same-year);
      ordinary-one = a.ordinary-one;
      same_number = a.same_number;
    }
  where
    a : AfterNamesake (InSolsticeYear (solstice_year_of y (month_number n))) n
    a = Leaps.after-namesake (solstice_year_of y (month_number n)) n i.1 h

-- the first year has none, the last one, and between them a year has so many as its months are more than its twelve mid-terms
leaps-of-ends : (length (civil_months_of leap 0) ≡ 0) × (length (civil_months_of leap 41040) ≡ 1)
unfolding rule-computed
leaps-of-ends = (refl, refl)

leaps-between : (y : ℕ) → 1 ≤ y → y ≤ 41039 → length (civil_months_of leap y) + 12 ≡ months_in_civil_year y
leaps-between y l h =
    omega (arith, twelve-mid-terms y l h, Years.before-civil y l, Leaps.leaps-counted (civil_first_month y) (months_in_civil_year y))

pub one-leap-in-a-civil-year : Civil.OneLeapInACivilYear
one-leap-in-a-civil-year y r =
    ⊎_elim (λ h. at 0 (omega arith) (omega (arith, leaps-of-ends)))
    (λ h. ⊎_elim (λ g. omega (arith, leaps-between y h (omega arith), Years.civil-end y r))
    (λ g. at 41040 (omega arith) (omega (arith, leaps-of-ends))) (lt-or-le y 41040)) (lt-or-le y 1)
  where
    at : (z : ℕ) → z ≡ y → length (civil_months_of leap z) ≤ 1 → length (civil_months_of leap y) ≤ 1
    at z = subst (λ (u : ℕ). length (civil_months_of leap u) ≤ 1)

-- the two years of a day differ where its month's number is 11 or 12
day-differs : (n d : ℕ) → InMonth n d → years_differ d ≡ closing (month_number n)
day-differs n d i = rw ((Months.of-day n d).0 i) (go (closing (month_number n)) refl)
  where
    go : (b : Bool) → closing (month_number n) ≡ b → not (eqb (civil_year_of_month n) (solstice_year_of_month n)) ≡ b
    go true e = rw (ne_eqb (civil_year_of_month n) (solstice_year_of_month n) (λ g. omega (arith, Years.one_less n (leb-true 11 (month_number n) e))))
    go false e = rw (eq-eqb (civil_year_of_month n) (solstice_year_of_month n) (Years.no_less n (omega (arith, leb-false 11 (month_number n) e))))

-- how many days of month n these are, and of all months before it
abbrev days_in : ℕ → ℕ
days_in n = cond (closing (month_number n)) (month_length n) 0

unfoldable days_before : ℕ → ℕ
days_before zero = 0
days_before (suc n) = days_before n + days_in n

days-in : (n : ℕ) → length (those years_differ (month_start n) (month_start (n + 1) - month_start n)) ≡ days_in n
days-in n = go (closing (month_number n)) refl
  where
    its : (i : ℕ) → i < month_start (n + 1) - month_start n → years_differ (month_start n + i) ≡ closing (month_number n)
    its i h = day-differs n (month_start n + i) (omega arith, omega arith)

    go : (b : Bool) → closing (month_number n) ≡ b →
        length (those years_differ (month_start n) (month_start (n + 1) - month_start n)) ≡ cond b (month_length n) 0
    go true e =
        length-same years_differ (λ d. true) (month_start n) (month_start (n + 1) - month_start n) (λ i h. its i h ∙ e)
        ∙ length-all (month_start n) (month_start (n + 1) - month_start n) ∙ omega (arith, Months.start-next n)
    go false e = none_pass years_differ (month_start n) (month_start (n + 1) - month_start n) (λ i h. its i h ∙ e)

days-before : (n : ℕ) → length (those years_differ 0 (month_start n - 0)) ≡ days_before n
unfolding days_before
days-before zero = none_pass years_differ 0 (month_start 0 - 0) (λ i h. absurd (omega (arith, Months.start-bu 0)))
days-before (suc n) =
    ap (λ (m : ℕ). length (those years_differ 0 (month_start m - 0))) (sym (add-one n))
    ∙ ap length (from-to years_differ 0 (month_start n) (month_start (n + 1)) (omega arith) (omega (arith, Months.start-least n)))
    ∙ length-append (those years_differ 0 (month_start n - 0)) (those years_differ (month_start n) (month_start (n + 1) - month_start n))
    ∙ omega (arith, days-before n, days-in n)

-- over a bu so many days come again
days-in-shift : (n : ℕ) → days_in (n + 940) ≡ days_in n
days-in-shift n = ap₂ (λ (k l : ℕ). cond (closing k) l 0) (Leaps.number-shift 1 n) (Months.length_shift 1 n)

days-none : days_before 0 ≡ 0
unfolding days_before
days-none = refl

days-next : (n : ℕ) → days_before (suc n) ≡ days_before n + days_in n
unfolding days_before
days-next n = refl

days-shift : (n : ℕ) → days_before (n + 940) ≡ days_before n + days_before 940
days-shift zero = ap days_before {y = 940} (omega arith) ∙ omega (arith, days-none)
days-shift (suc n) =
    ap days_before {y = suc (n + 940)} (omega arith) ∙ omega (arith, days-shift n, days-in-shift n, days-next n, days-next (n + 940))

-- in the first of them
days-of-bu : days_before 940 ≡ 4606
unfolding days_before rule-computed
days-of-bu = refl

days-of-bus : (k : ℕ) → days_before (940 * k) ≡ 4606 * k
days-of-bus zero = ap days_before {y = 0} (omega arith) ∙ omega (arith, days-none)
days-of-bus (suc k) =
    ap days_before {y = 940 * k + 940} (omega arith) ∙ days-shift (940 * k) ∙ omega (arith, days-of-bus k, days-of-bu)

pub days-that-differ : Civil.DaysThatDiffer
days-that-differ =
    ap (λ (k : ℕ). length (those years_differ 0 k)) {x = 14989860} {y = month_start (940 * 540) - 0} (omega (arith, Months.start-bu 540))
    ∙ days-before (940 * 540) ∙ omega (arith, days-of-bus 540)

-- which months lie in the nineteen civil years from y on
module _ (y n : ℕ) where
  in-nineteen : civil_first_month y ≤ n → n < civil_first_month (y + 19) → in_nineteen y n ≡ true
  in-nineteen low high =
      let a : y ≤ civil_year_of_month n = (Years.civil-least y n).0 low in
      let b : ¬ (y + 19 ≤ civil_year_of_month n) = λ g. let z : civil_first_month (y + 19) ≤ n = (Years.civil-least (y + 19) n).1 g in omega arith in
      rw (le-leb y (civil_year_of_month n) a, le-leb (civil_year_of_month n) (y + 18) (omega arith))

  before-nineteen : n < civil_first_month y → in_nineteen y n ≡ false
  before-nineteen h =
      let b : ¬ (y ≤ civil_year_of_month n) = λ g. let z : civil_first_month y ≤ n = (Years.civil-least y n).1 g in omega arith in
      rw (lt-leb y (civil_year_of_month n) (omega arith))

  after-nineteen : civil_first_month (y + 19) ≤ n → in_nineteen y n ≡ false
  after-nineteen h =
      let a : y + 19 ≤ civil_year_of_month n = (Years.civil-least (y + 19) n).0 h in
      rw (lt-leb (civil_year_of_month n) (y + 18) (omega arith)) (and-false (leb y (civil_year_of_month n)))

-- of all months, those of nineteen years that pass a test are those of the 235 months from the first on
counted-in-nineteen : (p : ℕ → Bool) (y : ℕ) → 1 ≤ y → y + 18 ≤ 41039 →
    length (those (λ n. in_nineteen y n && p n) 0 507600) ≡ length (those p (civil_first_month y) 235)
counted-in-nineteen p y l h =
    ap (λ (k : ℕ). length (those (λ n. in_nineteen y n && p n) 0 k)) all
    ∙ within (in_nineteen y) p (civil_first_month y) 235 (507600 - (civil_first_month y + 235))
    (λ i g. before-nineteen y i g)
    (λ i g. in-nineteen y (civil_first_month y + i) (omega arith) (omega (arith, Years.civil-nineteen y l)))
    (λ i g. after-nineteen y (civil_first_month y + 235 + i) (omega (arith, Years.civil-nineteen y l)))
  where
    all : 507600 ≡ civil_first_month y + 235 + (507600 - (civil_first_month y + 235))
    all = omega (arith, Years.civil-nineteen y l, Years.civil-end (y + 19) (omega arith))

pub nineteen-years : Civil.NineteenYears
nineteen-years y l h = (
  length-same (in_nineteen y) (λ n. in_nineteen y n && true) 0 507600 (λ i g. sym (and-true (in_nineteen y (0 + i))))
      ∙ counted-in-nineteen (λ n. true) y l h ∙ length-all (civil_first_month y) 235,
  counted-in-nineteen leap y l h ∙ omega (arith, in_window (λ n. n) mid_terms_before leap Leaps.leap-gains (civil_first_month y) 235 235 228 refl mid-terms),
)
  where
    mid-terms : mid_terms_before (civil_first_month y + 235) ≡ mid_terms_before (civil_first_month y) + 228
    mid-terms =
        ap mid_terms_before (sym (Years.civil-nineteen y l))
        ∙ omega (arith, Years.before-civil y l, Years.before-civil (y + 19) (omega arith))

pub civil-shift : Civil.CivilShift
civil-shift k = record { firsts = Years.civil-first-shift k; years = Years.civil-shift k }
