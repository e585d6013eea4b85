-- Laws of the civil years: the mid-term with which one opens, the closed forms, the shift. Assumes nothing.
use Rattle.std.proofs.Common.{◌≡◌, ℕ, ◌+◌, ◌-◌, ◌*◌, ◌/◌, ◌%◌, ◌<◌, ◌≤◌, Bool, true, false, cond, ◌↔◌, refl, ⊎_elim, arith, le-leb, leb-false, leb-true}
use borrow.Author.Tests.{lt-leb}
use Rattle.rule.specs.Counts.{CivilYearInRange, MonthInRange}
use Rattle.rule.specs.Rule.{
  month_start,
  InMonth,
  term_day,
  mid_term_day,
  mid_terms_before,
  solstice_first_month,
  InSolsticeYear,
  solstice_year_of_month,
  mid_term_number,
  month_number,
  closing,
  civil_year_of_month,
  InCivilYear,
  civil_first_month,
  months_in_civil_year,
}
use Rattle.rule.proofs.Years.{of-month}
use Rattle.rule.proofs.Pairs.{lt-or-le}
use Rattle.rule.proofs.Leap.{before-first, before-mono, before-pos, first-ordinary, holds-next, number-range}

-- the month with which a civil year opens holds the mid-term of number 1
pub opens-holds : (y : ℕ) → 1 ≤ y → InMonth (civil_first_month y) (mid_term_day (12 * y - 10))
unfolding month_start civil_first_month mid_term_day term_day
opens-holds y l = (omega arith, omega arith)

pub before-civil : (y : ℕ) → 1 ≤ y → mid_terms_before (civil_first_month y) ≡ 12 * y - 10
before-civil y l = (holds-next (civil_first_month y) (12 * y - 10) (opens-holds y l)).0

before-civil-next : (y : ℕ) → 1 ≤ y → mid_terms_before (civil_first_month y + 1) ≡ 12 * y - 10 + 1
before-civil-next y l = (holds-next (civil_first_month y) (12 * y - 10) (opens-holds y l)).1

-- the mid-terms before the end of a month of a solstice year
up-to-its-end : (s n : ℕ) → InSolsticeYear s n → (12 * s - 11 ≤ mid_terms_before (n + 1)) × (mid_terms_before (n + 1) ≤ 12 * s)
up-to-its-end s n i = (
  omega (arith, i.0, before-first s, first-ordinary s, before-mono (solstice_first_month s + 1) (n + 1) (omega (arith, i.1))),
  omega (arith, i.0, before-first (s + 1), before-mono (n + 1) (solstice_first_month (s + 1)) (omega (arith, i.2))),
)

number-of : (n : ℕ) → month_number n ≡ (mid_terms_before (n + 1) - 1 + 10) % 12 + 1
unfolding month_number mid_term_number
number-of n = refl

solstice-year : (n : ℕ) → InSolsticeYear (solstice_year_of_month n) n
solstice-year n = (of-month (solstice_year_of_month n) n).1 refl

-- twelve mid-terms a solstice year: the last before a month's end says the month's
pub solstice-count : (n : ℕ) → (mid_terms_before (n + 1) - 1) / 12 + 1 ≡ solstice_year_of_month n
solstice-count n = let i = solstice-year n in omega (arith, i.0, up-to-its-end (solstice_year_of_month n) n i)

-- twelve numbers a civil year, one for each mid-term: 11 of year 0 for the first of all, then 12, then 1 of year 1
pub civil-count : (n : ℕ) → 12 * civil_year_of_month n + month_number n ≡ mid_terms_before (n + 1) + 10
unfolding civil_year_of_month
civil-count n = go (closing (month_number n)) refl
  where
    s : ℕ
    s = solstice_year_of_month n

    in-its-year : (month_number n ≡ (mid_terms_before (n + 1) - 1 + 10) % 12 + 1) × (1 ≤ s) × (12 * s - 11 ≤ mid_terms_before (n + 1)) × (mid_terms_before (n + 1) ≤ 12 * s)
    in-its-year = let i = solstice-year n in let h = up-to-its-end s n i in (number-of n, i.0, h.0, h.1)

    go : (b : Bool) → closing (month_number n) ≡ b → 12 * cond b (s - 1) s + month_number n ≡ mid_terms_before (n + 1) + 10
    go true e = omega (arith, in-its-year, leb-true 11 (month_number n) e)
    go false e = omega (arith, in-its-year, leb-false 11 (month_number n) e)

-- the civil year of a month in closed form: by the mid-terms with which that year and the next open
pub civil-closed : (n : ℕ) → civil_year_of_month n ≡ (19 * n + 214) / 235
unfolding civil_first_month
civil-closed n = go ((19 * n + 214) / 235) refl
  where
    from : (y : ℕ) → (19 * n + 214) / 235 ≡ y → 12 * y ≤ mid_terms_before (n + 1) + 9
    from y e =
        ⊎_elim (λ h. omega (arith, before-pos n))
        (λ l. omega (arith, before-civil-next y l, before-mono (civil_first_month y + 1) (n + 1) (omega arith)))
        (lt-or-le y 1)

    go : (y : ℕ) → (19 * n + 214) / 235 ≡ y → civil_year_of_month n ≡ (19 * n + 214) / 235
    go y e =
        omega (
          arith,
          civil-count n,
          number-range n,
          from y e,
          before-civil (y + 1) (omega arith),
          before-mono (n + 1) (civil_first_month (y + 1)) (omega arith),
        )

-- a month is in civil year y or in a later one exactly from the month on with which y opens
pub civil-least : (y n : ℕ) → (civil_first_month y ≤ n) ↔ (y ≤ civil_year_of_month n)
unfolding civil_first_month
civil-least y n = (λ h. omega (arith, civil-closed n), λ h. omega (arith, civil-closed n))

pub one_less : (n : ℕ) → 11 ≤ month_number n → civil_year_of_month n + 1 ≡ solstice_year_of_month n
unfolding civil_year_of_month
one_less n h = rw (le-leb 11 (month_number n) h) (omega (arith, (solstice-year n).0))

pub no_less : (n : ℕ) → month_number n ≤ 10 → civil_year_of_month n ≡ solstice_year_of_month n
unfolding civil_year_of_month
no_less n h = rw (lt-leb 11 (month_number n) (omega arith))

-- which civil year has a month
pub of-civil : (y n : ℕ) → InCivilYear y n ↔ (MonthInRange n × (civil_year_of_month n ≡ y))
of-civil y n = (λ i. (i.0, there (closing (month_number n)) refl i.1), λ h. (h.0, back (closing (month_number n)) refl h.1))
  where
    there : (b : Bool) → closing (month_number n) ≡ b → InSolsticeYear (cond b (y + 1) y) n → civil_year_of_month n ≡ y
    there true e i = omega (arith, one_less n (leb-true 11 (month_number n) e), (of-month (y + 1) n).0 i)
    there false e i = omega (arith, no_less n (omega (arith, leb-false 11 (month_number n) e)), (of-month y n).0 i)

    back : (b : Bool) → closing (month_number n) ≡ b → civil_year_of_month n ≡ y → InSolsticeYear (cond b (y + 1) y) n
    back true e f = (of-month (y + 1) n).1 (omega (arith, one_less n (leb-true 11 (month_number n) e)))
    back false e f = (of-month y n).1 (omega (arith, no_less n (omega (arith, leb-false 11 (month_number n) e))))

pub civil-range : (n : ℕ) → MonthInRange n → CivilYearInRange (civil_year_of_month n)
civil-range n h = omega (arith, civil-closed n)

-- the months of a civil year, from the first up to the next year's
pub civil-months : (y n : ℕ) → InCivilYear y n ↔ (MonthInRange n × (civil_first_month y ≤ n) × (n < civil_first_month (y + 1)))
unfolding civil_first_month
civil-months y n = (
  λ i. let h = (of-civil y n).0 i in (h.0, omega (arith, h.1, civil-closed n), omega (arith, h.1, civil-closed n)),
  λ h. (of-civil y n).1 (h.0, omega (arith, h.1, h.2, civil-closed n)),
)

pub civil-so-many : (y n : ℕ) → CivilYearInRange y → InCivilYear y n ↔ ((civil_first_month y ≤ n) × (n < civil_first_month y + months_in_civil_year y))
unfolding civil_first_month months_in_civil_year
civil-so-many y n r = (
  λ i. let h = (of-civil y n).0 i in (omega (arith, h.1, civil-closed n), omega (arith, h.0, h.1, civil-closed n)),
  λ h. (of-civil y n).1 (omega (arith, h.0, h.1), omega (arith, h.0, h.1, civil-closed n)),
)

-- how many they are
pub civil-end : (y : ℕ) → CivilYearInRange y → (civil_first_month y + months_in_civil_year y ≤ 507600) × (1 ≤ months_in_civil_year y) × (months_in_civil_year y ≤ 13)
unfolding civil_first_month months_in_civil_year
civil-end y r = (omega arith, omega arith, omega arith)

pub civil-next : (y : ℕ) → y < 41040 → civil_first_month y + months_in_civil_year y ≡ civil_first_month (y + 1)
unfolding civil_first_month months_in_civil_year
civil-next y h = omega arith

-- nineteen years are 235 months
pub civil-nineteen : (y : ℕ) → 1 ≤ y → civil_first_month (y + 19) ≡ civil_first_month y + 235
unfolding civil_first_month
civil-nineteen y l = omega arith

-- the shift: 76 years are 940 months
module _ (k : ℕ) where
  pub civil-first-shift : (y : ℕ) → 1 ≤ y → civil_first_month (y + 76 * k) ≡ civil_first_month y + 940 * k
  unfolding civil_first_month
  civil-first-shift y l = omega arith

  pub civil-shift : (n : ℕ) → civil_year_of_month (n + 940 * k) ≡ civil_year_of_month n + 76 * k
  civil-shift n = omega (arith, civil-closed n, civil-closed (n + 940 * k))
