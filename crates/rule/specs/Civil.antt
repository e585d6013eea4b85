-- "Months eleven and twelve belong to the old year" (W4): its sentences on the civil year as statements. proofs/Civil.antt proves each under
-- the same name in small letters. Assumes nothing.
use Rattle.std.specs.Prelude.{◌≡◌, ℕ, ◌+◌, ◌-◌, ◌*◌, ◌/◌, ◌<◌, ◌≤◌, Bool, true, not, ◌&&◌, ◌⊎◌, ◌↔◌, List, [], ◌∷◌, map, length, ◌==◌, nat_le}
use Rattle.rule.specs.Counts.{CivilYearInRange, MonthInRange}
use Rattle.rule.specs.Lists.{those}
use Rattle.rule.specs.Rule.{
  month_of_day,
  leap_remainder,
  solstice_year_of_month,
  leap,
  month_number,
  civil_year_of_month,
  InCivilYear,
  civil_first_month,
  months_in_civil_year,
}
use Rattle.rule.specs.Paper.{IsMonth, AfterNamesake, ordinary}
use Rattle.rule.specs.declared.Month.TheVariants.{Ordinary}

-- "On a slip, month 11 and month 12, with any leap month of those numbers, close the year .. From now on a date's year is the civil one:
-- one less than before for those months"
pub record OneLess (n : ℕ) : Type 0 where
  pub those-months : 11 ≤ month_number n → civil_year_of_month n + 1 ≡ solstice_year_of_month n
  pub any-other : month_number n ≤ 10 → civil_year_of_month n ≡ solstice_year_of_month n

abbrev pub CivilYear : Type 0
CivilYear = (n : ℕ) → OneLess n

-- each month lies in exactly one civil year; one in range in one in range
pub record OneCivilYearAMonth : Type 0 where
  pub one : (y n : ℕ) → InCivilYear y n ↔ (MonthInRange n × (civil_year_of_month n ≡ y))
  pub in-range : (y n : ℕ) → InCivilYear y n → CivilYearInRange y

-- "A civil year opens with its own month 1 (year 0 with month 11) and has the months up to the next"
pub record Opens (y : ℕ) : Type 0 where
  pub its_own : InCivilYear y (civil_first_month y)
  pub month-1 : 1 ≤ y → IsMonth (civil_first_month y) (Ordinary 1)
  pub month-11 : y ≡ 0 → IsMonth (civil_first_month y) (Ordinary 11)
  pub up-to-next : (n : ℕ) → InCivilYear y n ↔ (MonthInRange n × (civil_first_month y ≤ n) × (n < civil_first_month (y + 1)))
  pub so-many : (n : ℕ) → InCivilYear y n ↔ ((civil_first_month y ≤ n) × (n < civil_first_month y + months_in_civil_year y))

abbrev pub CivilYearOpens : Type 0
CivilYearOpens = (y : ℕ) → CivilYearInRange y → Opens y

-- year Y opens with month 235 × (Y − 1) / 19 + 2, and + 3 exactly at leap remainder 18
pub record OpensAt (y : ℕ) : Type 0 where
  pub two-on : (civil_first_month y ≡ 235 * (y - 1) / 19 + 2) ↔ (leap_remainder y < 18)
  pub three-on : (civil_first_month y ≡ 235 * (y - 1) / 19 + 3) ↔ (leap_remainder y ≡ 18)

abbrev pub CivilFirstMonth : Type 0
CivilFirstMonth = (y : ℕ) → 1 ≤ y → OpensAt y

-- it has 13 months exactly at leap remainder 11 to 17, else 12: at 0 to 10, and at 18
pub record ThirteenMonths (y : ℕ) : Type 0 where
  pub thirteen : (months_in_civil_year y ≡ 13) ↔ ((11 ≤ leap_remainder y) × (leap_remainder y ≤ 17))
  pub twelve : (months_in_civil_year y ≡ 12) ↔ ((leap_remainder y ≤ 10) ⊎ (leap_remainder y ≡ 18))

abbrev pub ThirteenInACivilYear : Type 0
ThirteenInACivilYear = (y : ℕ) → 1 ≤ y → y ≤ 41039 → ThirteenMonths y

-- the months of civil year y that pass the test p
abbrev pub civil_months_of : (ℕ → Bool) → ℕ → List ℕ
civil_months_of p y = those p (civil_first_month y) (months_in_civil_year y)

-- "The month order in a year becomes 1 to 12": the ordinary ones bear these numbers in this order, each once, so that 11 and 12 close it
abbrev pub NumbersOfCivilYear : Type 0
NumbersOfCivilYear =
    (y : ℕ) → 1 ≤ y → y ≤ 41039 →
    map month_number (civil_months_of ordinary y) ≡ 1 ∷ 2 ∷ 3 ∷ 4 ∷ 5 ∷ 6 ∷ 7 ∷ 8 ∷ 9 ∷ 10 ∷ 11 ∷ 12 ∷ []

-- a leap month after its namesake, in the same civil year
abbrev pub LeapInItsCivilYear : Type 0
LeapInItsCivilYear = (y n : ℕ) → InCivilYear y n → leap n ≡ true → AfterNamesake (InCivilYear y) n

-- and a year has one leap month at most
abbrev pub OneLeapInACivilYear : Type 0
OneLeapInACivilYear = (y : ℕ) → CivilYearInRange y → length (civil_months_of leap y) ≤ 1

-- the two years of a day differ
abbrev pub years_differ : ℕ → Bool
years_differ d = not (civil_year_of_month (month_of_day d) == solstice_year_of_month (month_of_day d))

-- on 2,487,240 days of the range
abbrev pub DaysThatDiffer : Type 0
DaysThatDiffer = length (those years_differ 0 14989860) ≡ 2487240

-- month n lies in one of the nineteen civil years from y on
abbrev pub in_nineteen : ℕ → ℕ → Bool
in_nineteen y n = nat_le y (civil_year_of_month n) && nat_le (civil_year_of_month n) (y + 18)

-- "Any nineteen consecutive years in range hold 235 months, exactly seven of them leap", counted over all months; "its nineteen years are
-- any within 1 to 41,039"
abbrev pub NineteenYears : Type 0
NineteenYears =
    (y : ℕ) → 1 ≤ y → y + 18 ≤ 41039 →
    (length (those (in_nineteen y) 0 507600) ≡ 235) × (length (those (λ n. in_nineteen y n && leap n) 0 507600) ≡ 7)

-- 76 civil years are 940 months, and k times so many k times that
pub record CivilShiftedBy (k : ℕ) : Type 0 where
  pub firsts : (y : ℕ) → 1 ≤ y → civil_first_month (y + 76 * k) ≡ civil_first_month y + 940 * k
  pub years : (n : ℕ) → civil_year_of_month (n + 940 * k) ≡ civil_year_of_month n + 76 * k

abbrev pub CivilShift : Type 0
CivilShift = (k : ℕ) → CivilShiftedBy k
