-- What W4 says of civil years, over what the calls answer. proofs/Years.antt proves each under the same name in small letters.
-- Assumes nothing.
use Rattle.rule.specs.declared.Reason.{Reason}
use Rattle.std.specs.Prelude.{Option, Some, None, Result, Ok, Err, ℕ, ◌+◌, ◌-◌, ◌≤◌, ◌<◌, ◌≡◌, ◌↔◌, ◌⊎◌, Bool, false, not, [], ◌∷◌, map}
use Rattle.rule.specs.Counts.{MonthInRange}
use Rattle.rule.specs.Lists.{those}
use Rattle.rule.specs.Rule.{number_of, leap_mark}
use Rattle.rule.specs.declared.Month.TheVariants.{Ordinary, Leap}
use Rattle.facts.specs.declared.SolsticeYear.{SolsticeYear}
use Rattle.facts.specs.declared.LeapMonth.{LeapMonth}
use Rattle.facts.specs.declared.YearFacts.{YearFacts}
use Rattle.facts.specs.declared.MonthFacts.{MonthFacts}
use Rattle.facts.specs.Promises.{SolsticeYearFacts, YearOwnFacts, MonthByCount}

-- a year's own answer: name, first month, how many months, leap month
abbrev pub own : ℕ → ℕ → ℕ → Option LeapMonth → Result YearFacts Reason
own name first months leap = Ok (record { name = name; first_month = first; months = months; leap_month = leap })

-- "Year 0 then holds months 11 and 12 only, name 16"; "year 8 has 13, months 88 to 100, though its remainder is 11"; "Listing year 11 gives
-- months 125 to 137"; year 27 has a leap 11, month 334; "year 41,040 ends with its leap month 10", months 507,589 to 507,599
pub record YearsOfTheRequest : Type 0 where
  pub year-0 : (a : Result YearFacts Reason) → YearOwnFacts 0 a → a ≡ own 16 0 2 None
  pub month-0 : (f : MonthFacts) → MonthByCount 0 (Ok f) → f.month ≡ Ordinary 11
  pub month-1 : (f : MonthFacts) → MonthByCount 1 (Ok f) → f.month ≡ Ordinary 12
  pub year-8 : (a : Result YearFacts Reason) → YearOwnFacts 8 a → a ≡ own 24 88 13 (Some (record { number = 12; month = 100 }))
  pub remainder-of-8 : (s : SolsticeYear) → SolsticeYearFacts 8 (Ok s) → s.leap_remainder ≡ 11
  pub year-11 : (a : Result YearFacts Reason) → YearOwnFacts 11 a → a ≡ own 27 125 13 (Some (record { number = 9; month = 134 }))
  pub year-27 : (a : Result YearFacts Reason) → YearOwnFacts 27 a → a ≡ own 43 323 13 (Some (record { number = 11; month = 334 }))
  pub year-41040 : (a : Result YearFacts Reason) → YearOwnFacts 41040 a → a ≡ own 16 507589 11 (Some (record { number = 10; month = 507599 }))

-- "A civil year .. has the months up to the next"
abbrev pub UpToTheNext : Type 0
UpToTheNext =
    (y : ℕ) (f g : YearFacts) → YearOwnFacts y (Ok f) → YearOwnFacts (y + 1) (Ok g) →
    f.first_month + f.months ≡ g.first_month

-- civil year y by solstice year y: it opens two months after it, and three exactly at leap remainder 18; it has 13 months exactly at leap
-- remainder 11 to 17, else 12 (the last one has the months that are left)
pub record BySolsticeYear (y : ℕ) (s : SolsticeYear) (f : YearFacts) : Type 0 where
  pub two-on : (f.first_month ≡ s.first_month + 2) ↔ (s.leap_remainder < 18)
  pub three-on : (f.first_month ≡ s.first_month + 3) ↔ (s.leap_remainder ≡ 18)
  pub thirteen : y ≤ 41039 → (f.months ≡ 13) ↔ ((11 ≤ s.leap_remainder) × (s.leap_remainder ≤ 17))
  pub twelve : y ≤ 41039 → (f.months ≡ 12) ↔ ((s.leap_remainder ≤ 10) ⊎ (s.leap_remainder ≡ 18))

abbrev pub ByTheSolsticeYear : Type 0
ByTheSolsticeYear =
    (y : ℕ) (s : SolsticeYear) (f : YearFacts) → SolsticeYearFacts y (Ok s) → YearOwnFacts y (Ok f) → BySolsticeYear y s f

-- the number of a month that is answered, and whether it is ordinary
abbrev pub number_told : Result MonthFacts Reason → ℕ
number_told (Ok f) = number_of f.month
number_told (Err why) = 0

abbrev pub ordinary_told : Result MonthFacts Reason → Bool
ordinary_told (Ok f) = not (leap_mark f.month)
ordinary_told (Err why) = false

-- "The month order in a year becomes 1 to 12": the ordinary ones of its months bear these numbers in this order, so that 11 and 12 close it
abbrev pub NumbersInOrder : Type 0
NumbersInOrder =
    (told : ℕ → Result MonthFacts Reason) → ((n : ℕ) → MonthInRange n → MonthByCount n (told n)) →
    (y : ℕ) (f : YearFacts) → 1 ≤ y → y ≤ 41039 → YearOwnFacts y (Ok f) →
    map (λ n. number_told (told n)) (those (λ n. ordinary_told (told n)) f.first_month f.months)
    ≡ 1 ∷ 2 ∷ 3 ∷ 4 ∷ 5 ∷ 6 ∷ 7 ∷ 8 ∷ 9 ∷ 10 ∷ 11 ∷ 12 ∷ []

-- "a leap month after its namesake": the month before leap month n of number k is of the same civil year, ordinary, and of that number
pub record AfterItsNamesake (f : YearFacts) (n k : ℕ) : Type 0 where
  pub same-year : f.first_month + 1 ≤ n
  pub namesake : (b : MonthFacts) → MonthByCount (n - 1) (Ok b) → b.month ≡ Ordinary k

abbrev pub LeapAfterItsNamesake : Type 0
LeapAfterItsNamesake =
    (y n k : ℕ) (f : YearFacts) (a : MonthFacts) →
    YearOwnFacts y (Ok f) → f.first_month ≤ n → n < f.first_month + f.months → MonthByCount n (Ok a) → a.month ≡ Leap k →
    AfterItsNamesake f n k
