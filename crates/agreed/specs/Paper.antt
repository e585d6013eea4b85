-- What the calls say of one another, as statements. proofs/Paper.antt proves each under the same name in small letters.
-- Assumes nothing.
use Rattle.rule.specs.declared.Reason.{Reason}
use Rattle.rule.specs.declared.Term.{Term}
use Rattle.std.specs.Prelude.{Result, Ok, Err, ℕ, ◌+◌, ◌-◌, ◌*◌, ◌≤◌, ◌≡◌, ◌↔◌, Bool, true, get_or}
use Rattle.rule.specs.Counts.{CivilYearInRange}
use Rattle.rule.specs.Rule.{month_start, month_length, InMonth, marked, number_of, solstice_year_of}
use Rattle.rule.specs.Reasons.{said, Answer, is, and_then}
use Rattle.rule.specs.Paper.{numbers_in_order}
use Rattle.rule.specs.declared.Month.{Month}
use Rattle.rule.specs.declared.Month.TheVariants.{Ordinary, Leap}
use Rattle.rule.specs.declared.Reason.TheVariants.{NoSuchLeapMonth, NoThirtiethDay}
use Rattle.dates.specs.declared.Date.{Date}
use Rattle.dates.specs.Dates.{NumberInRange, DayOfMonthInRange}
use Rattle.dates.specs.Promises.{DateOfDay, DayOfDate}
use Rattle.dates.specs.Paper.{Besides, NotInYear}
use Rattle.facts.specs.declared.SolsticeYear.{SolsticeYear}
use Rattle.facts.specs.declared.MonthFacts.{MonthFacts}
use Rattle.facts.specs.Paper.{term_before}
use Rattle.facts.specs.Promises.{SolsticeYearFacts, MonthByCount, TermOfYear}

-- W2: "Everything that asks for a term now receives both and must be shown unchanged in what it answers." Of a term's own day, and of its
-- refusals, facts says it (TermAsBefore). Here it is said of dates. `term` is what is answered as the day of a solstice year's term.

-- mid-term 2j of solstice year y is answered with one of the days of month n
pub record FallsIn (term : ℕ → ℕ → Answer ℕ) (y j n : ℕ) : Type 0 where
  pub day : ℕ
  pub answered : term y (2 * j) ≡ is day
  pub on-its-days : InMonth n day

-- "A month holding mid-term k has number 11 for k = 0, 12 for k = 2 ..": month n holds one of solstice year y, and k is the
-- number that goes with it
pub record HoldsOne (term : ℕ → ℕ → Answer ℕ) (y n k : ℕ) : Type 0 where
  pub j : ℕ
  pub falls : FallsIn term y j n
  pub number : k ≡ get_or numbers_in_order j 0

-- month n, of solstice year y, by its mid-terms: ordinary, holding one; or leap, "when no mid-term falls on any of its days", with the
-- number of the month before it
abbrev pub MonthByTerms : (ℕ → ℕ → Answer ℕ) → ℕ → ℕ → Month → Type 0
MonthByTerms term y n (Ordinary k) = HoldsOne term y n k
MonthByTerms term y n (Leap k) = (1 ≤ n) × ((z j : ℕ) → FallsIn term z j n → ⊥) × HoldsOne term y (n - 1) k

-- the date of a day, by the mid-terms; its year is the civil one, and the terms are those of its month's solstice year (W4)
pub record DateByTerms (term : ℕ → ℕ → Answer ℕ) (d : ℕ) (r : Date) : Type 0 where
  pub n : ℕ
  pub on-its-days : InMonth n d
  pub its-month : MonthByTerms term (solstice_year_of r.year (number_of r.month)) n r.month
  pub besides :
      Besides n d r.year r.day_of_month r.month_length r.day_name r.year_name r.ji r.bu r.year_in_bu r.eclipse

-- the day of a date, by the mid-terms: of the month of that civil year, number and mark there is a day m
pub record DayByTerms (term : ℕ → ℕ → Answer ℕ) (y k : ℕ) (l : Bool) (m d : ℕ) : Type 0 where
  pub n : ℕ
  pub the-month : MonthByTerms term (solstice_year_of y k) n (marked l k)
  pub the-day : (1 ≤ m) × (m ≤ month_length n)
  pub counted : month_start n + m ≡ d + 1

-- dates both ways are those, and so are the two refusals that a month decides, 4 and 5 (in 1, 2, 3, 16 and 6 no term is named: dates,
-- ReasonsOfADate and ReasonsOfADay)
pub record DatesBy (term : ℕ → ℕ → Answer ℕ) : Type 0 where
  pub dates : (d : ℕ) (r : Date) → DateOfDay d (Ok r) ↔ DateByTerms term d r
  pub days : (y k : ℕ) (l : Bool) (m d : ℕ) → DayOfDate y k l m (Ok d) ↔ DayByTerms term y k l m d
  pub four :
      (y k : ℕ) (l : Bool) (m : ℕ) →
      DayOfDate y k l m (Err NoSuchLeapMonth)
      ↔ (CivilYearInRange y
      × (NumberInRange k
      × (DayOfMonthInRange m × ((NotInYear y k → ⊥) × ((l ≡ true) × (((n : ℕ) × MonthByTerms term (solstice_year_of y k) n (Leap k)) → ⊥))))))
  pub five :
      (y k : ℕ) (l : Bool) (m : ℕ) →
      DayOfDate y k l m (Err NoThirtiethDay)
      ↔ ((n : ℕ) × MonthByTerms term (solstice_year_of y k) n (marked l k) × (month_length n ≡ 29) × (m ≡ 30))

-- dates are as before in all that a term decides: by what was answered as a term's day before W2 (starts, lengths, names, place and eclipse
-- mark are rule's own definitions, which ask for no term)
abbrev pub DatesAsBefore : Type 0
DatesAsBefore = DatesBy term_before

-- and they go with the term call: by the day of what it answers now
abbrev pub DatesByTerms : Type 0
DatesByTerms =
    (told : ℕ → ℕ → Result Term Reason) → ((y k : ℕ) → TermOfYear y k (told y k)) → DatesBy (λ y k. and_then (said (told y k)) (λ r. is r.day))

-- W8: the place of a date is what is answered for its solstice year, and its eclipse mark what is answered for the month in which its day lies
pub record SameAnswers (d : ℕ) (r : Date) : Type 0 where
  pub place :
      (a : Result SolsticeYear Reason) → SolsticeYearFacts (solstice_year_of r.year (number_of r.month)) a →
      (s : SolsticeYear) × (a ≡ Ok s) × (s.ji ≡ r.ji) × (s.bu ≡ r.bu) × (s.year_in_bu ≡ r.year_in_bu)
  pub mark : (n : ℕ) (a : Result MonthFacts Reason) → InMonth n d → MonthByCount n a → (f : MonthFacts) × (a ≡ Ok f) × (f.eclipse ≡ r.eclipse)

abbrev pub PlaceAndMark : Type 0
PlaceAndMark = (d : ℕ) (r : Date) → DateOfDay d (Ok r) → SameAnswers d r
