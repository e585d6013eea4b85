-- What the paper says of these answers, as statements. proofs/Paper.antt proves each under the same name in small letters.
-- Assumes nothing.
use Rattle.std.specs.Prelude.{Option, Some, None, Result, Ok, Err, ℕ, ◌+◌, ◌-◌, ◌*◌, ◌/◌, ◌%◌, ◌≤◌, ◌<◌, ◌≡◌, ◌↔◌, ◌⊎◌, true, false, leb}
use Rattle.rule.specs.Counts.{SolsticeYearInRange, CivilYearInRange, MonthInRange, elapsed, day_name, year_name}
use Rattle.rule.specs.Rule.{month_start, solstice_first_month, InCivilYear}
use Rattle.rule.specs.Reasons.{said, Answer, is, guard, within, and_then}
use Rattle.rule.specs.Paper.{IsPlace, IsTerm, NoMidTerm, IsMonth, EclipseMonth}
use Rattle.rule.specs.declared.Month.TheVariants.{Ordinary, Leap}
use Rattle.rule.specs.declared.Quarter.{Quarter}
use Rattle.rule.specs.declared.Term.{Term}
use Rattle.rule.specs.declared.Reason.{Reason}
use Rattle.rule.specs.declared.Reason.TheVariants.{NoSuchYear, NoSuchMonth, NoSuchTermOrQuarter}
use Rattle.facts.specs.declared.SolsticeYear.{SolsticeYear}
use Rattle.facts.specs.declared.LeapMonth.{LeapMonth}
use Rattle.facts.specs.declared.YearFacts.{YearFacts}
use Rattle.facts.specs.declared.MonthFacts.{MonthFacts}
use Rattle.facts.specs.Promises.{SolsticeYearFacts, YearOwnFacts, MonthByCount, QuarterOfMonth, TermOfYear}

-- of the solstice year: "Year Y begins with the month count that is the whole part of 235 × (Y − 1) divided by 19; the rest is its leap
-- remainder. It has 13 months exactly when that is 12 or more, else 12."
pub record SolsticeYearBegins (y first rest months : ℕ) : Type 0 where
  pub begins : 19 * first + rest ≡ 235 * elapsed y
  pub below : rest < 19
  pub thirteen : (months ≡ 13) ↔ (12 ≤ rest)
  pub twelve : (months ≡ 12) ↔ (rest < 12)

-- what the facts of a solstice year are: its ji, bu and year in bu, after w whole yuan; "a bu's head name is that of its first day",
-- the first day of the first month of its first year; its months
pub record IsSolsticeYear (y : ℕ) (s : SolsticeYear) : Type 0 where
  pub w : ℕ
  pub its-place : IsPlace y w s.ji s.bu s.year_in_bu
  pub its-head : s.head_name ≡ day_name (month_start (solstice_first_month (y - (s.year_in_bu - 1))))
  pub its-months : SolsticeYearBegins y s.first_month s.leap_remainder s.months

-- a solstice year's facts are given exactly in range, and are just what the paper says
abbrev pub SolsticeYearExactly : Type 0
SolsticeYearExactly = (y : ℕ) (s : SolsticeYear) → SolsticeYearFacts y (Ok s) ↔ (SolsticeYearInRange y × IsSolsticeYear y s)

-- a civil year's leap month: with number k and count n exactly where month n of that year is leap with that number, and none exactly where
-- each month of that year holds a mid-term
pub record LeapMonthOf (y : ℕ) (l : Option LeapMonth) : Type 0 where
  pub with-one : (k n : ℕ) → (l ≡ Some (record { number = k; month = n })) ↔ (InCivilYear y n × IsMonth n (Leap k))
  pub without : (l ≡ None) ↔ ((n : ℕ) → InCivilYear y n → NoMidTerm n → ⊥)

-- "A civil year opens with its own month 1 (year 0 with month 11) and has the months up to the next": so many from the first on
pub record YearOpens (y first months : ℕ) : Type 0 where
  pub month-1 : 1 ≤ y → IsMonth first (Ordinary 1)
  pub month-11 : y ≡ 0 → IsMonth first (Ordinary 11)
  pub the-months : (n : ℕ) → InCivilYear y n ↔ ((first ≤ n) × (n < first + months))

-- what a civil year's own facts are: its name, the months that it lists, and its leap month
pub record IsYearFacts (y : ℕ) (f : YearFacts) : Type 0 where
  pub its-name : f.name ≡ year_name y
  pub its-months : YearOpens y f.first_month f.months
  pub its-leap-month : LeapMonthOf y f.leap_month

abbrev pub YearFactsExactly : Type 0
YearFactsExactly = (y : ℕ) (f : YearFacts) → YearOwnFacts y (Ok f) ↔ (CivilYearInRange y × IsYearFacts y f)

-- what the facts of month n are: ordinary or leap, with its number; "Month n starts on day 27,759 × n divided by 940, whole part; the
-- rest is its small remainder. Its length runs to the next start. It is 30 exactly when the remainder is 441 or more, else 29."; the
-- name of its first day; whether it is an eclipse month
pub record IsMonthFacts (n : ℕ) (f : MonthFacts) : Type 0 where
  pub its-month : IsMonth n f.month
  pub starts : 940 * f.first_day + f.small_remainder ≡ 27759 * n
  pub below : f.small_remainder < 940
  pub its-length : f.first_day + f.month_length ≡ month_start (n + 1)
  pub thirty : (f.month_length ≡ 30) ↔ (441 ≤ f.small_remainder)
  pub twenty-nine : (f.month_length ≡ 29) ↔ (f.small_remainder < 441)
  pub its-name : f.first_name ≡ day_name f.first_day
  pub its-eclipse : (f.eclipse ≡ true) ↔ EclipseMonth n

abbrev pub MonthByCountExactly : Type 0
MonthByCountExactly = (n : ℕ) (f : MonthFacts) → MonthByCount n (Ok f) ↔ (MonthInRange n × IsMonthFacts n f)

-- "Quarter q (0 new, 1 first, 2 full, 3 last) of month n falls on the whole part of 27,759 × (4n + q) divided by 3,760; the rest, in
-- parts of 3,760, is given too."
pub record IsQuarter (n q : ℕ) (r : Quarter) : Type 0 where
  pub falls : 3760 * r.day + r.parts ≡ 27759 * (4 * n + q)
  pub below : r.parts < 3760

abbrev pub QuarterOfMonthExactly : Type 0
QuarterOfMonthExactly = (n q : ℕ) (r : Quarter) → QuarterOfMonth n q (Ok r) ↔ (MonthInRange n × (q ≤ 3) × IsQuarter n q r)

-- of a solstice year: "Year Y and term k (0 to 23, 0 the solstice) mean t = 24 × (Y − 1) + k." "The answer for a term gives, besides the day,
-- the remainder in parts of 32." (W2)
abbrev pub TermOfYearExactly : Type 0
TermOfYearExactly =
    (y k : ℕ) (r : Term) → TermOfYear y k (Ok r) ↔ (SolsticeYearInRange y × (k ≤ 23) × IsTerm (24 * (y - 1) + k) r.day r.parts)

-- what the call answered before W2, when a term was its day alone
abbrev pub term_before : ℕ → ℕ → Answer ℕ
term_before y k = guard (within 1 41040 y) 1 (guard (leb k 23) 15 (is (487 * (24 * (y - 1) + k) / 32)))

-- "Everything that asks for a term now receives both and must be shown unchanged in what it answers. Refusals stay." (W2): the answer
-- without its parts is what it was, for every input; of dates the crate `agreed` says it, DatesAsBefore
abbrev pub TermAsBefore : Type 0
TermAsBefore = (y k : ℕ) (a : Result Term Reason) → TermOfYear y k a → and_then (said a) (λ r. is r.day) ≡ term_before y k

-- a mid-term's parts are even
abbrev pub MidTermEven : Type 0
MidTermEven = (y j : ℕ) (r : Term) → TermOfYear y (2 * j) (Ok r) → r.parts % 2 ≡ 0

-- reason 1 and no other, for both calls of a year: a solstice year outside 1 to 41,040, a civil year outside 0 to 41,040
pub record YearReasons (y : ℕ) : Type 0 where
  pub place-one : SolsticeYearFacts y (Err NoSuchYear) ↔ (SolsticeYearInRange y → ⊥)
  pub place-only : (why : Reason) → SolsticeYearFacts y (Err why) → why ≡ NoSuchYear
  pub own-one : YearOwnFacts y (Err NoSuchYear) ↔ (CivilYearInRange y → ⊥)
  pub own-only : (why : Reason) → YearOwnFacts y (Err why) → why ≡ NoSuchYear

-- reason 7, "month count outside the range", and no other
pub record MonthReasons (n : ℕ) : Type 0 where
  pub seven : MonthByCount n (Err NoSuchMonth) ↔ (MonthInRange n → ⊥)
  pub only : (why : Reason) → MonthByCount n (Err why) → why ≡ NoSuchMonth

-- "Term or quarter: 1 or 7, then 15"; 15 is "term above 23 or quarter above 3"; and no other
pub record QuarterReasons (n q : ℕ) : Type 0 where
  pub seven : QuarterOfMonth n q (Err NoSuchMonth) ↔ (MonthInRange n → ⊥)
  pub fifteen : QuarterOfMonth n q (Err NoSuchTermOrQuarter) ↔ (MonthInRange n × (q ≤ 3 → ⊥))
  pub only : (why : Reason) → QuarterOfMonth n q (Err why) → (why ≡ NoSuchMonth) ⊎ (why ≡ NoSuchTermOrQuarter)

pub record TermReasons (y k : ℕ) : Type 0 where
  pub one : TermOfYear y k (Err NoSuchYear) ↔ (SolsticeYearInRange y → ⊥)
  pub fifteen : TermOfYear y k (Err NoSuchTermOrQuarter) ↔ (SolsticeYearInRange y × (k ≤ 23 → ⊥))
  pub only : (why : Reason) → TermOfYear y k (Err why) → (why ≡ NoSuchYear) ⊎ (why ≡ NoSuchTermOrQuarter)

pub record ReasonsOfFacts : Type 0 where
  pub years : (y : ℕ) → YearReasons y
  pub months : (n : ℕ) → MonthReasons n
  pub quarters : (n q : ℕ) → QuarterReasons n q
  pub terms : (y k : ℕ) → TermReasons y k

-- each promise leaves one answer
pub record UniqueFacts : Type 0 where
  pub solstice-year : (y : ℕ) (a b : Result SolsticeYear Reason) → SolsticeYearFacts y a → SolsticeYearFacts y b → a ≡ b
  pub year : (y : ℕ) (a b : Result YearFacts Reason) → YearOwnFacts y a → YearOwnFacts y b → a ≡ b
  pub month : (n : ℕ) (a b : Result MonthFacts Reason) → MonthByCount n a → MonthByCount n b → a ≡ b
  pub quarter : (n q : ℕ) (a b : Result Quarter Reason) → QuarterOfMonth n q a → QuarterOfMonth n q b → a ≡ b
  pub term : (y k : ℕ) (a b : Result Term Reason) → TermOfYear y k a → TermOfYear y k b → a ≡ b

-- wrong versions, each shut out at a named input: of each call one that refuses all, and one fixed answer; and at solstice year 44, term 10,
-- which is day 15,857 and 30 parts: the remainder of another divisor, 487 × t by 16 (14 parts) or, counted among mid-terms, 487 × m by 16 (15);
-- the remainder of the term after (5)
pub record WrongFacts : Type 0 where
  pub solstice-year-refused : (why : Reason) → SolsticeYearFacts 1 (Err why) → ⊥
  pub year-refused : (why : Reason) → YearOwnFacts 11 (Err why) → ⊥
  pub month-refused : (why : Reason) → MonthByCount 134 (Err why) → ⊥
  pub quarter-refused : (why : Reason) → QuarterOfMonth 0 0 (Err why) → ⊥
  pub term-refused : (why : Reason) → TermOfYear 1 0 (Err why) → ⊥
  pub solstice-year-fixed : (a : Result SolsticeYear Reason) → SolsticeYearFacts 76 a → SolsticeYearFacts 77 a → ⊥
  pub year-fixed : (a : Result YearFacts Reason) → YearOwnFacts 76 a → YearOwnFacts 77 a → ⊥
  pub month-fixed : (a : Result MonthFacts Reason) → MonthByCount 134 a → MonthByCount 135 a → ⊥
  pub quarter-fixed : (a : Result Quarter Reason) → QuarterOfMonth 0 0 a → QuarterOfMonth 0 1 a → ⊥
  pub term-fixed : (a : Result Term Reason) → TermOfYear 1 0 a → TermOfYear 1 1 a → ⊥
  pub term-other-divisor : (r : Term) → TermOfYear 44 10 (Ok r) → r.parts ≡ 487 * (24 * 43 + 10) % 16 → ⊥
  pub term-by-mid-terms : (r : Term) → TermOfYear 44 10 (Ok r) → r.parts ≡ 487 * (12 * 43 + 5) % 16 → ⊥
  pub term-after : (r : Term) → TermOfYear 44 10 (Ok r) → r.parts ≡ 487 * (24 * 43 + 11) % 32 → ⊥

-- and those of "What would mislead the desk":
-- "Dividing the inclusive year by 76, so that year 76 falls into the next bu as its year 0."
-- "The shortcut for the leap month.": it gives leap 8 in year 11
-- "Comparing mid-term and new moon by the instant and not by the day.": month 32 would hold a mid-term
-- "Taking months as strictly big and small by turns; months 128 and 129 are both big."
-- "Dating a remainderless eclipse to the month that starts then.": that of month 134 to month 135
-- "Assuming that 27,759 days keep eclipse months.": they lead from month 5 to month 945
pub record MisleadingFacts : Type 0 where
  pub next-bu : (s : SolsticeYear) → SolsticeYearFacts 76 (Ok s) → s.bu ≡ 2 → ⊥
  pub year-0 : (s : SolsticeYear) → SolsticeYearFacts 76 (Ok s) → s.year_in_bu ≡ 0 → ⊥
  pub shortcut : (f : YearFacts) (n : ℕ) → YearOwnFacts 11 (Ok f) → f.leap_month ≡ Some (record { number = 8; month = n }) → ⊥
  pub by-instant : (f : MonthFacts) (k : ℕ) → MonthByCount 32 (Ok f) → f.month ≡ Ordinary k → ⊥
  pub by-turns : (f : MonthFacts) → MonthByCount 129 (Ok f) → f.month_length ≡ 29 → ⊥
  pub not-counted : (f : MonthFacts) → MonthByCount 134 (Ok f) → f.eclipse ≡ false → ⊥
  pub starts-then : (f : MonthFacts) → MonthByCount 135 (Ok f) → f.eclipse ≡ true → ⊥
  pub eclipses-kept : (f g : MonthFacts) → MonthByCount 5 (Ok f) → MonthByCount 945 (Ok g) → f.eclipse ≡ g.eclipse → ⊥
