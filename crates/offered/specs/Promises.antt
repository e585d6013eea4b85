-- What the calls for C promise, for every number of their types: the paper's answer, laid flat. No number is capped here.
-- Assumes nothing.
use Rattle.std.specs.Prelude.{ℕ, ◌≡◌, Bool, true, false, List, map, ℤ, length}
use Rattle.rule.specs.Reasons.{Answer, is, and_then, afterwards}
use Rattle.dates.specs.Dates.{date_at, day_of_date}
use Rattle.moves.specs.Moves.{moved}
use Rattle.facts.specs.Facts.{solstice_year_at, year_facts_at, month_facts_at, quarter_at, term_at}
use Rattle.clerk.specs.declared.Clerk.{Clerk}
use Rattle.clerk.specs.Clerk.{step_at, start_at, walked, shown}
use Rattle.planets.specs.Planets.{conjunction_at, next_at, pair_at}
use Rattle.reading.specs.declared.Field.{Field}
use Rattle.reading.specs.declared.Field.TheVariants.{Known, Unread}
use Rattle.reading.specs.declared.Reading.{Reading}
use Rattle.reading.specs.Readings.{window_days, fitting}
use Rattle.reading.specs.Search.{search_at}
use Rattle.emending.specs.Emended.{emend_at, filled_with}
use Rattle.drawer.specs.Drawer.{drawer_at}
use Rattle.sheet.specs.Sheet.{read_into, write_into}
use Rattle.sheet.specs.Promises.{counted}
use Rattle.penned.specs.Promises.{year_block_at, month_line_at, month_item_at, day_item_at}
use Rattle.concordance.specs.Promises.{verdicts_into}
use Rattle.offered.specs.declared.CDate.{CDate}
use Rattle.offered.specs.declared.CDay.{CDay}
use Rattle.offered.specs.declared.CSolstice.{CSolstice}
use Rattle.offered.specs.declared.CYear.{CYear}
use Rattle.offered.specs.declared.CMonth.{CMonth}
use Rattle.offered.specs.declared.CClerk.{CClerk}
use Rattle.offered.specs.declared.CQuarter.{CQuarter}
use Rattle.offered.specs.declared.CTerm.{CTerm}
use Rattle.offered.specs.declared.CConjunction.{CConjunction}
use Rattle.offered.specs.declared.CNext.{CNext}
use Rattle.offered.specs.declared.CPair.{CPair}
use Rattle.offered.specs.declared.CFound.{CFound}
use Rattle.offered.specs.declared.CEmended.{CEmended}
use Rattle.offered.specs.declared.CFilled.{CFilled}
use Rattle.offered.specs.declared.CSheetCounts.{CSheetCounts}
use Rattle.offered.specs.declared.CLength.{CLength}
use Rattle.offered.specs.Flat.{
  flat_date,
  flat_day,
  flat_solstice,
  flat_year,
  given_month,
  flat_month,
  flat_clerk,
  flat_quarter,
  flat_term,
  flat_conjunction,
  flat_next,
  flat_pair,
  flat_found,
  flat_emended,
  flat_filled,
  flat_counts,
  flat_length,
}
use Rattle.offered.specs.declared.CReading.{CReading}

-- day to date
abbrev pub c_date_at : ℕ → CDate
c_date_at d = flat_date (date_at d)

abbrev pub CDateOfDay : ℕ → CDate → Type 0
CDateOfDay d r = r ≡ c_date_at d

-- a drawer of days: the answer, and what the lent records hold then, each the date of its day
pub record CFillDates (days : List ℕ) (old : List CDate) (r : CFilled) (new : List CDate) : Type 0 where
  pub answer : r ≡ flat_filled (drawer_at days (length old))
  pub lent : new ≡ afterwards (drawer_at days (length old)) (λ n. map c_date_at days) old

-- date to day
abbrev pub CDayOfDate : ℕ → ℕ → Bool → ℕ → CDay → Type 0
CDayOfDate y k l m r = r ≡ flat_day (day_of_date y k l m)

-- a move of a date by any signed number
abbrev pub CMoveDate : ℕ → ℕ → Bool → ℕ → ℤ → CDate → Type 0
CMoveDate y k l m n r = r ≡ flat_date (moved y k l m n)

-- a solstice year's facts
abbrev pub CSolsticeYear : ℕ → CSolstice → Type 0
CSolsticeYear y r = r ≡ flat_solstice (solstice_year_at y)

-- a civil year's own
abbrev pub CYearFacts : ℕ → CYear → Type 0
CYearFacts y r = r ≡ flat_year (year_facts_at y)

-- a month by its count
abbrev pub CMonthFacts : ℕ → CMonth → Type 0
CMonthFacts n r = r ≡ flat_month (month_facts_at n)

-- the clerk: a start at a bu's head, a step, a start and so many steps; and what it shows, which it always does
abbrev pub CClerkStart : ℕ → CClerk → Type 0
CClerkStart b r = r ≡ flat_clerk (start_at b)

abbrev pub CClerkStep : Clerk → CClerk → Type 0
CClerkStep c r = r ≡ flat_clerk (step_at c)

abbrev pub CClerkWalk : ℕ → ℕ → CClerk → Type 0
CClerkWalk b k r = r ≡ flat_clerk (walked b k)

abbrev pub CClerkShow : Clerk → CMonth → Type 0
CClerkShow c r = r ≡ given_month (shown c)

-- a quarter of a month
abbrev pub CQuarterOf : ℕ → ℕ → CQuarter → Type 0
CQuarterOf n q r = r ≡ flat_quarter (quarter_at n q)

-- a term of a solstice year
abbrev pub CTermOf : ℕ → ℕ → CTerm → Type 0
CTermOf y k r = r ≡ flat_term (term_at y k)

-- the k-th conjunction of a planet
abbrev pub CKthConjunction : ℕ → ℕ → CConjunction → Type 0
CKthConjunction p k r = r ≡ flat_conjunction (conjunction_at p k)

-- the first conjunction of a planet on or after a day
abbrev pub CNextConjunction : ℕ → ℕ → CNext → Type 0
CNextConjunction p d r = r ≡ flat_next (next_at p d)

-- a planet's pair
abbrev pub CReducedPair : ℕ → CPair → Type 0
CReducedPair p r = r ≡ flat_pair (pair_at p)

-- a value that was read, or not
abbrev pub field_of : ℕ → Bool → Field
field_of n true = Known n
field_of n false = Unread

-- a reading by its own six values, however large
abbrev pub reading_of : CReading → Reading
reading_of r =
    record {
      year_name = field_of r.year_name r.year_name_known;
      month_number = field_of r.month_number r.month_number_known;
      leap_mark = field_of r.leap_mark r.leap_mark_known;
      day_of_month = field_of r.day_of_month r.day_of_month_known;
      day_name = field_of r.day_name r.day_name_known;
      first_name = field_of r.first_name r.first_name_known;
    }

-- a search: the answer, and what the lent list holds then
pub record CSearch (r : CReading) (first last : ℕ) (old : List ℕ) (a : CFound) (new : List ℕ) : Type 0 where
  pub answer : a ≡ flat_found (search_at (reading_of r) first last (length old))
  pub lent : new ≡ afterwards (search_at (reading_of r) first last (length old)) (λ n. fitting (reading_of r) first (window_days first last)) old

-- an emendation: the answer, and what the lent list holds then
pub record CEmendsReading (r : CReading) (first last : ℕ) (old : List ℕ) (a : CEmended) (new : List ℕ) : Type 0 where
  pub answer : a ≡ flat_emended (emend_at (reading_of r) first last (length old))
  pub lent : new ≡ afterwards (emend_at (reading_of r) first last (length old)) (filled_with (reading_of r) first last) old

-- reading the bytes s into lent lists that held y, m and d: the answer r, and what they hold then
pub record CReadSheet (s y m d : List ℕ) (r : CSheetCounts) (y' m' d' : List ℕ) : Type 0 where
  pub answer : r ≡ flat_counts (and_then (read_into s (length y) (length m) (length d)) (λ l. is (counted l)))
  pub years : y' ≡ afterwards (read_into s (length y) (length m) (length d)) (λ l. l.years) y
  pub months : m' ≡ afterwards (read_into s (length y) (length m) (length d)) (λ l. l.months) m
  pub days : d' ≡ afterwards (read_into s (length y) (length m) (length d)) (λ l. l.days) d

-- the bytes a, in a lent buffer that held o: what is said back is their length, and what the buffer holds then
pub record CPrinted (a : Answer (List ℕ)) (o : List ℕ) (r : CLength) (o' : List ℕ) : Type 0 where
  pub answer : r ≡ flat_length (and_then a (λ b. is (length b)))
  pub buffer : o' ≡ afterwards a (λ b. b) o

-- writing the lists y, m and d
abbrev pub CWriteSheet : List ℕ → List ℕ → List ℕ → List ℕ → CLength → List ℕ → Type 0
CWriteSheet y m d o = CPrinted (write_into (record { years = y; months = m; days = d }) (length o)) o

-- a civil year's block, a month's line, a `MONTH` line, a `DAY` line
abbrev pub CPrintYear : ℕ → List ℕ → CLength → List ℕ → Type 0
CPrintYear y o = CPrinted (year_block_at y (length o)) o

abbrev pub CPrintMonthLine : ℕ → List ℕ → CLength → List ℕ → Type 0
CPrintMonthLine n o = CPrinted (month_line_at n (length o)) o

abbrev pub CPrintMonth : ℕ → List ℕ → CLength → List ℕ → Type 0
CPrintMonth n o = CPrinted (month_item_at n (length o)) o

abbrev pub CPrintDay : ℕ → List ℕ → CLength → List ℕ → Type 0
CPrintDay d o = CPrinted (day_item_at d (length o)) o

-- the verdicts on a text's lines, one byte a line
abbrev pub CJudgeText : List ℕ → List ℕ → CLength → List ℕ → Type 0
CJudgeText s o = CPrinted (verdicts_into s (length o)) o
