-- What holds of the calls for C, as statements. proofs/Paper.antt proves each under the same name in small letters.
-- Assumes nothing.
use Rattle.emending.specs.declared.Emended.{Emended}
use Rattle.emending.specs.declared.Emended.TheVariants.{Fits, Are}
use Rattle.reading.specs.declared.SearchError.{SearchError}
use Rattle.rule.specs.declared.Reason.{Reason}
use Rattle.std.specs.Prelude.{Result, Ok, ℕ, ◌+◌, ◌-◌, ◌*◌, ◌≤◌, ◌<◌, ◌≡◌, ◌↔◌, ◌≢◌, Bool, true, false, List, [], ◌∷◌, ◌++◌, ℤ, pos, length, get_or, replicate}
use Rattle.rule.specs.Rule.{InMonth}
use Rattle.rule.specs.Reasons.{said, is}
use Rattle.rule.specs.Paper.{IsTerm}
use Rattle.rule.specs.declared.Quarter.{Quarter}
use Rattle.rule.specs.declared.Term.{Term}
use Rattle.dates.specs.declared.Date.{Date}
use Rattle.dates.specs.Promises.{DateOfDay, DayOfDate}
use Rattle.dates.specs.Paper.{Besides, last_of_bu1, first_of_bu2}
use Rattle.moves.specs.Moves.{MoveDate}
use Rattle.facts.specs.declared.SolsticeYear.{SolsticeYear}
use Rattle.facts.specs.declared.YearFacts.{YearFacts}
use Rattle.facts.specs.declared.MonthFacts.{MonthFacts}
use Rattle.facts.specs.Paper.{term_before}
use Rattle.facts.specs.Promises.{SolsticeYearFacts, YearOwnFacts, MonthByCount, QuarterOfMonth, TermOfYear}
use Rattle.clerk.specs.declared.Clerk.{Clerk}
use Rattle.clerk.specs.Clerk.{StartsAt, StepsOn, WalksOn, Shows}
use Rattle.clerk.specs.Paper.{count_of}
use Rattle.planets.specs.declared.Conjunction.{Conjunction}
use Rattle.planets.specs.declared.Next.{Next}
use Rattle.planets.specs.declared.Pair.{Pair}
use Rattle.planets.specs.Promises.{KthConjunction, NextConjunction, ReducedPair}
use Rattle.reading.specs.Search.{total, said_found, Searched}
use Rattle.emending.specs.Emended.{emend_total, EmendsReading}
use Rattle.drawer.specs.declared.DrawerError.{DrawerError}
use Rattle.drawer.specs.Drawer.{said_filled, to_fill, FillDates}
use Rattle.drawer.specs.Paper.{NotTooMany, Roomy, AllInRange, FilledWith}
use Rattle.sheet.specs.declared.Counted.{Counted}
use Rattle.sheet.specs.Promises.{ReadSheet, WriteSheet}
use Rattle.sheet.specs.Sheet.{empty_sheet, sheet_of11, sheet_of_twos}
use Rattle.penned.specs.Promises.{PrintYear, PrintMonthLine, PrintMonth, PrintDay}
use Rattle.fields.specs.Fields.{word}
use Rattle.concordance.specs.Promises.{JudgeText}
use Rattle.concordance.specs.Paper.{nines}
use Rattle.offered.specs.declared.CDate.{CDate}
use Rattle.offered.specs.declared.CDay.{CDay}
use Rattle.offered.specs.declared.CSolstice.{CSolstice}
use Rattle.offered.specs.declared.CYear.{CYear}
use Rattle.offered.specs.declared.CMonth.{CMonth}
use Rattle.offered.specs.declared.CClerk.{CClerk}
use Rattle.offered.specs.declared.CQuarter.{CQuarter}
use Rattle.offered.specs.declared.CTerm.{CTerm}
use Rattle.offered.specs.declared.CConjunction.{CConjunction}
use Rattle.offered.specs.declared.CNext.{CNext}
use Rattle.offered.specs.declared.CPair.{CPair}
use Rattle.offered.specs.declared.CFound.{CFound}
use Rattle.offered.specs.declared.CEmended.{CEmended}
use Rattle.offered.specs.declared.CFilled.{CFilled}
use Rattle.offered.specs.declared.CSheetCounts.{CSheetCounts}
use Rattle.offered.specs.declared.CLength.{CLength}
use Rattle.offered.specs.Flat.{
  given_date,
  flat_date,
  given_day,
  flat_day,
  given_solstice,
  flat_solstice,
  given_year,
  flat_year,
  given_month,
  flat_month,
  given_clerk,
  flat_clerk,
  given_quarter,
  flat_quarter,
  given_term,
  flat_term,
  given_conjunction,
  flat_conjunction,
  given_next,
  flat_next,
  given_pair,
  flat_pair,
  flat_found,
  flat_emended,
  flat_filled,
  given_counts,
  flat_counts,
  given_length,
  flat_length,
}
use Rattle.offered.specs.Structs.{
  BareDate,
  BareDay,
  BareSolstice,
  BareYear,
  BareMonth,
  BareClerk,
  BareQuarter,
  BareTerm,
  BareConjunction,
  BareNext,
  BarePair,
  BareFound,
  BareEmended,
  BareFilled,
  BareCounts,
  BareLength,
}
use Rattle.offered.specs.declared.CReading.{CReading}
use Rattle.offered.specs.Promises.{
  reading_of,
  CDateOfDay,
  CDayOfDate,
  CMoveDate,
  CSolsticeYear,
  CYearFacts,
  CMonthFacts,
  CClerkStart,
  CClerkStep,
  CClerkWalk,
  CClerkShow,
  CQuarterOf,
  CTermOf,
  CKthConjunction,
  CNextConjunction,
  CReducedPair,
  CSearch,
  CEmendsReading,
  CFillDates,
  CReadSheet,
  CWriteSheet,
  CPrintYear,
  CPrintMonthLine,
  CJudgeText,
  CPrintMonth,
  CPrintDay,
}

-- each promise leaves one answer, and one state of the lent memory
abbrev pub OnePrinted : (ℕ → List ℕ → CLength → List ℕ → Type 0) → Type 0
OnePrinted P = (x : ℕ) (o : List ℕ) (a b : CLength) (o₁ o₂ : List ℕ) → P x o a o₁ → P x o b o₂ → (a ≡ b) × (o₁ ≡ o₂)

pub record UniqueExported : Type 0 where
  pub date-of-day : (d : ℕ) (a b : CDate) → CDateOfDay d a → CDateOfDay d b → a ≡ b
  pub day-of-date : (y k : ℕ) (l : Bool) (m : ℕ) (a b : CDay) → CDayOfDate y k l m a → CDayOfDate y k l m b → a ≡ b
  pub move-date : (y k : ℕ) (l : Bool) (m : ℕ) (n : ℤ) (a b : CDate) → CMoveDate y k l m n a → CMoveDate y k l m n b → a ≡ b
  pub solstice-year : (y : ℕ) (a b : CSolstice) → CSolsticeYear y a → CSolsticeYear y b → a ≡ b
  pub year-facts : (y : ℕ) (a b : CYear) → CYearFacts y a → CYearFacts y b → a ≡ b
  pub month-facts : (n : ℕ) (a b : CMonth) → CMonthFacts n a → CMonthFacts n b → a ≡ b
  pub clerk-start : (b : ℕ) (r s : CClerk) → CClerkStart b r → CClerkStart b s → r ≡ s
  pub clerk-step : (c : Clerk) (r s : CClerk) → CClerkStep c r → CClerkStep c s → r ≡ s
  pub clerk-walk : (b k : ℕ) (r s : CClerk) → CClerkWalk b k r → CClerkWalk b k s → r ≡ s
  pub clerk-show : (c : Clerk) (r s : CMonth) → CClerkShow c r → CClerkShow c s → r ≡ s
  pub quarter : (n q : ℕ) (a b : CQuarter) → CQuarterOf n q a → CQuarterOf n q b → a ≡ b
  pub term : (y k : ℕ) (a b : CTerm) → CTermOf y k a → CTermOf y k b → a ≡ b
  pub conjunction : (p k : ℕ) (a b : CConjunction) → CKthConjunction p k a → CKthConjunction p k b → a ≡ b
  pub next : (p d : ℕ) (a b : CNext) → CNextConjunction p d a → CNextConjunction p d b → a ≡ b
  pub pair : (p : ℕ) (a b : CPair) → CReducedPair p a → CReducedPair p b → a ≡ b
  pub search :
      (r : CReading) (first last : ℕ) (old : List ℕ) (a b : CFound) (new other : List ℕ) →
      CSearch r first last old a new → CSearch r first last old b other → (a ≡ b) × (new ≡ other)
  pub emend :
      (r : CReading) (first last : ℕ) (old : List ℕ) (a b : CEmended) (new other : List ℕ) →
      CEmendsReading r first last old a new → CEmendsReading r first last old b other → (a ≡ b) × (new ≡ other)
  pub fill-dates :
      (days : List ℕ) (old : List CDate) (a b : CFilled) (new other : List CDate) →
      CFillDates days old a new → CFillDates days old b other → (a ≡ b) × (new ≡ other)
  pub read-sheet :
      (s y m d : List ℕ) (a b : CSheetCounts) (y₁ m₁ d₁ y₂ m₂ d₂ : List ℕ) →
      CReadSheet s y m d a y₁ m₁ d₁ → CReadSheet s y m d b y₂ m₂ d₂ → (a ≡ b) × (y₁ ≡ y₂) × (m₁ ≡ m₂) × (d₁ ≡ d₂)
  pub write-sheet :
      (y m d o : List ℕ) (a b : CLength) (o₁ o₂ : List ℕ) →
      CWriteSheet y m d o a o₁ → CWriteSheet y m d o b o₂ → (a ≡ b) × (o₁ ≡ o₂)
  pub print-year : OnePrinted CPrintYear
  pub print-month-line : OnePrinted CPrintMonthLine
  pub print-month : OnePrinted CPrintMonth
  pub print-day : OnePrinted CPrintDay
  pub judge-text : (s o : List ℕ) (a b : CLength) (o₁ o₂ : List ℕ) → CJudgeText s o a o₁ → CJudgeText s o b o₂ → (a ≡ b) × (o₁ ≡ o₂)

-- a refusal says nothing but its reason, and has changed nothing that was lent
abbrev pub RefusedPrint : (ℕ → List ℕ → CLength → List ℕ → Type 0) → Type 0
RefusedPrint P = (x : ℕ) (o : List ℕ) (r : CLength) (o' : List ℕ) → P x o r o' → r.reason ≢ 0 → BareLength r × (o' ≡ o)

pub record RefusalIsBare : Type 0 where
  pub date-of-day : (d : ℕ) (r : CDate) → CDateOfDay d r → r.reason ≢ 0 → BareDate r
  pub day-of-date : (y k : ℕ) (l : Bool) (m : ℕ) (r : CDay) → CDayOfDate y k l m r → r.reason ≢ 0 → BareDay r
  pub move-date : (y k : ℕ) (l : Bool) (m : ℕ) (n : ℤ) (r : CDate) → CMoveDate y k l m n r → r.reason ≢ 0 → BareDate r
  pub solstice-year : (y : ℕ) (r : CSolstice) → CSolsticeYear y r → r.reason ≢ 0 → BareSolstice r
  pub year-facts : (y : ℕ) (r : CYear) → CYearFacts y r → r.reason ≢ 0 → BareYear r
  pub month-facts : (n : ℕ) (r : CMonth) → CMonthFacts n r → r.reason ≢ 0 → BareMonth r
  pub clerk-start : (b : ℕ) (r : CClerk) → CClerkStart b r → r.reason ≢ 0 → BareClerk r
  pub clerk-step : (c : Clerk) (r : CClerk) → CClerkStep c r → r.reason ≢ 0 → BareClerk r
  pub clerk-walk : (b k : ℕ) (r : CClerk) → CClerkWalk b k r → r.reason ≢ 0 → BareClerk r
  pub quarter : (n q : ℕ) (r : CQuarter) → CQuarterOf n q r → r.reason ≢ 0 → BareQuarter r
  pub term : (y k : ℕ) (r : CTerm) → CTermOf y k r → r.reason ≢ 0 → BareTerm r
  pub conjunction : (p k : ℕ) (r : CConjunction) → CKthConjunction p k r → r.reason ≢ 0 → BareConjunction r
  pub next : (p d : ℕ) (r : CNext) → CNextConjunction p d r → r.reason ≢ 0 → BareNext r
  pub pair : (p : ℕ) (r : CPair) → CReducedPair p r → r.reason ≢ 0 → BarePair r
  pub search :
      (r : CReading) (first last : ℕ) (old : List ℕ) (a : CFound) (new : List ℕ) →
      CSearch r first last old a new → a.reason ≢ 0 → BareFound (total (reading_of r) first last) a × (new ≡ old)
  pub emend :
      (r : CReading) (first last : ℕ) (old : List ℕ) (a : CEmended) (new : List ℕ) →
      CEmendsReading r first last old a new → a.reason ≢ 0 → BareEmended (emend_total (reading_of r) first last) a × (new ≡ old)
  pub fill-dates :
      (days : List ℕ) (old : List CDate) (r : CFilled) (new : List CDate) →
      CFillDates days old r new → r.reason ≢ 0 → BareFilled days r × (new ≡ old)
  pub read-sheet :
      (s y m d : List ℕ) (r : CSheetCounts) (y' m' d' : List ℕ) →
      CReadSheet s y m d r y' m' d' → r.reason ≢ 0 → BareCounts r × (y' ≡ y) × (m' ≡ m) × (d' ≡ d)
  pub write-sheet :
      (y m d o : List ℕ) (r : CLength) (o' : List ℕ) → CWriteSheet y m d o r o' → r.reason ≢ 0 → BareLength r × (o' ≡ o)
  pub print-year : RefusedPrint CPrintYear
  pub print-month-line : RefusedPrint CPrintMonthLine
  pub print-month : RefusedPrint CPrintMonth
  pub print-day : RefusedPrint CPrintDay
  pub judge-text : (s o : List ℕ) (r : CLength) (o' : List ℕ) → CJudgeText s o r o' → r.reason ≢ 0 → BareLength r × (o' ≡ o)

-- what a call for C says is what the call says, laid flat, and lent memory is as the call leaves it
abbrev pub PrintSaid : (ℕ → List ℕ → CLength → List ℕ → Type 0) → (ℕ → List ℕ → Result ℕ Reason → List ℕ → Type 0) → Type 0
PrintSaid C P =
    (x : ℕ) (o : List ℕ) (r : CLength) (o' : List ℕ) → C x o r o' ↔ ((a : Result ℕ Reason) × P x o a o' × (r ≡ flat_length (said a)))

-- of a drawer, whose records have another form: the answer is that of the call, each record that the call fills is that of the call, laid
-- flat, and the rest is as it was
pub record SaysTheDrawer (old : List CDate) (r : CFilled) (new : List CDate) (a : Result ℕ DrawerError) (after : List Date) : Type 0 where
  pub answer : r ≡ flat_filled (said_filled a)
  pub as_long : length new ≡ length old
  pub records : (i : ℕ) (none : CDate) (blank : Date) → i < to_fill (said_filled a) → get_or new i none ≡ given_date (get_or after i blank)
  pub rest : (i : ℕ) (none : CDate) → to_fill (said_filled a) ≤ i → get_or new i none ≡ get_or old i none

pub record SaysWhatTheCallSays : Type 0 where
  pub date-of-day : (d : ℕ) (r : CDate) → CDateOfDay d r ↔ ((a : Result Date Reason) × DateOfDay d a × (r ≡ flat_date (said a)))
  pub day-of-date :
      (y k : ℕ) (l : Bool) (m : ℕ) (r : CDay) →
      CDayOfDate y k l m r ↔ ((a : Result ℕ Reason) × DayOfDate y k l m a × (r ≡ flat_day (said a)))
  pub move-date :
      (y k : ℕ) (l : Bool) (m : ℕ) (n : ℤ) (r : CDate) →
      CMoveDate y k l m n r ↔ ((a : Result Date Reason) × MoveDate y k l m n a × (r ≡ flat_date (said a)))
  pub solstice-year :
      (y : ℕ) (r : CSolstice) →
      CSolsticeYear y r ↔ ((a : Result SolsticeYear Reason) × SolsticeYearFacts y a × (r ≡ flat_solstice (said a)))
  pub year-facts : (y : ℕ) (r : CYear) → CYearFacts y r ↔ ((a : Result YearFacts Reason) × YearOwnFacts y a × (r ≡ flat_year (said a)))
  pub month-facts : (n : ℕ) (r : CMonth) → CMonthFacts n r ↔ ((a : Result MonthFacts Reason) × MonthByCount n a × (r ≡ flat_month (said a)))
  pub clerk-start : (b : ℕ) (r : CClerk) → CClerkStart b r ↔ ((a : Result Clerk Reason) × StartsAt b a × (r ≡ flat_clerk (said a)))
  pub clerk-step : (c : Clerk) (r : CClerk) → CClerkStep c r ↔ ((a : Result Clerk Reason) × StepsOn c a × (r ≡ flat_clerk (said a)))
  pub clerk-walk : (b k : ℕ) (r : CClerk) → CClerkWalk b k r ↔ ((a : Result Clerk Reason) × WalksOn b k a × (r ≡ flat_clerk (said a)))
  pub clerk-show : (c : Clerk) (r : CMonth) → CClerkShow c r ↔ ((f : MonthFacts) × Shows c f × (r ≡ given_month f))
  pub quarter :
      (n q : ℕ) (r : CQuarter) → CQuarterOf n q r ↔ ((a : Result Quarter Reason) × QuarterOfMonth n q a × (r ≡ flat_quarter (said a)))
  pub term : (y k : ℕ) (r : CTerm) → CTermOf y k r ↔ ((a : Result Term Reason) × TermOfYear y k a × (r ≡ flat_term (said a)))
  pub conjunction :
      (p k : ℕ) (r : CConjunction) →
      CKthConjunction p k r ↔ ((a : Result Conjunction Reason) × KthConjunction p k a × (r ≡ flat_conjunction (said a)))
  pub next : (p d : ℕ) (r : CNext) → CNextConjunction p d r ↔ ((a : Result Next Reason) × NextConjunction p d a × (r ≡ flat_next (said a)))
  pub pair : (p : ℕ) (r : CPair) → CReducedPair p r ↔ ((a : Result Pair Reason) × ReducedPair p a × (r ≡ flat_pair (said a)))
  pub search :
      (r : CReading) (first last : ℕ) (old : List ℕ) (a : CFound) (new : List ℕ) →
      CSearch r first last old a new
      ↔ ((f : Result ℕ SearchError) × Searched (reading_of r) first last old f new × (a ≡ flat_found (said_found f)))
  pub emend :
      (r : CReading) (first last : ℕ) (old : List ℕ) (a : CEmended) (new : List ℕ) →
      CEmendsReading r first last old a new
      ↔ ((f : Result Emended SearchError) × EmendsReading (reading_of r) first last old f new × (a ≡ flat_emended (said_found f)))
  pub fill-dates :
      (days : List ℕ) (old : List CDate) (r : CFilled) (new : List CDate) (held : List Date) → length held ≡ length old →
      CFillDates days old r new ↔ ((a : Result ℕ DrawerError) × (after : List Date) × FillDates days held a after × SaysTheDrawer old r new a after)
  pub read-sheet :
      (s y m d : List ℕ) (r : CSheetCounts) (y' m' d' : List ℕ) →
      CReadSheet s y m d r y' m' d' ↔ ((a : Result Counted Reason) × ReadSheet s y m d a y' m' d' × (r ≡ flat_counts (said a)))
  pub write-sheet :
      (y m d o : List ℕ) (r : CLength) (o' : List ℕ) →
      CWriteSheet y m d o r o' ↔ ((a : Result ℕ Reason) × WriteSheet y m d o a o' × (r ≡ flat_length (said a)))
  pub print-year : PrintSaid CPrintYear PrintYear
  pub print-month-line : PrintSaid CPrintMonthLine PrintMonthLine
  pub print-month : PrintSaid CPrintMonth PrintMonth
  pub print-day : PrintSaid CPrintDay PrintDay
  pub judge-text :
      (s o : List ℕ) (r : CLength) (o' : List ℕ) →
      CJudgeText s o r o' ↔ ((a : Result ℕ Reason) × JudgeText s o a o' × (r ≡ flat_length (said a)))

-- W2: where a term is answered, day and parts are the one pair
abbrev pub CTermExactly : Type 0
CTermExactly = (y k : ℕ) (r : CTerm) → CTermOf y k r → r.reason ≡ 0 → IsTerm (24 * (y - 1) + k) r.day r.parts

-- reason and day of a term are what the call for C gave when it gave the day alone
abbrev pub CTermAsBefore : Type 0
CTermAsBefore = (y k : ℕ) (r : CTerm) → CTermOf y k r → flat_day (term_before y k) ≡ record { reason = r.reason; day = r.day }

-- W8: "every record handed out anywhere must agree with its own day": the four things that a date is asked for by lead to day d, the date of
-- that day is the record itself, and what its fields say besides is as the paper says of month n, on one of whose days d is
pub record CAgrees (d : ℕ) (r : CDate) : Type 0 where
  pub its_own : CDayOfDate r.year r.number r.leap r.day_of_month (given_day d)
  pub its-date : CDateOfDay d r
  pub n : ℕ
  pub on-its-days : InMonth n d
  pub besides :
      Besides n d r.year r.day_of_month r.month_length r.day_name r.year_name r.ji r.bu r.year_in_bu r.eclipse

pub record CDatesAgree : Type 0 where
  pub date-of-day : (d : ℕ) (r : CDate) → CDateOfDay d r → r.reason ≡ 0 → CAgrees d r
  pub move-date : (y k : ℕ) (l : Bool) (m : ℕ) (n : ℤ) (r : CDate) → CMoveDate y k l m n r → r.reason ≡ 0 → (d : ℕ) × CAgrees d r
  pub fill-dates :
      (days : List ℕ) (old : List CDate) (r : CFilled) (new : List CDate) (i : ℕ) (none : CDate) →
      CFillDates days old r new → r.reason ≡ 0 → i < length days → CAgrees (get_or days i 0) (get_or new i none)

-- reason 0 says that the call answers, and nothing else does, since the paper's reasons start at 1; the struct is then that answer
abbrev pub ZeroPrint : (ℕ → List ℕ → CLength → List ℕ → Type 0) → (ℕ → List ℕ → Result ℕ Reason → List ℕ → Type 0) → Type 0
ZeroPrint C P =
    (x : ℕ) (o : List ℕ) (r : CLength) (o' : List ℕ) →
    C x o r o' → (r.reason ≡ 0) ↔ ((n : ℕ) × P x o (Ok n) o' × (r ≡ given_length n))

-- of an emendation: what the call says then
abbrev pub saying : Emended → Result Emended SearchError
saying (Fits n) = Ok (Fits n)
saying (Are n) = Ok (Are n)

-- of a drawer: a good one, all of whose days have what the single call for C gives, as many as are said
pub record GoodDrawer (days : List ℕ) (old : List CDate) (r : CFilled) (new : List CDate) : Type 0 where
  pub not-too-many : NotTooMany days
  pub roomy : Roomy days old
  pub in-range : AllInRange days
  pub so-many : r ≡ flat_filled (is (length days))
  pub filled : FilledWith CDateOfDay days old new

pub record Reason0IffAnswered : Type 0 where
  pub date-of-day : (d : ℕ) (r : CDate) → CDateOfDay d r → (r.reason ≡ 0) ↔ ((x : Date) × DateOfDay d (Ok x) × (r ≡ given_date x))
  pub day-of-date :
      (y k : ℕ) (l : Bool) (m : ℕ) (r : CDay) →
      CDayOfDate y k l m r → (r.reason ≡ 0) ↔ ((x : ℕ) × DayOfDate y k l m (Ok x) × (r ≡ given_day x))
  pub move-date :
      (y k : ℕ) (l : Bool) (m : ℕ) (n : ℤ) (r : CDate) →
      CMoveDate y k l m n r → (r.reason ≡ 0) ↔ ((x : Date) × MoveDate y k l m n (Ok x) × (r ≡ given_date x))
  pub solstice-year :
      (y : ℕ) (r : CSolstice) →
      CSolsticeYear y r → (r.reason ≡ 0) ↔ ((x : SolsticeYear) × SolsticeYearFacts y (Ok x) × (r ≡ given_solstice x))
  pub year-facts :
      (y : ℕ) (r : CYear) → CYearFacts y r → (r.reason ≡ 0) ↔ ((x : YearFacts) × YearOwnFacts y (Ok x) × (r ≡ given_year x))
  pub month-facts :
      (n : ℕ) (r : CMonth) → CMonthFacts n r → (r.reason ≡ 0) ↔ ((x : MonthFacts) × MonthByCount n (Ok x) × (r ≡ given_month x))
  pub clerk-start :
      (b : ℕ) (r : CClerk) → CClerkStart b r → (r.reason ≡ 0) ↔ ((c : Clerk) × StartsAt b (Ok c) × (r ≡ given_clerk c))
  pub clerk-step :
      (c : Clerk) (r : CClerk) → CClerkStep c r → (r.reason ≡ 0) ↔ ((d : Clerk) × StepsOn c (Ok d) × (r ≡ given_clerk d))
  pub clerk-walk :
      (b k : ℕ) (r : CClerk) → CClerkWalk b k r → (r.reason ≡ 0) ↔ ((c : Clerk) × WalksOn b k (Ok c) × (r ≡ given_clerk c))
  pub clerk-show : (c : Clerk) (r : CMonth) → CClerkShow c r → r.reason ≡ 0
  pub quarter :
      (n q : ℕ) (r : CQuarter) →
      CQuarterOf n q r → (r.reason ≡ 0) ↔ ((x : Quarter) × QuarterOfMonth n q (Ok x) × (r ≡ given_quarter x))
  pub term : (y k : ℕ) (r : CTerm) → CTermOf y k r → (r.reason ≡ 0) ↔ ((x : Term) × TermOfYear y k (Ok x) × (r ≡ given_term x))
  pub conjunction :
      (p k : ℕ) (r : CConjunction) →
      CKthConjunction p k r →
      (r.reason ≡ 0) ↔ ((x : Conjunction) × KthConjunction p k (Ok x) × (r ≡ given_conjunction x))
  pub next :
      (p d : ℕ) (r : CNext) →
      CNextConjunction p d r → (r.reason ≡ 0) ↔ ((x : Next) × NextConjunction p d (Ok x) × (r ≡ given_next x))
  pub pair : (p : ℕ) (r : CPair) → CReducedPair p r → (r.reason ≡ 0) ↔ ((x : Pair) × ReducedPair p (Ok x) × (r ≡ given_pair x))
  pub search :
      (r : CReading) (first last : ℕ) (old : List ℕ) (a : CFound) (new : List ℕ) →
      CSearch r first last old a new →
      (a.reason ≡ 0) ↔ ((n : ℕ) × Searched (reading_of r) first last old (Ok n) new × (a ≡ flat_found (is n)))
  pub emend :
      (r : CReading) (first last : ℕ) (old : List ℕ) (a : CEmended) (new : List ℕ) →
      CEmendsReading r first last old a new →
      (a.reason ≡ 0) ↔ ((o : Emended) × EmendsReading (reading_of r) first last old (saying o) new × (a ≡ flat_emended (is o)))
  pub fill-dates :
      (days : List ℕ) (old : List CDate) (r : CFilled) (new : List CDate) →
      CFillDates days old r new → (r.reason ≡ 0) ↔ GoodDrawer days old r new
  pub read-sheet :
      (s y m d : List ℕ) (r : CSheetCounts) (y' m' d' : List ℕ) →
      CReadSheet s y m d r y' m' d' →
      (r.reason ≡ 0) ↔ ((c : Counted) × ReadSheet s y m d (Ok c) y' m' d' × (r ≡ given_counts c))
  pub write-sheet :
      (y m d o : List ℕ) (r : CLength) (o' : List ℕ) →
      CWriteSheet y m d o r o' →
      (r.reason ≡ 0) ↔ ((n : ℕ) × WriteSheet y m d o (Ok n) o' × (r ≡ given_length n))
  pub print-year : ZeroPrint CPrintYear PrintYear
  pub print-month-line : ZeroPrint CPrintMonthLine PrintMonthLine
  pub print-month : ZeroPrint CPrintMonth PrintMonth
  pub print-day : ZeroPrint CPrintDay PrintDay
  pub judge-text :
      (s o : List ℕ) (r : CLength) (o' : List ℕ) →
      CJudgeText s o r o' → (r.reason ≡ 0) ↔ ((n : ℕ) × JudgeText s o (Ok n) o' × (r ≡ given_length n))

-- W3: what a walk leads to shows what the call for a month by its count gives; a step of it is the walk of one step more
pub record CClerkExactly : Type 0 where
  pub shows : (b k : ℕ) (r : CClerk) (m : CMonth) → CClerkWalk b k r → r.reason ≡ 0 → CClerkShow r.clerk m → CMonthFacts (count_of b k) m
  pub counts : (b k : ℕ) (r : CClerk) → CClerkWalk b k r → r.reason ≡ 0 → r.clerk.month_count ≡ count_of b k
  pub goes_on : (b k : ℕ) (r s : CClerk) → CClerkWalk b k r → r.reason ≡ 0 → CClerkStep r.clerk s → CClerkWalk b (k + 1) s
  pub from-the-start : (b : ℕ) (r : CClerk) → CClerkStart b r ↔ CClerkWalk b 0 r

-- a slip with six values, all read or none
abbrev pub slip : Bool → ℕ → ℕ → ℕ → ℕ → ℕ → ℕ → CReading
slip known year-name number mark day-of-month day-name first-name =
    record {
      year_name = year-name;
      month_number = number;
      leap_mark = mark;
      day_of_month = day-of-month;
      day_name = day-name;
      first_name = first-name;
      year_name_known = known;
      month_number_known = known;
      leap_mark_known = known;
      day_of_month_known = known;
      day_name_known = known;
      first_name_known = known;
    }

abbrev pub nothing_read : CReading
nothing_read = slip false 0 0 0 0 0 0

-- the slip of day 0 with its year's name misread, 17 for 16
abbrev pub misread : CReading
misread = slip true 17 11 1 1 1 1

-- of a call that prints: number x, whose text has n bytes, refused though there is room, and a buffer that begins with a nought left
-- as it was
abbrev pub Refusing : (ℕ → List ℕ → CLength → List ℕ → Type 0) → ℕ → ℕ → Type 0
Refusing P x n = (o : List ℕ) (r : CLength) (o' : List ℕ) → n ≤ length o → P x o r o' → r.reason ≢ 0 → ⊥

abbrev pub Unwritten : (ℕ → List ℕ → CLength → List ℕ → Type 0) → ℕ → ℕ → Type 0
Unwritten P x n = (o : List ℕ) (r : CLength) → n ≤ length o → get_or o 0 0 ≡ 0 → P x o r o → ⊥

-- wrong versions, each shut out at a named input: one that refuses all; one date for every day, and a move that never moves; one that
-- fills nothing, copies a list's first item over the rest or leaves the rest out; an invented total, where the search is answered and
-- where it is refused with 12; of an emendation: one that refuses all, a day that fits or an emendation; that touches the list where a day fits,
-- fills nothing where none does, or exchanges what was read and what it should be; that says of a day that it fits, or of none; an invented
-- total, where it is answered, refused with 6 and refused with 12; and of a drawer: one that refuses all, or the thirtieth of the second of two big months; that fills no record,
-- copies the first over the rest, skips every second or turns the list round; the last bad place; a record beyond the last changed, or one
-- filled before the refusal; an invented count; 6 before 12, 12 before 10; 4,096 days refused, 4,097 taken; and of the clerk: one that refuses
-- all, never steps, shows one month for all, counts bu from 0, goes past the last month, stops before it, or takes bu 0 or 541
pub record WrongExported : Type 0 where
  pub refusing-days : (r : CDate) → CDateOfDay 0 r → r.reason ≢ 0 → ⊥
  pub refusing-dates : (r : CDay) → CDayOfDate 0 11 false 1 r → r.reason ≢ 0 → ⊥
  pub refusing-moves : (r : CDate) → CMoveDate 0 11 false 1 (pos 0) r → r.reason ≢ 0 → ⊥
  pub refusing-solstices : (r : CSolstice) → CSolsticeYear 1 r → r.reason ≢ 0 → ⊥
  pub refusing-years : (r : CYear) → CYearFacts 11 r → r.reason ≢ 0 → ⊥
  pub refusing-months : (r : CMonth) → CMonthFacts 134 r → r.reason ≢ 0 → ⊥
  pub refusing-quarters : (r : CQuarter) → CQuarterOf 0 0 r → r.reason ≢ 0 → ⊥
  pub refusing-terms : (r : CTerm) → CTermOf 1 0 r → r.reason ≢ 0 → ⊥
  pub refusing-conjunctions : (r : CConjunction) → CKthConjunction 1 0 r → r.reason ≢ 0 → ⊥
  pub refusing-nexts : (r : CNext) → CNextConjunction 1 0 r → r.reason ≢ 0 → ⊥
  pub refusing-pairs : (r : CPair) → CReducedPair 1 r → r.reason ≢ 0 → ⊥
  pub refusing-searches : (a : CFound) (new : List ℕ) → CSearch nothing_read 0 0 (5 ∷ []) a new → a.reason ≢ 0 → ⊥
  pub refusing-sheets : (r : CSheetCounts) (y m d : List ℕ) → CReadSheet empty_sheet [] [] [] r y m d → r.reason ≢ 0 → ⊥
  pub refusing-lists : (r : CLength) (o : List ℕ) → CWriteSheet [] [] [] (replicate 6 0) r o → r.reason ≢ 0 → ⊥
  pub refusing-year-blocks : Refusing CPrintYear 11 236
  pub refusing-month-lines : Refusing CPrintMonthLine 134 16
  pub refusing-month-items : Refusing CPrintMonth 134 22
  pub refusing-day-items : Refusing CPrintDay 0 17
  pub one-date : (r : CDate) → CDateOfDay 28 r → CDateOfDay 29 r → ⊥
  pub never-moving : (r : CDate) → CMoveDate 0 11 false 1 (pos 0) r → CMoveDate 0 11 false 1 (pos 27759) r → ⊥
  pub filling-none : (a : CFound) → CSearch nothing_read 0 0 (5 ∷ []) a (5 ∷ []) → ⊥
  pub copying-first : (a : CFound) → CSearch nothing_read 0 1 (5 ∷ 5 ∷ []) a (0 ∷ 0 ∷ []) → ⊥
  pub first_alone : (a : CFound) → CSearch nothing_read 0 1 (5 ∷ 5 ∷ []) a (0 ∷ 5 ∷ []) → ⊥
  pub inventing : (a : CFound) (new : List ℕ) → CSearch nothing_read 0 0 (5 ∷ []) a new → a.total ≢ 1 → ⊥
  pub inventing-at-12 : (a : CFound) (new : List ℕ) → CSearch nothing_read 0 1 (5 ∷ []) a new → a.total ≢ 2 → ⊥
  pub refusing-fits : (a : CEmended) (new : List ℕ) → CEmendsReading nothing_read 0 0 [] a new → a.reason ≢ 0 → ⊥
  pub refusing-emendations : (a : CEmended) (new : List ℕ) → CEmendsReading misread 0 0 (5 ∷ 5 ∷ 5 ∷ 5 ∷ []) a new → a.reason ≢ 0 → ⊥
  pub touching-where-fits : (a : CEmended) → CEmendsReading nothing_read 0 0 (5 ∷ []) a (0 ∷ []) → ⊥
  pub emending-none : (a : CEmended) → CEmendsReading misread 0 0 (5 ∷ 5 ∷ 5 ∷ 5 ∷ []) a (5 ∷ 5 ∷ 5 ∷ 5 ∷ []) → ⊥
  pub read-for-right : (a : CEmended) → CEmendsReading misread 0 0 (5 ∷ 5 ∷ 5 ∷ 5 ∷ []) a (0 ∷ 1 ∷ 16 ∷ 17 ∷ []) → ⊥
  pub fitting-none : (a : CEmended) (new : List ℕ) → CEmendsReading nothing_read 0 0 [] a new → a.fits ≡ false → ⊥
  pub fitting-all : (a : CEmended) (new : List ℕ) → CEmendsReading misread 0 0 (5 ∷ 5 ∷ 5 ∷ 5 ∷ []) a new → a.fits ≡ true → ⊥
  pub inventing-emendations : (a : CEmended) (new : List ℕ) → CEmendsReading misread 0 0 (5 ∷ 5 ∷ 5 ∷ 5 ∷ []) a new → a.total ≢ 1 → ⊥
  pub inventing-emendations-at-6 : (a : CEmended) (new : List ℕ) → CEmendsReading misread 0 14989860 [] a new → a.total ≢ 0 → ⊥
  pub inventing-emendations-at-12 : (a : CEmended) (new : List ℕ) → CEmendsReading misread 0 0 (5 ∷ 5 ∷ 5 ∷ []) a new → a.total ≢ 1 → ⊥
  pub refusing-drawers : (r : CFilled) (x : CDate) (new : List CDate) → CFillDates (0 ∷ []) (x ∷ []) r new → r.reason ≢ 0 → ⊥
  pub filling-no-record : (r : CFilled) → CFillDates (27758 ∷ []) (given_date first_of_bu2 ∷ []) r (given_date first_of_bu2 ∷ []) → ⊥
  pub first-record-over :
      (r : CFilled) (x y : CDate) →
      CFillDates (27758 ∷ 27759 ∷ []) (x ∷ y ∷ []) r (given_date last_of_bu1 ∷ given_date last_of_bu1 ∷ []) → ⊥
  pub skipping-second :
      (r : CFilled) →
      CFillDates (27758 ∷ 27758 ∷ []) (given_date first_of_bu2 ∷ given_date first_of_bu2 ∷ []) r (given_date last_of_bu1 ∷ given_date first_of_bu2 ∷ []) → ⊥
  pub last-bad-place :
      (r : CFilled) (x : CDate) (new : List CDate) → CFillDates (14989860 ∷ 14989860 ∷ []) (x ∷ x ∷ []) r new → r.place ≢ 0 → ⊥
  pub beyond-the-last :
      (r : CFilled) →
      CFillDates (27758 ∷ []) (given_date first_of_bu2 ∷ given_date first_of_bu2 ∷ []) r (given_date last_of_bu1 ∷ given_date last_of_bu1 ∷ []) → ⊥
  pub turned_round :
      (r : CFilled) (x y : CDate) →
      CFillDates (27758 ∷ 27759 ∷ []) (x ∷ y ∷ []) r (given_date first_of_bu2 ∷ given_date last_of_bu1 ∷ []) → ⊥
  pub filled-before-refusal :
      (r : CFilled) →
      CFillDates (27758 ∷ 14989860 ∷ []) (given_date first_of_bu2 ∷ given_date first_of_bu2 ∷ []) r (given_date last_of_bu1 ∷ given_date first_of_bu2 ∷ [])
      → ⊥
  pub six-before-twelve : (r : CFilled) (new : List CDate) → CFillDates (14989860 ∷ []) [] r new → r.reason ≢ 12 → ⊥
  pub twelve-before-ten : (r : CFilled) (new : List CDate) → CFillDates (replicate 4097 0) [] r new → r.reason ≢ 10 → ⊥
  pub full-refused :
      (r : CFilled) (x : CDate) (new : List CDate) → CFillDates (replicate 4096 0) (replicate 4096 x) r new → r.reason ≢ 0 → ⊥
  pub overfull-taken :
      (r : CFilled) (x : CDate) (new : List CDate) → CFillDates (replicate 4097 0) (replicate 4097 x) r new → r.reason ≡ 0 → ⊥
  pub second-big-refused : (r : CFilled) (x : CDate) (new : List CDate) → CFillDates (3838 ∷ []) (x ∷ []) r new → r.reason ≢ 0 → ⊥
  pub inventing-a-count : (r : CFilled) (x : CDate) (new : List CDate) → CFillDates (0 ∷ []) (x ∷ []) r new → r.count ≢ 1 → ⊥
  pub refusing-starts : (r : CClerk) → CClerkStart 1 r → r.reason ≢ 0 → ⊥
  pub refusing-steps : (r s : CClerk) → CClerkStart 1 r → CClerkStep r.clerk s → s.reason ≢ 0 → ⊥
  pub refusing-walks : (r : CClerk) → CClerkWalk 1 129 r → r.reason ≢ 0 → ⊥
  pub refusing-shows : (c : Clerk) (r : CMonth) → CClerkShow c r → r.reason ≢ 0 → ⊥
  pub never-stepping : (c : Clerk) → CClerkStep c (given_clerk c) → ⊥
  pub never-walking : (r : CClerk) → CClerkStart 1 r → CClerkWalk 1 1 r → ⊥
  pub one-month-shown : (r s : CClerk) (m : CMonth) → CClerkStart 1 r → CClerkWalk 1 1 s → CClerkShow r.clerk m → CClerkShow s.clerk m → ⊥
  pub bu-from-0 : (r : CClerk) → CClerkStart 2 r → r.clerk.month_count ≢ 940 → ⊥
  pub bu-0-taken : (r : CClerk) → CClerkStart 0 r → r.reason ≢ 21 → ⊥
  pub bu-541-taken : (r : CClerk) → CClerkStart 541 r → r.reason ≢ 21 → ⊥
  pub past-the-last : (r : CClerk) → CClerkWalk 540 940 r → r.reason ≢ 7 → ⊥
  pub stopping-before : (r : CClerk) → CClerkWalk 540 939 r → r.reason ≢ 0 → ⊥
  pub reading-none : (r : CSheetCounts) (m d : List ℕ) → CReadSheet sheet_of11 (0 ∷ []) [] [] r (0 ∷ []) m d → ⊥
  pub reading-first-over : (r : CSheetCounts) (m d : List ℕ) → CReadSheet sheet_of_twos (0 ∷ 0 ∷ []) (0 ∷ 0 ∷ []) (0 ∷ 0 ∷ []) r (11 ∷ 11 ∷ []) m d → ⊥
  pub reading-first-alone :
      (r : CSheetCounts) (m d : List ℕ) → CReadSheet sheet_of_twos (0 ∷ 0 ∷ []) (0 ∷ 0 ∷ []) (0 ∷ 0 ∷ []) r (11 ∷ 0 ∷ []) m d → ⊥
  pub writing-first-over :
      (r : CLength) → CWriteSheet (11 ∷ 12 ∷ []) [] [] (replicate 10 0) r (2 ∷ 0 ∷ 11 ∷ 0 ∷ 11 ∷ 0 ∷ 0 ∷ 0 ∷ 0 ∷ 0 ∷ []) → ⊥
  pub writing-first-alone :
      (r : CLength) → CWriteSheet (11 ∷ 12 ∷ []) [] [] (replicate 10 0) r (2 ∷ 0 ∷ 11 ∷ 0 ∷ 0 ∷ 0 ∷ 0 ∷ 0 ∷ 0 ∷ 0 ∷ []) → ⊥
  pub writing-none :
      (r : CLength) →
      CWriteSheet (11 ∷ []) [] [] (replicate 8 0) r (replicate 8 0) → ⊥
  pub unwritten-year-blocks : Unwritten CPrintYear 11 236
  pub unwritten-month-lines : Unwritten CPrintMonthLine 134 16
  pub unwritten-month-items : Unwritten CPrintMonth 134 22
  pub unwritten-day-items : Unwritten CPrintDay 0 17

-- of a concordance: one that refuses all, or the second of two big months; that writes nothing; that finds all right; that judges the first line
-- alone; that lets a leading zero, a carriage return or a count out of range pass
pub record WrongExportedVerdicts : Type 0 where
  pub refusing-texts : (r : CLength) (o : List ℕ) → CJudgeText (word "129 5 - 30 30 E") nines r o → r.reason ≢ 0 → ⊥
  pub second-big-struck-out : (r : CLength) (v : ℕ) → CJudgeText (word "129 5 - 30 30 E") nines r (v ∷ 9 ∷ 9 ∷ []) → v ≢ 0 → ⊥
  pub unwritten-verdicts : (r : CLength) → CJudgeText (word "129 5 - 30 30 E") nines r nines → ⊥
  pub all_right : (r : CLength) → CJudgeText (word "129 5 - 30 29 E") nines r (0 ∷ 9 ∷ 9 ∷ []) → ⊥
  pub first-line-alone : (r : CLength) (o : List ℕ) → CJudgeText (word "129 5 - 30 30 E" ++ (10 ∷ word "1")) nines r o → r.length ≢ 2 → ⊥
  pub leading-zero : (r : CLength) (v : ℕ) → CJudgeText (word "0129 5 - 30 30 E") nines r (v ∷ 9 ∷ 9 ∷ []) → v ≢ 7 → ⊥
  pub carriage-return : (r : CLength) (v : ℕ) → CJudgeText (word "129 5 - 30 30 E" ++ (13 ∷ [])) nines r (v ∷ 9 ∷ 9 ∷ []) → v ≢ 7 → ⊥
  pub out_of_range : (r : CLength) (v : ℕ) → CJudgeText (word "507600 5 - 30 30 E") nines r (v ∷ 9 ∷ 9 ∷ []) → v ≢ 1 → ⊥

-- a number taken by its low bits: n + w answered as n
abbrev pub LowBits : {R : Type 0} → ℕ → (ℕ → R → Type 0) → ℕ → Type 0
LowBits {R} w P n = (r : R) → P (n + w) r → P n r → ⊥

abbrev pub LowBitsPrinted : (ℕ → List ℕ → CLength → List ℕ → Type 0) → ℕ → ℕ → Type 0
LowBitsPrinted P x n =
    (o : List ℕ) (r : CLength) (o₁ o₂ : List ℕ) → n ≤ length o → P (x + 4294967296) o r o₁ → P x o r o₂ → ⊥

abbrev pub LowBitsFound : (ℕ → List ℕ → CFound → List ℕ → Type 0) → ℕ → Type 0
LowBitsFound P x = (a : CFound) (new other : List ℕ) → P (x + 4294967296) (5 ∷ []) a new → P x (5 ∷ []) a other → ⊥

abbrev pub LowBitsEmended : (ℕ → List ℕ → CEmended → List ℕ → Type 0) → ℕ → Type 0
LowBitsEmended P x = (a : CEmended) (new other : List ℕ) → P (x + 4294967296) [] a new → P x [] a other → ⊥

-- each number of each call taken by its low 32 bits, a planet by its low 8; the six values of a slip are those of day 0
pub record WrongLowBits : Type 0 where
  pub days : LowBits 4294967296 CDateOfDay 0
  pub years-of-dates : LowBits 4294967296 (λ y. CDayOfDate y 11 false 1) 1
  pub numbers-of-dates : LowBits 4294967296 (λ k. CDayOfDate 1 k false 1) 11
  pub days-of-dates : LowBits 4294967296 (λ m. CDayOfDate 1 11 false m) 1
  pub years-of-moves : LowBits 4294967296 (λ y. CMoveDate y 11 false 1 (pos 0)) 1
  pub numbers-of-moves : LowBits 4294967296 (λ k. CMoveDate 1 k false 1 (pos 0)) 11
  pub days-of-moves : LowBits 4294967296 (λ m. CMoveDate 1 11 false m (pos 0)) 1
  pub moves : LowBits 4294967296 (λ n. CMoveDate 0 11 false 1 (pos n)) 0
  pub solstices : LowBits 4294967296 CSolsticeYear 1
  pub years : LowBits 4294967296 CYearFacts 1
  pub months : LowBits 4294967296 CMonthFacts 0
  pub bu-of-starts : LowBits 4294967296 CClerkStart 1
  pub bu-of-walks : LowBits 4294967296 (λ b. CClerkWalk b 0) 1
  pub steps-of-walks : LowBits 4294967296 (CClerkWalk 1) 0
  pub months-of-quarters : LowBits 4294967296 (λ n. CQuarterOf n 0) 0
  pub quarters : LowBits 4294967296 (CQuarterOf 0) 0
  pub years-of-terms : LowBits 4294967296 (λ y. CTermOf y 0) 1
  pub terms : LowBits 4294967296 (CTermOf 1) 0
  pub planets : LowBits 256 (λ p. CKthConjunction p 1) 1
  pub counts : LowBits 4294967296 (CKthConjunction 1) 1
  pub planets-of-nexts : LowBits 256 (λ p. CNextConjunction p 0) 1
  pub days-of-nexts : LowBits 4294967296 (CNextConjunction 1) 0
  pub planets-of-pairs : LowBits 256 CReducedPair 1
  pub first-days : LowBitsFound (λ d. CSearch nothing_read d 0) 0
  pub last-days : LowBitsFound (CSearch nothing_read 0) 0
  pub year-names : LowBitsFound (λ v. CSearch (slip true v 11 1 1 1 1) 0 0) 16
  pub month-numbers : LowBitsFound (λ v. CSearch (slip true 16 v 1 1 1 1) 0 0) 11
  pub leap-marks : LowBitsFound (λ v. CSearch (slip true 16 11 v 1 1 1) 0 0) 1
  pub days-of-month : LowBitsFound (λ v. CSearch (slip true 16 11 1 v 1 1) 0 0) 1
  pub day-names : LowBitsFound (λ v. CSearch (slip true 16 11 1 1 v 1) 0 0) 1
  pub first-names : LowBitsFound (λ v. CSearch (slip true 16 11 1 1 1 v) 0 0) 1
  pub emended-first-days : LowBitsEmended (λ d. CEmendsReading nothing_read d 0) 0
  pub emended-last-days : LowBitsEmended (CEmendsReading nothing_read 0) 0
  pub emended-year-names : LowBitsEmended (λ v. CEmendsReading (slip true v 11 1 1 1 1) 0 0) 16
  pub emended-month-numbers : LowBitsEmended (λ v. CEmendsReading (slip true 16 v 1 1 1 1) 0 0) 11
  pub emended-leap-marks : LowBitsEmended (λ v. CEmendsReading (slip true 16 11 v 1 1 1) 0 0) 1
  pub emended-days-of-month : LowBitsEmended (λ v. CEmendsReading (slip true 16 11 1 v 1 1) 0 0) 1
  pub emended-day-names : LowBitsEmended (λ v. CEmendsReading (slip true 16 11 1 1 v 1) 0 0) 1
  pub emended-first-names : LowBitsEmended (λ v. CEmendsReading (slip true 16 11 1 1 1 v) 0 0) 1
  pub year-blocks : LowBitsPrinted CPrintYear 11 236
  pub month-lines : LowBitsPrinted CPrintMonthLine 134 16
  pub month-items : LowBitsPrinted CPrintMonth 134 22
  pub day-items : LowBitsPrinted CPrintDay 0 17
