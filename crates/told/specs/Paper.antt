-- The desk program's answers, read literally, as statements. proofs/Paper.antt proves each under the same name in small letters.
-- Assumes nothing.
use Rattle.std.specs.Prelude.{ℕ, ◌+◌, ◌-◌, ◌*◌, ◌≤◌, ◌≡◌, ◌↔◌, ◌⊎◌, Bool, List, [], ◌∷◌, ◌++◌, ℤ, pos, ◌+ℤ◌, length}
use Rattle.rule.specs.Counts.{SolsticeYearInRange, CivilYearInRange, MonthInRange, DayInRange, day_name, year_name, ji, bu, year_in_bu, head_name}
use Rattle.rule.specs.Rule.{
  month_start,
  small_remainder,
  month_length,
  month_of_day,
  quarter_day,
  quarter_parts,
  term_day,
  term_parts,
  year_term,
  solstice_first_month,
  leap_remainder,
  months_in_solstice_year,
  solstice_year_of_month,
  civil_first_month,
  months_in_civil_year,
  InCivilYear,
  civil_year_of_month,
  leap,
  month_number,
  eclipse,
}
use Rattle.rule.specs.Paper.{NoMidTerm, IsMonth}
use Rattle.rule.specs.declared.Month.TheVariants.{Leap}
use Rattle.rule.specs.Reasons.{Answer, refused, reason_number}
use Rattle.rule.specs.declared.Reason.{Reason}
use Rattle.dates.specs.Dates.{date_at, day_of_date}
use Rattle.dates.specs.Paper.{IsDayOf}
use Rattle.moves.specs.Moves.{moved}
use Rattle.facts.specs.Facts.{solstice_year_at, year_facts_at, month_facts_at, quarter_at, term_at}
use Rattle.planets.specs.Planets.{Planet, numbers_of, divisor, conjunction_day, conjunction_parts, conjunction_at, next_at, pair_at}
use Rattle.planets.specs.Paper.{LeastFrom}
use Rattle.reading.specs.declared.Reading.{Reading}
use Rattle.reading.specs.Readings.{window_days, fitting}
use Rattle.reading.specs.Search.{search_at}
use Rattle.reading.specs.Paper.{FieldsInRange, IsWindow}
use Rattle.emending.specs.Faults.{emendations, emendable}
use Rattle.emending.specs.Emended.{emend_at}
use Rattle.clerk.specs.Clerk.{walked}
use Rattle.clerk.specs.Paper.{BuInRange, count_of}
use Rattle.fields.specs.Fields.{word, decimal, mark, each, letter_l, letter_e}
use Rattle.penned.specs.Lines.{words_of}
use Rattle.told.specs.Answers.{
  places,
  words_numbered,
  refused_text,
  place_text,
  year_text,
  month_text,
  quarter_text,
  term_text,
  conjunction_text,
  next_text,
  pair_text,
  day_text,
  day_line,
  date_text,
  move_text,
  search_text,
  emendation_lines,
  emend_text,
  clerk_text,
}

-- the words of a number are those of the reason that has it
abbrev pub WordsOfANumber : Type 0
WordsOfANumber = (r : Reason) → words_numbered (reason_number r) ≡ words_of r

-- "`REFUSED number words`"
abbrev pub RefusalLiterally : Type 0
RefusalLiterally =
    (r : Reason) →
    refused_text (reason_number r) ≡ (word "REFUSED " ++ (decimal (reason_number r) ++ (32 ∷ words_of r))) ++ (10 ∷ [])

-- "`PLACE ji bu year-in-bu head-name first-month leap-remainder months`"
abbrev pub PlaceLineLiterally : Type 0
PlaceLineLiterally =
    (y : ℕ) → SolsticeYearInRange y →
    place_text y
    ≡ (word "PLACE " ++ (decimal (ji y)
    ++ (32 ∷ (decimal (bu y)
    ++ (32 ∷ (decimal (year_in_bu y)
    ++ (32 ∷ (decimal (head_name (bu y))
    ++ (32 ∷ (decimal (solstice_first_month y)
    ++ (32 ∷ (decimal (leap_remainder y)
    ++ (32 ∷ decimal (months_in_solstice_year y))))))))))))))
    ++ (10 ∷ [])

-- "`YEAR year NAME name MONTHS months FIRST first-month LEAP number month-count` (the last two `-` where there is none)": what
-- stands after `LEAP` is `last`
abbrev pub year_with : ℕ → List ℕ → List ℕ
year_with y last =
    (word "YEAR " ++ (decimal y
    ++ (word " NAME " ++ (decimal (year_name y)
    ++ (word " MONTHS " ++ (decimal (months_in_civil_year y)
    ++ (word " FIRST " ++ (decimal (civil_first_month y)
    ++ (word " LEAP " ++ last)))))))))
    ++ (10 ∷ [])

pub record YearLineLiterally : Type 0 where
  pub with-leap : (y k n : ℕ) → CivilYearInRange y → InCivilYear y n → IsMonth n (Leap k) → year_text y ≡ year_with y (decimal k ++ (32 ∷ decimal n))
  pub without : (y : ℕ) → CivilYearInRange y → ((n : ℕ) → InCivilYear y n → NoMidTerm n → ⊥) → year_text y ≡ year_with y (word "- -")

-- "`count number mark first-name length eclipse first-day small-remainder` (eclipse `E` or `-`)" of month n, behind a word
abbrev pub month_with : List ℕ → ℕ → List ℕ
month_with w n =
    (w ++ (decimal n
    ++ (32 ∷ (decimal (month_number n)
    ++ (32 ∷ mark (leap n) letter_l ∷ 32 ∷ (decimal (day_name (month_start n))
    ++ (32 ∷ (decimal (month_length n)
    ++ (32 ∷ mark (eclipse n) letter_e ∷ 32 ∷ (decimal (month_start n)
    ++ (32 ∷ decimal (small_remainder n))))))))))))
    ++ (10 ∷ [])

abbrev pub MonthLineLiterally : Type 0
MonthLineLiterally = (n : ℕ) → MonthInRange n → month_text n ≡ month_with (word "MONTH ") n

-- "`CLERK bu steps` walks so many steps and is answered `CLERK ..` (the fields of `MONTH`'s answer)": what the rule gives for the month
-- count to which they lead
abbrev pub ClerkLineLiterally : Type 0
ClerkLineLiterally = (b k : ℕ) → BuInRange b → MonthInRange (count_of b k) → clerk_text b k ≡ month_with (word "CLERK ") (count_of b k)

-- "`QUARTER day parts`"
abbrev pub QuarterLineLiterally : Type 0
QuarterLineLiterally =
    (n q : ℕ) → MonthInRange n → q ≤ 3 →
    quarter_text n q ≡ (word "QUARTER " ++ (decimal (quarter_day n q) ++ (32 ∷ decimal (quarter_parts n q)))) ++ (10 ∷ [])

-- "`TERM day parts`"
abbrev pub TermLineLiterally : Type 0
TermLineLiterally =
    (y k : ℕ) → SolsticeYearInRange y → k ≤ 23 →
    term_text y k ≡ (word "TERM " ++ (decimal (term_day (year_term y k)) ++ (32 ∷ decimal (term_parts (year_term y k))))) ++ (10 ∷ [])

-- "`CONJUNCTION day parts divisor phase`": what stands for the phase is `last`
abbrev pub conjunction_with : ℕ → ℕ → List ℕ → List ℕ
conjunction_with p k last =
    (decimal (conjunction_day (numbers_of p) k)
    ++ (32 ∷ (decimal (conjunction_parts (numbers_of p) k)
    ++ (32 ∷ (decimal (divisor (numbers_of p))
    ++ (32 ∷ last))))))
    ++ (10 ∷ [])

-- the letter of a planet's k-th conjunction: "For Venus and Mercury an odd count is a morning conjunction, an even one an evening one"
pub data Letter : ℕ → ℕ → List ℕ → Type 0 where
  morning : {p : ℕ} → (j : ℕ) → (p ≡ 4) ⊎ (p ≡ 5) → Letter p (2 * j + 1) (word "M")
  evening : {p : ℕ} → (j : ℕ) → (p ≡ 4) ⊎ (p ≡ 5) → Letter p (2 * j) (word "E")
  neither : {p k : ℕ} → 1 ≤ p → p ≤ 3 → Letter p k (word "-")

abbrev pub ConjunctionLineLiterally : Type 0
ConjunctionLineLiterally =
    (p k : ℕ) (last : List ℕ) → Letter p k last → DayInRange (conjunction_day (numbers_of p) k) →
    conjunction_text p k ≡ word "CONJUNCTION " ++ conjunction_with p k last

-- "`NEXT k day parts divisor phase`", of the first conjunction on or after day d
abbrev pub NextLineLiterally : Type 0
NextLineLiterally =
    (p d k : ℕ) (last : List ℕ) → Letter p k last → DayInRange d → LeastFrom (numbers_of p) d k → DayInRange (conjunction_day (numbers_of p) k) →
    next_text p d ≡ word "NEXT " ++ (decimal k ++ (32 ∷ conjunction_with p k last))

-- "`PAIR years conjunctions`", the numbers that 004 gives of a planet (planets, Reduction: what its two long counts are reduced to)
abbrev pub PairLineLiterally : Type 0
PairLineLiterally =
    (p : ℕ) → Planet p →
    pair_text p ≡ (word "PAIR " ++ (decimal (numbers_of p).years ++ (32 ∷ decimal (numbers_of p).conjunctions))) ++ (10 ∷ [])

-- "`DAY day year number mark day-of-month day-name month-length year-name ji bu year-in-bu eclipse` (`E` or `-`)": the place is that of the
-- month's solstice year
abbrev pub DayLineLiterally : Type 0
DayLineLiterally =
    (d : ℕ) →
    day_line d
    ≡ (word "DAY " ++ (decimal d
    ++ (32 ∷ (decimal (civil_year_of_month (month_of_day d))
    ++ (32 ∷ (decimal (month_number (month_of_day d))
    ++ (32 ∷ mark (leap (month_of_day d)) letter_l ∷ 32 ∷ (decimal (d - month_start (month_of_day d) + 1)
    ++ (32 ∷ (decimal (day_name d)
    ++ (32 ∷ (decimal (month_length (month_of_day d))
    ++ (32 ∷ (decimal (year_name (civil_year_of_month (month_of_day d)))
    ++ (32 ∷ (decimal (ji (solstice_year_of_month (month_of_day d)))
    ++ (32 ∷ (decimal (bu (solstice_year_of_month (month_of_day d)))
    ++ (32 ∷ (decimal (year_in_bu (solstice_year_of_month (month_of_day d)))
    ++ (32 ∷ mark (eclipse (month_of_day d)) letter_e ∷ [])))))))))))))))))))))
    ++ (10 ∷ [])

abbrev pub LineOfADay : Type 0
LineOfADay = (d : ℕ) → DayInRange d → day_text d ≡ day_line d

-- of a date "the same `DAY` line": that of its day
abbrev pub DateLineLiterally : Type 0
DateLineLiterally = (y k : ℕ) (l : Bool) (m d : ℕ) → IsDayOf y k l m d → date_text y k l m ≡ day_line d

-- of a move "the same `DAY` line": that of the day n later, or reason 8 where there is none in range
pub record MoveLine (y k : ℕ) (l : Bool) (m d : ℕ) (n : ℤ) : Type 0 where
  pub lands : (e : ℕ) → pos d +ℤ n ≡ pos e → DayInRange e → move_text y k l m n ≡ day_line e
  pub eight : (((e : ℕ) × (pos d +ℤ n ≡ pos e) × DayInRange e) → ⊥) → move_text y k l m n ≡ refused_text 8

abbrev pub MoveLineLiterally : Type 0
MoveLineLiterally = (y k : ℕ) (l : Bool) (m d : ℕ) (n : ℤ) → IsDayOf y k l m d → MoveLine y k l m d n

-- "`FOUND total`, then the `DAY` lines"; reading's SearchLists says of these days that they are just those that fit
abbrev pub SearchLinesLiterally : Type 0
SearchLinesLiterally =
    (r : Reading) (first last : ℕ) → DayInRange first → DayInRange last → IsWindow first last → FieldsInRange r →
    search_text r first last
    ≡ (word "FOUND " ++ (decimal (length (fitting r first (window_days first last))) ++ (10 ∷ [])))
    ++ each day_line (fitting r first (window_days first last))

-- "`FITS total`, or `EMENDED total` and then a line each": which it is, the days that fit say; emending's EmendationsListed says of the list
-- that it holds just the days that disagree with exactly one known field
pub record EmendLines (r : Reading) (first last : ℕ) : Type 0 where
  pub some_fit : 1 ≤ length (fitting r first (window_days first last)) →
      emend_text r first last ≡ word "FITS " ++ (decimal (length (fitting r first (window_days first last))) ++ (10 ∷ []))
  pub none-fits : length (fitting r first (window_days first last)) ≡ 0 →
      emend_text r first last
      ≡ (word "EMENDED " ++ (decimal (length (emendable r first (window_days first last))) ++ (10 ∷ [])))
      ++ emendation_lines (emendations r first (window_days first last))

abbrev pub EmendLinesLiterally : Type 0
EmendLinesLiterally =
    (r : Reading) (first last : ℕ) → DayInRange first → DayInRange last → IsWindow first last → FieldsInRange r → EmendLines r first last

-- "`EMENDATION day field read should-be`" of each four numbers, "marks as `-` and `L`": field 3 alone is a mark
pub record EmendationLineLiterally : Type 0 where
  pub none : emendation_lines [] ≡ []
  pub number : (d i k v : ℕ) (xs : List ℕ) → (i ≡ 3 → ⊥) →
      emendation_lines (d ∷ i ∷ k ∷ v ∷ xs)
      ≡ ((word "EMENDATION " ++ (decimal d ++ (32 ∷ (decimal i ++ (32 ∷ (decimal k ++ (32 ∷ decimal v))))))) ++ (10 ∷ [])) ++ emendation_lines xs
  pub to-leap : (d : ℕ) (xs : List ℕ) →
      emendation_lines (d ∷ 3 ∷ 1 ∷ 2 ∷ xs) ≡ ((word "EMENDATION " ++ (decimal d ++ word " 3 - L")) ++ (10 ∷ [])) ++ emendation_lines xs
  pub to-ordinary : (d : ℕ) (xs : List ℕ) →
      emendation_lines (d ∷ 3 ∷ 2 ∷ 1 ∷ xs) ≡ ((word "EMENDATION " ++ (decimal d ++ word " 3 L -")) ++ (10 ∷ [])) ++ emendation_lines xs

-- with four places for each day of the longest window, reason 12 never comes of a search or of an emendation
pub record NeverTwelve : Type 0 where
  pub search : (r : Reading) (first last : ℕ) → search_text r first last ≡ refused_text 12 → ⊥
  pub emend : (r : Reading) (first last : ℕ) → emend_text r first last ≡ refused_text 12 → ⊥

-- a text is the refusal of number k exactly where the query comes back with k: which that is, the statements ReasonsOfFacts,
-- ReasonsOfPlanets, ReasonsOfADay, ReasonsOfADate, MoveOfADateExactly, DatesOwnReasons, ReasonsOfASearch,
-- ReasonsOfAnEmendation and ReasonsOfAWalk say
abbrev pub TellsRefusals : {A : Type 0} → List ℕ → Answer A → Type 0
TellsRefusals text a = (k : ℕ) → (text ≡ refused_text k) ↔ (a ≡ refused k)

pub record RefusalsTold : Type 0 where
  pub place : (y : ℕ) → TellsRefusals (place_text y) (solstice_year_at y)
  pub year : (y : ℕ) → TellsRefusals (year_text y) (year_facts_at y)
  pub month : (n : ℕ) → TellsRefusals (month_text n) (month_facts_at n)
  pub quarter : (n q : ℕ) → TellsRefusals (quarter_text n q) (quarter_at n q)
  pub term : (y k : ℕ) → TellsRefusals (term_text y k) (term_at y k)
  pub conjunction : (p k : ℕ) → TellsRefusals (conjunction_text p k) (conjunction_at p k)
  pub next : (p d : ℕ) → TellsRefusals (next_text p d) (next_at p d)
  pub pair : (p : ℕ) → TellsRefusals (pair_text p) (pair_at p)
  pub day : (d : ℕ) → TellsRefusals (day_text d) (date_at d)
  pub date : (y k : ℕ) (l : Bool) (m : ℕ) → TellsRefusals (date_text y k l m) (day_of_date y k l m)
  pub move : (y k : ℕ) (l : Bool) (m : ℕ) (n : ℤ) → TellsRefusals (move_text y k l m n) (moved y k l m n)
  pub search : (r : Reading) (first last : ℕ) → TellsRefusals (search_text r first last) (search_at r first last places)
  pub emend : (r : Reading) (first last : ℕ) → TellsRefusals (emend_text r first last) (emend_at r first last places)
  pub clerk : (b k : ℕ) → TellsRefusals (clerk_text b k) (walked b k)
