-- The text with which the desk program answers a query, for every number, as lists of bytes. "Where 01's listing has such a line,
-- its fields come first and in its order." Assumes nothing.
use Rattle.emending.specs.declared.Emended.{Emended}
use Rattle.emending.specs.declared.Emended.TheVariants.{Fits, Are}
use Rattle.std.specs.Prelude.{Option, Some, None, ℕ, ◌+◌, Bool, cond, List, [], ◌∷◌, ◌++◌, eqb, ℤ, get_or}
use Rattle.rule.specs.Rule.{number_of, leap_mark}
use Rattle.rule.specs.Reasons.{Answer, is, refused, refused-with, reason_of}
use Rattle.rule.specs.declared.Quarter.{Quarter}
use Rattle.rule.specs.declared.Term.{Term}
use Rattle.dates.specs.declared.Date.{Date}
use Rattle.dates.specs.Dates.{date_of, date_at, day_of_date}
use Rattle.moves.specs.Moves.{moved}
use Rattle.facts.specs.declared.SolsticeYear.{SolsticeYear}
use Rattle.facts.specs.declared.LeapMonth.{LeapMonth}
use Rattle.facts.specs.declared.YearFacts.{YearFacts}
use Rattle.facts.specs.declared.MonthFacts.{MonthFacts}
use Rattle.facts.specs.Facts.{solstice_year_at, year_facts_at, month_facts_at, quarter_at, term_at}
use Rattle.planets.specs.declared.Phase.{Phase}
use Rattle.planets.specs.declared.Phase.TheVariants.{Morning, Evening, Neither}
use Rattle.planets.specs.declared.Conjunction.{Conjunction}
use Rattle.planets.specs.declared.Next.{Next}
use Rattle.planets.specs.declared.Pair.{Pair}
use Rattle.planets.specs.Planets.{conjunction_at, next_at, pair_at}
use Rattle.reading.specs.declared.Reading.{Reading}
use Rattle.reading.specs.Readings.{window_days, fitting}
use Rattle.reading.specs.Search.{search_at}
use Rattle.emending.specs.Faults.{emendations}
use Rattle.emending.specs.Emended.{emend_at}
use Rattle.clerk.specs.declared.Clerk.{Clerk}
use Rattle.clerk.specs.Clerk.{walked, shown}
use Rattle.fields.specs.Fields.{word, decimal, mark, leap_text, lined, each, letter_e}
use Rattle.penned.specs.Lines.{fields_of_month, fields_of_year, fields_of_day, words_of}

-- the words of the reason with number k (Paper, WordsOfANumber)
unfoldable pub words_numbered : ℕ → List ℕ
words_numbered k = words_of (reason_of k)

-- "A refusal is `REFUSED number words`"
unfoldable pub refused_text : ℕ → List ℕ
refused_text k = lined (word "REFUSED" ∷ decimal k ∷ words_numbered k ∷ [])

-- an answer: its text, or the refusal
abbrev pub told : {A : Type 0} → (A → List ℕ) → Answer A → List ℕ
told f (is a) = f a
told f (refused k) = refused_text k
told f (refused-with k n) = refused_text k

-- `PLACE solstice-year`: `PLACE ji bu year-in-bu head-name first-month leap-remainder months`
abbrev pub fields_of_bu : SolsticeYear → List (List ℕ)
fields_of_bu p = word "PLACE" ∷ decimal p.ji ∷ decimal p.bu ∷ decimal p.year_in_bu ∷ decimal p.head_name ∷ []

unfoldable pub place_line : SolsticeYear → List ℕ
place_line p = lined (fields_of_bu p ++ (decimal p.first_month ∷ decimal p.leap_remainder ∷ decimal p.months ∷ []))

unfoldable pub place_text : ℕ → List ℕ
place_text y = told place_line (solstice_year_at y)

-- a civil year's leap month by number and count, "`-` where there is none"
abbrev pub leap_number : Option LeapMonth → List ℕ
leap_number None = word "-"
leap_number (Some l) = decimal l.number

abbrev pub leap_count : Option LeapMonth → List ℕ
leap_count None = word "-"
leap_count (Some l) = decimal l.month

abbrev pub fields_of_leap : Option LeapMonth → List (List ℕ)
fields_of_leap l = leap_number l ∷ leap_count l ∷ []

-- `YEAR year`: `YEAR year NAME name MONTHS months FIRST first-month LEAP number month-count`, all of the civil year
unfoldable pub year_line : ℕ → YearFacts → List ℕ
year_line y f = lined (fields_of_year y f ++ (word "FIRST" ∷ decimal f.first_month ∷ word "LEAP" ∷ fields_of_leap f.leap_month))

unfoldable pub year_text : ℕ → List ℕ
year_text y = told (year_line y) (year_facts_at y)

-- a line of month n behind a word: `count number mark first-name length eclipse first-day small-remainder`
abbrev pub line_of_month : List ℕ → ℕ → MonthFacts → List ℕ
line_of_month w n f = lined (w ∷ (fields_of_month n f ++ (decimal f.first_day ∷ decimal f.small_remainder ∷ [])))

-- `MONTH count`: `MONTH` and such a line
unfoldable pub month_line_of : ℕ → MonthFacts → List ℕ
month_line_of n f = line_of_month (word "MONTH") n f

unfoldable pub month_text : ℕ → List ℕ
month_text n = told (month_line_of n) (month_facts_at n)

-- `QUARTER month q`: `QUARTER day parts`
unfoldable pub quarter_line : Quarter → List ℕ
quarter_line q = lined (word "QUARTER" ∷ decimal q.day ∷ decimal q.parts ∷ [])

unfoldable pub quarter_text : ℕ → ℕ → List ℕ
quarter_text n q = told quarter_line (quarter_at n q)

-- `TERM solstice-year k`: `TERM day parts`
unfoldable pub term_line : Term → List ℕ
term_line t = lined (word "TERM" ∷ decimal t.day ∷ decimal t.parts ∷ [])

unfoldable pub term_text : ℕ → ℕ → List ℕ
term_text y k = told term_line (term_at y k)

-- a conjunction's phase: "`M` morning, `E` evening", and `-` for neither
abbrev pub phase_text : Phase → List ℕ
phase_text Morning = word "M"
phase_text Evening = word "E"
phase_text Neither = word "-"

abbrev pub fields_of_conjunction : Conjunction → List (List ℕ)
fields_of_conjunction c = decimal c.day ∷ decimal c.parts ∷ decimal c.divisor ∷ phase_text c.phase ∷ []

-- `CONJUNCTION planet k`: `CONJUNCTION day parts divisor phase`
unfoldable pub conjunction_line : Conjunction → List ℕ
conjunction_line c = lined (word "CONJUNCTION" ∷ fields_of_conjunction c)

unfoldable pub conjunction_text : ℕ → ℕ → List ℕ
conjunction_text p k = told conjunction_line (conjunction_at p k)

-- `NEXT planet day`: `NEXT k day parts divisor phase`
unfoldable pub next_line : Next → List ℕ
next_line c = lined (word "NEXT" ∷ decimal c.k ∷ fields_of_conjunction c.conjunction)

unfoldable pub next_text : ℕ → ℕ → List ℕ
next_text p d = told next_line (next_at p d)

-- `PAIR planet`: `PAIR years conjunctions`
unfoldable pub pair_line : Pair → List ℕ
pair_line r = lined (word "PAIR" ∷ decimal r.years ∷ decimal r.conjunctions ∷ [])

unfoldable pub pair_text : ℕ → List ℕ
pair_text p = told pair_line (pair_at p)

-- what the card now shows (W8): `ji bu year-in-bu eclipse`, the mark "`E` or `-`"
abbrev pub fields_of_card : Date → List (List ℕ)
fields_of_card r = decimal r.ji ∷ decimal r.bu ∷ decimal r.year_in_bu ∷ (mark r.eclipse letter_e ∷ []) ∷ []

-- `DAY day`: `DAY day year number mark day-of-month day-name month-length year-name ji bu year-in-bu eclipse`
unfoldable pub day_line_of : ℕ → Date → List ℕ
day_line_of d r = lined (fields_of_day d r ++ (decimal r.month_length ∷ decimal r.year_name ∷ fields_of_card r))

unfoldable pub day_text : ℕ → List ℕ
day_text d = told (day_line_of d) (date_at d)

-- the `DAY` line of a day, by its date
unfoldable pub day_line : ℕ → List ℕ
day_line d = day_line_of d (date_of d)

-- `DATE year number mark day-of-month`: "the same `DAY` line"
unfoldable pub date_text : ℕ → ℕ → Bool → ℕ → List ℕ
date_text y k l m = told day_line (day_of_date y k l m)

-- a date as it is asked for by its four things
abbrev pub text_of_date : Date → List ℕ
text_of_date r = date_text r.year (number_of r.month) (leap_mark r.month) r.day_of_month

-- `MOVE year number mark day-of-month n`: "the same `DAY` line", of the date to which the move leads (Paper, MoveLineLiterally)
unfoldable pub move_text : ℕ → ℕ → Bool → ℕ → ℤ → List ℕ
move_text y k l m n = told text_of_date (moved y k l m n)

-- `SEARCH ..`: "`FOUND total`, then the `DAY` lines"
unfoldable pub found_line : ℕ → List ℕ
found_line n = lined (word "FOUND" ∷ decimal n ∷ [])

-- the lent list has four places for every day of the longest window, as many as emendations of all of them take, so that reason 12 never
-- comes (Paper, NeverTwelve)
abbrev pub places : ℕ
places = 111036

unfoldable pub search_text : Reading → ℕ → ℕ → List ℕ
search_text r first last =
    told (λ n. found_line n ++ each day_line (fitting r first (window_days first last))) (search_at r first last places)

-- `EMEND ..`: "`FITS total`", or "`EMENDED total` and then a line each `EMENDATION day field read should-be`"
unfoldable pub fits_line : ℕ → List ℕ
fits_line n = lined (word "FITS" ∷ decimal n ∷ [])

unfoldable pub emended_line : ℕ → List ℕ
emended_line n = lined (word "EMENDED" ∷ decimal n ∷ [])

-- a value of field i: of the third, the leap mark, "marks as `-` and `L`"
abbrev pub value_text : ℕ → ℕ → List ℕ
value_text i v = cond (eqb i 3) (leap_text (eqb v 2)) (decimal v)

unfoldable pub emendation_line : ℕ → ℕ → ℕ → ℕ → List ℕ
emendation_line d i k v = lined (word "EMENDATION" ∷ decimal d ∷ decimal i ∷ value_text i k ∷ value_text i v ∷ [])

-- that of the four numbers from place k of a list on
abbrev pub line_from : List ℕ → ℕ → List ℕ
line_from xs k = emendation_line (get_or xs k 0) (get_or xs (k + 1) 0) (get_or xs (k + 2) 0) (get_or xs (k + 3) 0)

-- the lines of a list of emendations, four numbers each
unfoldable pub emendation_lines : List ℕ → List ℕ
emendation_lines (d ∷ i ∷ k ∷ v ∷ xs) = emendation_line d i k v ++ emendation_lines xs
emendation_lines (d ∷ i ∷ k ∷ []) = []
emendation_lines (d ∷ i ∷ []) = []
emendation_lines (d ∷ []) = []
emendation_lines [] = []

abbrev pub outcome_text : List ℕ → Emended → List ℕ
outcome_text xs (Fits n) = fits_line n
outcome_text xs (Are n) = emended_line n ++ emendation_lines xs

unfoldable pub emend_text : Reading → ℕ → ℕ → List ℕ
emend_text r first last = told (outcome_text (emendations r first (window_days first last))) (emend_at r first last places)

-- `CLERK bu steps`: `CLERK` and the fields of `MONTH`'s answer, as the clerk keeps them after so many steps from that bu's head
unfoldable pub clerk_line : Clerk → List ℕ
clerk_line c = line_of_month (word "CLERK") c.month_count (shown c)

unfoldable pub clerk_text : ℕ → ℕ → List ℕ
clerk_text b k = told clerk_line (walked b k)
