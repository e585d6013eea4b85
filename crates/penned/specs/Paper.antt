-- What the paper says of the printed lines, as statements. proofs/Paper.antt proves each under the same name in small letters.
-- Assumes nothing.
use Rattle.std.specs.Prelude.{Result, Ok, Err, ℕ, ◌+◌, ◌-◌, ◌≤◌, ◌≡◌, ◌↔◌, ◌⊎◌, true, List, [], ◌∷◌, ◌++◌, length, replicate}
use Rattle.rule.specs.Counts.{CivilYearInRange, MonthInRange, DayInRange, day_name, year_name}
use Rattle.rule.specs.Rule.{month_start, month_length, month_of_day, months_in_civil_year, civil_year_of_month, leap, month_number, eclipse}
use Rattle.rule.specs.Civil.{civil_months_of}
use Rattle.rule.specs.Reasons.{is, refused}
use Rattle.rule.specs.declared.Reason.{Reason}
use Rattle.rule.specs.declared.Reason.TheVariants.{NoSuchYear, NoSuchMonth, NoSuchDay, LentTooShort}
use Rattle.sheet.specs.Sheet.{Lists, read_sheet, empty_sheet, sheet_of11}
use Rattle.sheet.specs.Promises.{RestKept}
use Rattle.rule.specs.Lists.{placed}
use Rattle.fields.specs.Fields.{word, decimal, mark, each, letter_l, letter_e}
use Rattle.penned.specs.Lines.{
  month_line,
  month_lined,
  year_block,
  month_item,
  day_item,
  listing,
}
use Rattle.penned.specs.Promises.{PrintYear, PrintMonthLine, PrintMonth, PrintDay}

-- lines, each with its newline
unfoldable pub in_lines : List (List ℕ) → List ℕ
in_lines [] = []
in_lines (l ∷ ls) = l ++ (10 ∷ in_lines ls)

-- "For the sheet with year 11 alone .., all of it is:", and "Listing year 11 gives months 125 to 137" (W4): the paper's lines from
-- month 125 on, and those of the two months that close the civil year
abbrev pub example_of11 : List ℕ
example_of11 =
    in_lines
    (word "YEAR 11 NAME 27 MONTHS 13"
    ∷ word "125 1 - 32 29 -"
    ∷ word "126 2 - 1 30 -"
    ∷ word "127 3 - 31 29 -"
    ∷ word "128 4 - 60 30 -"
    ∷ word "129 5 - 30 30 E"
    ∷ word "130 6 - 60 29 -"
    ∷ word "131 7 - 29 30 -"
    ∷ word "132 8 - 59 29 -"
    ∷ word "133 9 - 28 30 -"
    ∷ word "134 9 L 58 29 E"
    ∷ word "135 10 - 27 30 -"
    ∷ word "136 11 - 57 29 -"
    ∷ word "137 12 - 26 30 -"
    ∷ [])

abbrev pub ExampleOfThePaper : Type 0
ExampleOfThePaper = listing sheet_of11 ≡ example_of11

-- case 12: of the empty sheet "nothing printed"
abbrev pub EmptyListing : Type 0
EmptyListing = listing empty_sheet ≡ []

-- a refused sheet prints `REFUSED` and the number, and nothing else
abbrev pub RefusedListing : Type 0
RefusedListing = (s : List ℕ) (k : ℕ) → read_sheet s ≡ refused k → listing s ≡ word "REFUSED " ++ (decimal k ++ (10 ∷ []))

-- any other prints its years, then its months, then its days
abbrev pub ListingInOrder : Type 0
ListingInOrder =
    (s : List ℕ) (l : Lists) → read_sheet s ≡ is l →
    listing s ≡ each year_block l.years ++ (each month_item l.months ++ each day_item l.days)

-- the six fields of a month's line, by the rule itself
abbrev pub MonthLineLiterally : Type 0
MonthLineLiterally =
    (n : ℕ) →
    month_line n
    ≡ decimal n
    ++ (32
    ∷ (decimal (month_number n)
    ++ (32
    ∷ mark (leap n) letter_l
    ∷ 32
    ∷ (decimal (day_name (month_start n)) ++ (32 ∷ (decimal (month_length n) ++ (32 ∷ mark (eclipse n) letter_e ∷ [])))))))

-- a civil year's block: its header, and one line a month of its own
abbrev pub YearBlockLiterally : Type 0
YearBlockLiterally =
    (y : ℕ) →
    year_block y
    ≡ (word "YEAR " ++ (decimal y ++ (word " NAME " ++ (decimal (year_name y) ++ (word " MONTHS " ++ decimal (months_in_civil_year y))))))
    ++ (10 ∷ each (λ n. month_line n ++ (10 ∷ [])) (civil_months_of (λ n. true) y))

-- "`MONTH` and such a line"
abbrev pub MonthAndSuchALine : Type 0
MonthAndSuchALine = (n : ℕ) → month_item n ≡ word "MONTH " ++ (month_line n ++ (10 ∷ []))

-- a `DAY` line by the date of its day: "the day is the day count and the month is its number"
abbrev pub DayLineLiterally : Type 0
DayLineLiterally =
    (d : ℕ) →
    day_item d
    ≡ (word "DAY "
    ++ (decimal d
    ++ (32
    ∷ (decimal (civil_year_of_month (month_of_day d))
    ++ (32
    ∷ (decimal (month_number (month_of_day d))
    ++ (32
    ∷ mark (leap (month_of_day d)) letter_l
    ∷ 32
    ∷ (decimal (d - month_start (month_of_day d) + 1) ++ (32 ∷ decimal (day_name d))))))))))
    ++ (10 ∷ [])

-- two different months have two different lines
abbrev pub TwoMonthsTwoLines : Type 0
TwoMonthsTwoLines = (n m : ℕ) → month_line n ≡ month_line m → n ≡ m

-- each reason if and only if its row holds and no earlier one's does: what does not exist (1, 7 or 6), then "a lent list or
-- buffer too short for the whole answer"; and no other
pub record PrintReasons (There : Type 0) (why : Reason) (text o : List ℕ) (Call : Result ℕ Reason → List ℕ → Type 0) : Type 0 where
  pub absent : Call (Err why) o ↔ (There → ⊥)
  pub short : Call (Err LentTooShort) o ↔ (There × (length text ≤ length o → ⊥))
  pub only : (other : Reason) (o' : List ℕ) → Call (Err other) o' → (other ≡ why) ⊎ (other ≡ LentTooShort)
  pub given : Call (Ok (length text)) (placed text o) ↔ (There × (length text ≤ length o))

pub record ReasonsOfPrinting : Type 0 where
  pub year : (y : ℕ) (o : List ℕ) → PrintReasons (CivilYearInRange y) NoSuchYear (year_block y) o (PrintYear y o)
  pub month-line : (m : ℕ) (o : List ℕ) → PrintReasons (MonthInRange m) NoSuchMonth (month_lined m) o (PrintMonthLine m o)
  pub month : (m : ℕ) (o : List ℕ) → PrintReasons (MonthInRange m) NoSuchMonth (month_item m) o (PrintMonth m o)
  pub day : (d : ℕ) (o : List ℕ) → PrintReasons (DayInRange d) NoSuchDay (day_item d) o (PrintDay d o)

-- "All lent memory stays as before the call": a refused call changes nothing
abbrev pub ChangesNothing : (ℕ → List ℕ → Result ℕ Reason → List ℕ → Type 0) → Type 0
ChangesNothing P = (x : ℕ) (o o' : List ℕ) (why : Reason) → P x o (Err why) o' → o' ≡ o

pub record RefusalChangesNothing : Type 0 where
  pub year : ChangesNothing PrintYear
  pub month-line : ChangesNothing PrintMonthLine
  pub month : ChangesNothing PrintMonth
  pub day : ChangesNothing PrintDay

-- places beyond the text are untouched
abbrev pub KeepsRest : (ℕ → List ℕ → Result ℕ Reason → List ℕ → Type 0) → Type 0
KeepsRest P = (x : ℕ) (o o' : List ℕ) (n : ℕ) → P x o (Ok n) o' → RestKept n o o'

pub record RestUntouched : Type 0 where
  pub year : KeepsRest PrintYear
  pub month-line : KeepsRest PrintMonthLine
  pub month : KeepsRest PrintMonth
  pub day : KeepsRest PrintDay

-- each promise leaves one answer and one state of the lent buffer
abbrev pub Once : (ℕ → List ℕ → Result ℕ Reason → List ℕ → Type 0) → Type 0
Once P = (x : ℕ) (o : List ℕ) (a b : Result ℕ Reason) (o₁ o₂ : List ℕ) → P x o a o₁ → P x o b o₂ → (a ≡ b) × (o₁ ≡ o₂)

pub record UniquePrinting : Type 0 where
  pub year : Once PrintYear
  pub month-line : Once PrintMonthLine
  pub month : Once PrintMonth
  pub day : Once PrintDay

-- wrong versions, each shut out at a named input, in a buffer of 300 noughts: refusing all, civil year 0 refused, as it was before W4,
-- writing nothing, and a year's header without its months
abbrev pub noughts : List ℕ
noughts = replicate 300 0

pub record WrongPrintings : Type 0 where
  pub year-refused : (why : Reason) (o : List ℕ) → PrintYear 11 noughts (Err why) o → ⊥
  pub year-0-refused : (why : Reason) (o : List ℕ) → PrintYear 0 noughts (Err why) o → ⊥
  pub year-unwritten : (a : Result ℕ Reason) → PrintYear 11 noughts a noughts → ⊥
  pub header-alone : (a : Result ℕ Reason) → PrintYear 11 noughts a (placed (in_lines (word "YEAR 11 NAME 27 MONTHS 13" ∷ [])) noughts) → ⊥
  pub month-line-refused : (why : Reason) (o : List ℕ) → PrintMonthLine 134 noughts (Err why) o → ⊥
  pub month-line-unwritten : (a : Result ℕ Reason) → PrintMonthLine 134 noughts a noughts → ⊥
  pub month-refused : (why : Reason) (o : List ℕ) → PrintMonth 134 noughts (Err why) o → ⊥
  pub month-unwritten : (a : Result ℕ Reason) → PrintMonth 134 noughts a noughts → ⊥
  pub day-refused : (why : Reason) (o : List ℕ) → PrintDay 0 noughts (Err why) o → ⊥
  pub day-unwritten : (a : Result ℕ Reason) → PrintDay 0 noughts a noughts → ⊥
