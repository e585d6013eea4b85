-- "The listing program": the text of its lines and of a whole listing, as lists of bytes; and the words of the reasons.
-- Assumes nothing.
use Rattle.std.specs.Prelude.{ℕ, true, List, [], ◌∷◌, ◌++◌}
use Rattle.rule.specs.Lists.{those}
use Rattle.rule.specs.Rule.{number_of, leap_mark}
use Rattle.rule.specs.Reasons.{Answer, is, refused, refused-with}
pub use Rattle.rule.specs.Words.{words_of}
use Rattle.dates.specs.declared.Date.{Date}
use Rattle.dates.specs.Dates.{date_of}
use Rattle.facts.specs.declared.MonthFacts.{MonthFacts}
use Rattle.facts.specs.declared.YearFacts.{YearFacts}
use Rattle.facts.specs.Facts.{month_facts, year_facts}
use Rattle.sheet.specs.Sheet.{Lists, read_sheet}
use Rattle.fields.specs.Fields.{word, decimal, mark, joined, lined, each, letter_e, leap_text}

-- "Fields of a month's line: month count, number, `L` for leap, first day's name, length, `E` for eclipse month"
abbrev pub fields_of_month : ℕ → MonthFacts → List (List ℕ)
fields_of_month n f =
    decimal n
    ∷ decimal (number_of f.month)
    ∷ leap_text (leap_mark f.month)
    ∷ decimal f.first_name
    ∷ decimal f.month_length
    ∷ (mark f.eclipse letter_e ∷ [])
    ∷ []

-- "The header holds the year, its name and how many months it has": a civil year
abbrev pub fields_of_year : ℕ → YearFacts → List (List ℕ)
fields_of_year y f = word "YEAR" ∷ decimal y ∷ word "NAME" ∷ decimal f.name ∷ word "MONTHS" ∷ decimal f.months ∷ []

-- "`DAY`, day, year, month, `L` or `-`, day of month, day name"; "the day is the day count and the month is its number", and
-- the year is the civil one
abbrev pub fields_of_day : ℕ → Date → List (List ℕ)
fields_of_day d r =
    word "DAY"
    ∷ decimal d
    ∷ decimal r.year
    ∷ decimal (number_of r.month)
    ∷ leap_text (leap_mark r.month)
    ∷ decimal r.day_of_month
    ∷ decimal r.day_name
    ∷ []

-- a month's line, without its newline
unfoldable pub month_line : ℕ → List ℕ
month_line n = joined (fields_of_month n (month_facts n))

-- the same as a line of a civil year's block
unfoldable pub month_lined : ℕ → List ℕ
month_lined n = lined (fields_of_month n (month_facts n))

-- "For each year it prints a header and one line a month": the months that the civil year lists
abbrev pub months_listed : YearFacts → List ℕ
months_listed f = those (λ n. true) f.first_month f.months

unfoldable pub year_block : ℕ → List ℕ
year_block y = lined (fields_of_year y (year_facts y)) ++ each month_lined (months_listed (year_facts y))

-- "each month item gives `MONTH` and such a line"
unfoldable pub month_item : ℕ → List ℕ
month_item n = lined (word "MONTH" ∷ fields_of_month n (month_facts n))

-- "each day item gives `DAY`, .."
unfoldable pub day_item : ℕ → List ℕ
day_item d = lined (fields_of_day d (date_of d))

-- "A refused sheet prints `REFUSED` and the number"
unfoldable pub refused_line : ℕ → List ℕ
refused_line k = lined (word "REFUSED" ∷ decimal k ∷ [])

-- the listing of three lists: the years, then the months, then the days, each in its order
unfoldable pub listing_of : Lists → List ℕ
listing_of l = each year_block l.years ++ (each month_item l.months ++ each day_item l.days)

-- what is printed for what a sheet says
abbrev pub printed : Answer Lists → List ℕ
printed (is l) = listing_of l
printed (refused k) = refused_line k
printed (refused-with k n) = refused_line k

-- the listing of a sheet's bytes
unfoldable pub listing : List ℕ → List ℕ
listing s = printed (read_sheet s)
