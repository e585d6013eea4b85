-- The answers to queries of the paper's own figures, byte by byte: a field lost or in another's place shows here at once.
-- Assumes nothing.
use Prim.Native.Nat.{ℕ}
use mathlib.Core.Path.{◌≡◌, refl}
use mathlib.Core.Bool.{true, false}
use mathlib.Core.List.{[], ◌∷◌}
use lib.IntN.{pos, negsuc}
use Rattle.dates.specs.Dates.{date_at}
use Rattle.moves.specs.Moves.{moved}
use Rattle.planets.specs.Planets.{conjunction_at, pair_at}
use Rattle.reading.specs.declared.Field.TheVariants.{Known, Unread}
use Rattle.reading.specs.declared.Reading.{Reading}
use Rattle.reading.specs.Paper.{all_unread}
use Rattle.emending.specs.Faults.{name_fault, number_fault, month_fault, day_fault, fault, gathered, emendations, emendable}
use Rattle.emending.specs.Emended.{emend_total, emend_at}
use Rattle.fields.specs.Fields.{word, digits, decimal, followed, each}
use Rattle.penned.specs.Paper.{in_lines}
use Rattle.told.specs.Answers.{
  words_numbered,
  refused_text,
  place_line,
  place_text,
  year_line,
  year_text,
  month_line_of,
  month_text,
  quarter_line,
  quarter_text,
  term_line,
  term_text,
  conjunction_line,
  conjunction_text,
  next_line,
  next_text,
  pair_line,
  pair_text,
  day_line_of,
  day_text,
  day_line,
  date_text,
  move_text,
  found_line,
  search_text,
  fits_line,
  emended_line,
  emendation_line,
  emendation_lines,
  emend_text,
}
use Rattle.dates.proofs.Computing.{dates-computed}
use Rattle.facts.proofs.Computing.{facts-computed}
use Rattle.planets.proofs.Computing.{planets-computed}
use Rattle.reading.proofs.Computing.{searches-computed}

-- What each kind of text is computed with: on an `unfolding` line such a name brings all that its own line names.
printing : ℕ
unfolding digits decimal followed in_lines
printing = 0

refusing : ℕ
unfolding refused_text words_numbered printing
refusing = 0

day-lines : ℕ
unfolding day_line day_line_of printing dates-computed
day-lines = 0

dates : ℕ
unfolding date_text day-lines dates-computed
dates = 0

conjunctions : ℕ
unfolding printing planets-computed
conjunctions = 0

searches : ℕ
unfolding search_text found_line each day-lines searches-computed
searches = 0

faults : ℕ
unfolding name_fault number_fault month_fault day_fault fault gathered emendations emendable emend_total emend_at
faults = 0

emending : ℕ
unfolding emend_text fits_line emended_line emendation_line emendation_lines faults searches
emending = 0

-- known date 5: solstice year 9,366 is year 18 of bu 4 of ji 1, leap remainder 5, first month 115,830
pub place-9366 : place_text 9366 ≡ in_lines (word "PLACE 1 4 18 58 115830 5 12" ∷ [])
unfolding place_text place_line printing facts-computed
place-9366 = refl

-- known date 4: solstice year 77 is year 1 of bu 2, whose head name is 40
pub place-77 : place_text 77 ≡ in_lines (word "PLACE 1 2 1 40 940 0 12" ∷ [])
unfolding place_text place_line printing facts-computed
place-77 = refl

pub no-year : place_text 41041 ≡ in_lines (word "REFUSED 1 year outside its range" ∷ [])
unfolding place_text place_line refusing facts-computed
no-year = refl

-- "Listing year 11 gives months 125 to 137", month 134 being leap 9
pub year-11 : year_text 11 ≡ in_lines (word "YEAR 11 NAME 27 MONTHS 13 FIRST 125 LEAP 9 134" ∷ [])
unfolding year_text year_line facts-computed printing
year-11 = refl

-- "Year 0 then holds months 11 and 12 only, name 16"
pub year-0 : year_text 0 ≡ in_lines (word "YEAR 0 NAME 16 MONTHS 2 FIRST 0 LEAP - -" ∷ [])
unfolding year_text year_line facts-computed printing
year-0 = refl

-- lines of the same example, with the first day and the small remainder after them
pub month-134 : month_text 134 ≡ in_lines (word "MONTH 134 9 L 58 29 E 3957 126" ∷ [])
unfolding month_text month_line_of printing facts-computed
month-134 = refl

pub month-135 : month_text 135 ≡ in_lines (word "MONTH 135 10 - 27 30 - 3986 625" ∷ [])
unfolding month_text month_line_of printing facts-computed
month-135 = refl

-- month 134 is full on day 3,971: 27,759 × 538 is 3,760 × 3,971 and 3,382 more
pub full-134 : quarter_text 134 2 ≡ in_lines (word "QUARTER 3971 3382" ∷ [])
unfolding quarter_text quarter_line printing facts-computed
full-134 = refl

pub no-quarter : quarter_text 0 4 ≡ in_lines (word "REFUSED 15 term, mid-term or quarter above its last" ∷ [])
unfolding quarter_text quarter_line refusing facts-computed
no-quarter = refl

-- the term after the solstice of year 11: 487 × 241 is 32 × 3,667 and 23 more
pub term-11-1 : term_text 11 1 ≡ in_lines (word "TERM 3667 23" ∷ [])
unfolding term_text term_line printing facts-computed
term-11-1 = refl

-- the checks of W11 for k = 1: Jupiter, and Venus, whose odd counts are morning conjunctions
pub jupiter-1 : conjunction_text 1 1 ≡ in_lines (word "CONJUNCTION 398 14641 17308 -" ∷ [])
unfolding conjunction_text conjunction_line conjunction_at conjunctions
jupiter-1 = refl

pub venus-1 : conjunction_text 4 1 ≡ in_lines (word "CONJUNCTION 292 281 23320 M" ∷ [])
unfolding conjunction_text conjunction_line conjunction_at conjunctions
venus-1 = refl

-- an even count is an evening conjunction: Mercury's second
pub mercury-2 : conjunction_text 5 2 ≡ in_lines (word "CONJUNCTION 115 41978 47632 E" ∷ [])
unfolding conjunction_text conjunction_line conjunction_at conjunctions
mercury-2 = refl

pub no-planet : conjunction_text 6 1 ≡ in_lines (word "REFUSED 19 planet outside 1 to 5" ∷ [])
unfolding conjunction_text conjunction_line conjunction_at conjunctions refusing
no-planet = refl

pub no-such-count : conjunction_text 1 37584 ≡ in_lines (word "REFUSED 6 day count outside the range" ∷ [])
unfolding conjunction_text conjunction_line conjunction_at conjunctions refusing
no-such-count = refl

-- the first conjunction of Venus on or after day 292 is its first, and after that day its second
pub next-292 : next_text 4 292 ≡ in_lines (word "NEXT 1 292 281 23320 M" ∷ [])
unfolding next_text next_line conjunctions planets-computed
next-292 = refl

pub next-293 : next_text 4 293 ≡ in_lines (word "NEXT 2 584 562 23320 E" ∷ [])
unfolding next_text next_line conjunctions planets-computed
next-293 = refl

-- after day 14,989,825 no conjunction of Jupiter is left
pub none_left : next_text 1 14989826 ≡ in_lines (word "REFUSED 20 no conjunction falls from the given day to the end of the range" ∷ [])
unfolding next_text next_line conjunctions refusing planets-computed
none_left = refl

-- the pairs that 004 gives: that of Mars (P22, P23), and that of Mercury, which has more conjunctions than years (P90, P91)
pub mars-pair : pair_text 2 ≡ in_lines (word "PAIR 1876 879" ∷ [])
unfolding pair_text pair_line printing planets-computed
mars-pair = refl

pub mercury-pair : pair_text 5 ≡ in_lines (word "PAIR 1889 11908" ∷ [])
unfolding pair_text pair_line printing planets-computed
mercury-pair = refl

pub no-pair : pair_text 6 ≡ in_lines (word "REFUSED 19 planet outside 1 to 5" ∷ [])
unfolding pair_text pair_line pair_at refusing
no-pair = refl

-- the last day of year 11's month 134, and a day that is none
pub last-of-134 : day_text 3985 ≡ in_lines (word "DAY 3985 11 9 L 29 26 29 27 1 1 11 E" ∷ [])
unfolding day_text date_at day-lines
last-of-134 = refl

pub no-day : day_text 14989860 ≡ in_lines (word "REFUSED 6 day count outside the range" ∷ [])
unfolding day_text day_line_of date_at refusing
no-day = refl

-- the day before that of known date 11 (W8): the last of bu 1, of an eclipse month
pub last-of-bu-1 : day_text 27758 ≡ in_lines (word "DAY 27758 76 10 L 30 39 30 32 1 1 76 E" ∷ [])
unfolding day_text date_at day-lines
last-of-bu-1 = refl

-- known dates 8 and 9: year 11 has leap 9, of 29 days, and no leap 8
pub leap-9 : date_text 11 9 true 1 ≡ in_lines (word "DAY 3957 11 9 L 1 58 29 27 1 1 11 E" ∷ [])
unfolding dates
leap-9 = refl

pub leap-9-day-30 : date_text 11 9 true 30 ≡ in_lines (word "REFUSED 5 day 30 of a 29-day month" ∷ [])
unfolding dates refusing
leap-9-day-30 = refl

pub leap-8 : date_text 11 8 true 1 ≡ in_lines (word "REFUSED 4 leap month asked and that year has none of that number" ∷ [])
unfolding dates refusing
leap-8 = refl

-- "a month number from 1 to 10 in year 0", leap or not
pub no_number_lem : date_text 0 5 true 1 ≡ in_lines (word "REFUSED 16 no such month number in that year" ∷ [])
unfolding dates refusing
no_number_lem = refl

-- known date 11: day 0 moved by 27,759, into bu 2
pub seventy-six-on : move_text 0 11 false 1 (pos 27759) ≡ in_lines (word "DAY 27759 76 11 - 1 40 29 32 1 2 1 -" ∷ [])
unfolding move_text moved dates
seventy-six-on = refl

-- 30 days after day 1 of year 11's ordinary month 9 comes its leap month 9
pub into-leap-9 : move_text 11 9 false 1 (pos 30) ≡ in_lines (word "DAY 3957 11 9 L 1 58 29 27 1 1 11 E" ∷ [])
unfolding move_text moved dates
into-leap-9 = refl

-- known date 1: day 0 moved by one back
pub one-back : move_text 0 11 false 1 (negsuc 0) ≡ in_lines (word "REFUSED 8 a move ends outside the range" ∷ [])
unfolding move_text moved dates refusing
one-back = refl

-- known date 2: days 28 and 29, all unread; and of them the one that is day 1 of its month
pub two-found : search_text all_unread 28 29 ≡ in_lines (word "FOUND 2" ∷ word "DAY 28 0 11 - 29 29 29 16 1 1 1 -" ∷ word "DAY 29 0 12 - 1 30 30 16 1 1 1 -" ∷ [])
unfolding searches
two-found = refl

abbrev first_of_month : Reading
first_of_month =
    record {
      year_name = Unread;
      month_number = Unread;
      leap_mark = Unread;
      day_of_month = Known 1;
      day_name = Unread;
      first_name = Unread;
    }

pub one_found : search_text first_of_month 28 29 ≡ in_lines (word "FOUND 1" ∷ word "DAY 29 0 12 - 1 30 30 16 1 1 1 -" ∷ [])
unfolding searches
one_found = refl

pub no-window : search_text all_unread 29 28 ≡ in_lines (word "REFUSED 13 last before first, or a window of more than 27,759 days" ∷ [])
unfolding searches refusing
no-window = refl

-- of the same two days two fit where all is unread; neither is day 2 of its month, and neither month is leap
pub two-fit : emend_text all_unread 28 29 ≡ in_lines (word "FITS 2" ∷ [])
unfolding emending
two-fit = refl

abbrev second_of_month : Reading
second_of_month =
    record {
      year_name = Known 16;
      month_number = Unread;
      leap_mark = Known 1;
      day_of_month = Known 2;
      day_name = Unread;
      first_name = Unread;
    }

pub two-emended : emend_text second_of_month 28 29 ≡ in_lines (word "EMENDED 2" ∷ word "EMENDATION 28 4 2 29" ∷ word "EMENDATION 29 4 2 1" ∷ [])
unfolding emending
two-emended = refl

abbrev leap_first : Reading
leap_first =
    record {
      year_name = Unread;
      month_number = Unread;
      leap_mark = Known 2;
      day_of_month = Known 1;
      day_name = Unread;
      first_name = Unread;
    }

-- day 28 disagrees in two fields, day 29 in its mark alone
pub mark-emended : emend_text leap_first 28 29 ≡ in_lines (word "EMENDED 1" ∷ word "EMENDATION 29 3 L -" ∷ [])
unfolding emending
mark-emended = refl

pub no-window-emended : emend_text all_unread 29 28 ≡ in_lines (word "REFUSED 13 last before first, or a window of more than 27,759 days" ∷ [])
unfolding emending refusing
no-window-emended = refl
