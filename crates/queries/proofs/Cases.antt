-- Lines that are no queries, and queries out of range, by computing. Assumes nothing.
use Prim.Native.Nat.{ℕ}
use mathlib.Core.Path.{◌≡◌, refl}
use mathlib.Core.List.{[], ◌++◌}
use lib.ListN.{replicate}
use Rattle.dates.specs.Dates.{date_at}
use Rattle.moves.specs.Moves.{moved}
use Rattle.facts.specs.Facts.{year_facts_at, term_at}
use Rattle.planets.specs.Planets.{pair_at}
use Rattle.emending.specs.Emended.{emend_at}
use Rattle.fields.specs.Fields.{word}
use Rattle.fields.specs.Paper.{value_from}
use Rattle.told.specs.Answers.{refused_text, year_text, term_text, conjunction_text, next_text, pair_text, quarter_text, day_text, date_text, move_text, search_text, emend_text}
use Rattle.yearbook.specs.Promise.{figures_at}
use Rattle.told.specs.Yearbook.{figures_text}
use Rattle.forms.specs.Forms.{
  fields_in,
  field_at,
  same,
  all_digits,
  is_decimal,
  is_back,
  is_mark,
  admits,
  like,
  first_like,
  number_in,
  leap_in,
  move_of,
  move_in,
  slip_field_of,
  slip_field_in,
  slip_mark_of,
  slip_mark_in,
}
use Rattle.asked.specs.Asked.{table, forms_of, forms, query_at, hashed, read_by}
use Rattle.queries.specs.Queries.{unreadable, answer_to}
use Rattle.dates.proofs.Computing.{dates-computed}
use Rattle.planets.proofs.Computing.{planets-computed}
use Rattle.reading.proofs.Computing.{searches-computed}

-- what a line and each kind of answer are computed with: on an `unfolding` line such a name brings all that its own line names
fields : ℕ
unfolding value_from fields_in field_at same all_digits is_decimal is_back is_mark admits like number_in leap_in move_of move_in slip_field_of slip_field_in slip_mark_of slip_mark_in
fields = 0

lines : ℕ
unfolding fields first_like table forms_of forms query_at hashed read_by answer_to
lines = 0

years : ℕ
unfolding lines year_text year_facts_at
years = 0

days : ℕ
unfolding lines day_text date_at
days = 0

terms : ℕ
unfolding lines term_text term_at
terms = 0

dating : ℕ
unfolding lines date_text dates-computed
dating = 0

moving : ℕ
unfolding dating move_text moved
moving = 0

searching : ℕ
unfolding lines search_text searches-computed
searching = 0

emending : ℕ
unfolding searching emend_text emend_at
emending = 0

conjunctions : ℕ
unfolding lines conjunction_text planets-computed
conjunctions = 0

nexts : ℕ
unfolding lines next_text planets-computed
nexts = 0

-- "a leading zero, `-0`"
pub leading-zero : answer_to (word "YEAR 05") ≡ unreadable
unfolding lines
leading-zero = refl

pub minus-nought : answer_to (word "MOVE 1 1 - 1 -0") ≡ unreadable
unfolding lines
minus-nought = refl

-- "a double, leading or trailing space, a carriage return, an empty line"
pub double-space : answer_to (word "YEAR  5") ≡ unreadable
unfolding lines
double-space = refl

pub leading-space : answer_to (word " YEAR 5") ≡ unreadable
unfolding lines
leading-space = refl

pub trailing-space : answer_to (word "YEAR 5 ") ≡ unreadable
unfolding lines
trailing-space = refl

pub carriage-return : answer_to (word "YEAR 5\r") ≡ unreadable
unfolding lines
carriage-return = refl

pub empty-line : answer_to [] ≡ unreadable
unfolding lines
empty-line = refl

-- "a field too few or too many, another word"
pub field-too-few : answer_to (word "YEAR") ≡ unreadable
unfolding lines
field-too-few = refl

pub field-too-many : answer_to (word "YEAR 5 5") ≡ unreadable
unfolding lines
field-too-many = refl

pub small-letters : answer_to (word "year 5") ≡ unreadable
unfolding lines
small-letters = refl

-- a date is read whole
pub mark-unread : answer_to (word "DATE 5 3 ? 1") ≡ unreadable
unfolding lines
mark-unread = refl

-- "over 200 bytes": 201, and 200 are a query
pub over-200-bytes : answer_to (word "YEAR " ++ replicate 196 57) ≡ unreadable
unfolding years
over-200-bytes = refl

pub just-200-bytes : answer_to (word "YEAR " ++ replicate 195 57) ≡ refused_text 1
unfolding years
just-200-bytes = refl

-- `L` asks for a leap month, and year 11 has no leap 8; a move with `-` goes back, and before day 0 there is none
pub leap-asked : answer_to (word "DATE 11 8 L 1") ≡ refused_text 4
unfolding dating
leap-asked = refl

pub one-day-back : answer_to (word "MOVE 0 11 - 1 -1") ≡ refused_text 8
unfolding moving
one-day-back = refl

-- 16 "looks at the number alone: year 0 leap 5 is 16, year 0 leap 11 and leap 12 are 4; year 41,040 leap 11 is 16"
pub number-of-year-0 : answer_to (word "DATE 0 5 L 1") ≡ refused_text 16
unfolding dating
number-of-year-0 = refl

pub leap-11-of-year-0 : answer_to (word "DATE 0 11 L 1") ≡ refused_text 4
unfolding dating
leap-11-of-year-0 = refl

pub number-of-year-41040 : answer_to (word "DATE 41040 11 L 1") ≡ refused_text 16
unfolding dating
number-of-year-41040 = refl

-- "A number too large for its type is out of range and is refused by its own reason in its own order, not unreadable"
pub year-too-large : answer_to (word "YEAR 99999999999") ≡ refused_text 1
unfolding years
year-too-large = refl

pub day-too-large : answer_to (word "DAY 99999999999") ≡ refused_text 6
unfolding days
day-too-large = refl

pub term-too-large : answer_to (word "TERM 5 300") ≡ refused_text 15
unfolding terms
term-too-large = refl

pub number-too-large : answer_to (word "DATE 5 300 - 1") ≡ refused_text 2
unfolding dating
number-too-large = refl

pub name-too-large : answer_to (word "SEARCH ? ? ? ? ? 999 0 5") ≡ refused_text 14
unfolding searching
name-too-large = refl

-- an emendation has the reasons of a search: 6, 13, 14
pub emend-day-too-large : answer_to (word "EMEND ? ? ? ? ? 999 5 99999999999") ≡ refused_text 6
unfolding emending
emend-day-too-large = refl

pub emend-turned-round : answer_to (word "EMEND ? ? ? ? ? 999 5 0") ≡ refused_text 13
unfolding emending
emend-turned-round = refl

pub emend-name-too-large : answer_to (word "EMEND ? ? ? ? ? 999 0 5") ≡ refused_text 14
unfolding emending
emend-name-too-large = refl

-- of the planets: 19, then 6, and 20 last
pub planet-too-large : answer_to (word "CONJUNCTION 99999999999 99999999999") ≡ refused_text 19
unfolding conjunctions
planet-too-large = refl

pub count-too-large : answer_to (word "CONJUNCTION 1 99999999999999999999") ≡ refused_text 6
unfolding conjunctions
count-too-large = refl

pub next-planet-too-large : answer_to (word "NEXT 6 99999999999") ≡ refused_text 19
unfolding nexts
next-planet-too-large = refl

pub next-day-too-large : answer_to (word "NEXT 1 99999999999") ≡ refused_text 6
unfolding nexts
next-day-too-large = refl

pub none_left : answer_to (word "NEXT 1 14989826") ≡ refused_text 20
unfolding nexts
none_left = refl

pub count-below-nought : answer_to (word "CONJUNCTION 1 -1") ≡ unreadable
unfolding lines
count-below-nought = refl

-- "a move by a number beyond 64 bits 8 (after the date's own reasons)"
pub move-too-far : answer_to (word "MOVE 1 11 - 1 99999999999999999999") ≡ refused_text 8
unfolding moving
move-too-far = refl

pub move-too-far-back : answer_to (word "MOVE 1 11 - 1 -99999999999999999999") ≡ refused_text 8
unfolding moving
move-too-far-back = refl

pub move-of-no-date : answer_to (word "MOVE 1 13 - 1 99999999999999999999") ≡ refused_text 2
unfolding moving
move-of-no-date = refl

-- a pair: 19 alone, and a planet in the order of its query
pub no-pair : answer_to (word "PAIR 99999999999") ≡ refused_text 19
unfolding lines pair_text pair_at
no-pair = refl

-- a note, and lines that are none
pub short-note : answer_to (word "#") ≡ word "#\n"
unfolding lines
short-note = refl

pub note-of-a-query : answer_to (word "#YEAR 5") ≡ word "#YEAR 5\n"
unfolding lines
note-of-a-query = refl

pub space-before : answer_to (word " #") ≡ unreadable
unfolding lines
space-before = refl

pub note-too-long : answer_to (word "#" ++ replicate 200 57) ≡ unreadable
unfolding lines
note-too-long = refl

-- numbers in the order of their query
pub planet-first : answer_to (word "NEXT 4 293") ≡ next_text 4 293
unfolding lines
planet-first = refl

pub month-first : answer_to (word "QUARTER 115830 2") ≡ quarter_text 115830 2
unfolding lines
month-first = refl

-- of figures: 1 for either end, then 13
figures : ℕ
unfolding lines figures_text figures_at
figures = 0

pub figures-too-large : answer_to (word "FIGURES 99999999999 8") ≡ refused_text 1
unfolding figures
figures-too-large = refl

pub figures-last-too-large : answer_to (word "FIGURES 9 99999999999") ≡ refused_text 1
unfolding figures
figures-last-too-large = refl

pub figures-turned-round : answer_to (word "FIGURES 9 8") ≡ refused_text 13
unfolding figures
figures-turned-round = refl
