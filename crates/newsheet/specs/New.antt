-- "Readings in the sheet": the new form, with a fourth section after the days; what reading it answers for every list of bytes, and what the
-- two conversions answer; refusals in the paper's order. Assumes nothing.
use Rattle.std.specs.Prelude.{ℕ, zero, suc, ◌-◌, ◌*◌, Bool, true, false, ◌&&◌, List, [], ◌∷◌, ◌++◌, leb, length, get_or, take, drop}
use Rattle.rule.specs.Reasons.{Answer, is, refused, refused-with, guard, and_then, into_room}
use Rattle.reading.specs.declared.Field.{Field}
use Rattle.reading.specs.declared.Field.TheVariants.{Known, Unread}
use Rattle.reading.specs.declared.Reading.{Reading}
use Rattle.reading.specs.Search.{where_good}
use Rattle.octets.specs.Bytes.{number, lay}
use Rattle.newsheet.specs.declared.Eight.{Eight}
use Rattle.sheet.specs.Sheet.{Section, ListsFor, lists_of, sections_read, sheet_sections, Lists, three_lists, read_sheet, room}

-- "14 bytes each: the six fields, one byte each, then first and last day of the window": the eight numbers of the 14 bytes at the front of s;
-- and those of an item, which is the number in its 14 bytes
unfoldable pub eight_in : List ℕ → List ℕ
eight_in s =
    get_or s 0 0
    ∷ get_or s 1 0
    ∷ get_or s 2 0
    ∷ get_or s 3 0
    ∷ get_or s 4 0
    ∷ get_or s 5 0
    ∷ number 4 (drop 6 s)
    ∷ number 4 (drop 10 s)
    ∷ []

unfoldable pub eight_of : ℕ → List ℕ
eight_of x = eight_in (lay 14 x)

-- the same from a struct of them
abbrev pub eight_numbers : Eight → List ℕ
eight_numbers e =
    e.year_name
    ∷ e.month_number
    ∷ e.leap_mark
    ∷ e.day_of_month
    ∷ e.day_name
    ∷ e.first_name
    ∷ e.first
    ∷ e.last
    ∷ []

-- "eight numbers a reading in that order"
unfoldable pub eights : List ℕ → List ℕ
eights [] = []
eights (x ∷ xs) = eight_of x ++ eights xs

-- "Zero means unread; for the leap mark, 1 is ordinary and 2 leap": a field by its number, and the reading of eight numbers with the ends of its
-- window
abbrev pub field_by : ℕ → Field
field_by zero = Unread
field_by (suc k) = Known (suc k)

abbrev pub reading_in : List ℕ → Reading
reading_in v =
    record {
      year_name = field_by (get_or v 0 0);
      month_number = field_by (get_or v 1 0);
      leap_mark = field_by (get_or v 2 0);
      day_of_month = field_by (get_or v 3 0);
      day_name = field_by (get_or v 4 0);
      first_name = field_by (get_or v 5 0);
    }

abbrev pub first_in : List ℕ → ℕ
first_in v = get_or v 6 0

abbrev pub last_in : List ℕ → ℕ
last_in v = get_or v 7 0

-- "reading items are checked for 9, 6, 13, 14 in that order": after 9 what the search tests, 6 for either end, 13, 14
unfoldable pub tested : List ℕ → Answer (Unit {0})
tested v = where_good (reading_in v) (first_in v) (last_in v) (is tt)

-- whether there is an answer, and the reason where there is none
abbrev pub is_given : {A : Type 0} → Answer A → Bool
is_given (is x) = true
is_given (refused k) = false
is_given (refused-with k n) = false

abbrev pub reason_in : {A : Type 0} → Answer A → ℕ
reason_in (is x) = 0
reason_in (refused k) = k
reason_in (refused-with k n) = k

-- "a fourth section after the days: a count of at most 500, then 14 bytes each"
abbrev pub reading_section : Section
reading_section =
    record {
      width = 14;
      items = 500;
      good = λ x. is_given (tested (eight_of x));
      reason = λ x. reason_in (tested (eight_of x));
    }

abbrev pub new_sections : List Section
new_sections = sheet_sections ++ (reading_section ∷ [])

-- the three lists, and the items of the fourth section
pub record Four : Type 0 where
  pub three : Lists
  pub readings : List ℕ

abbrev pub four_named : ListsFor new_sections → Four
four_named l = record { three = three_lists l.0 l.1.0 l.1.1.0; readings = l.1.1.1.0 }

unfoldable pub four_in : List ℕ → Four
four_in s = four_named (lists_of new_sections s)

-- what the bytes of a sheet of the new form say, with room enough for the lists
unfoldable pub read_new : List ℕ → Answer Four
read_new s = and_then (sections_read new_sections s) (λ l. is (four_named l))

-- four lent lists of y, m, d and n places hold the lists, "eight places a reading"
abbrev pub room_for_four : Four → ℕ → ℕ → ℕ → ℕ → Bool
room_for_four l y m d n = room l.three y m d && leb (8 * length l.readings) n

-- reading into four lent lists: 12 last
unfoldable pub read_new_into : List ℕ → ℕ → ℕ → ℕ → ℕ → Answer Four
read_new_into s y m d n = and_then (read_new s) (λ l. guard (room_for_four l y m d n) 12 (is l))

-- "converting old to new (the same bytes and a count of 0)", into a buffer of n bytes: the faults of the old sheet, then 12
unfoldable pub to_new : List ℕ → ℕ → Answer (List ℕ)
to_new s n = and_then (read_sheet s) (λ l. into_room n (s ++ (0 ∷ 0 ∷ [])))

-- "converting new to old (the same bytes without the count, where there are no readings)": the faults of the new sheet, then 17, then 12
unfoldable pub to_old : List ℕ → ℕ → Answer (List ℕ)
to_old s n = and_then (read_new s) (λ l. guard (leb (length l.readings) 0) 17 (into_room n (take (length s - 2) s)))
