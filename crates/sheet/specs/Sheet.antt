-- "The sheet": its bytes, what reading it answers for every list of bytes, and what writing answers; refusals in the paper's order.
-- All but the last part is over any list of sections. Assumes nothing.
use Rattle.std.specs.Prelude.{ℕ, zero, suc, ◌+◌, ◌*◌, Bool, ◌&&◌, List, [], ◌∷◌, ◌++◌, leb, length, drop}
use Rattle.rule.specs.Reasons.{Answer, is, guard, and_then, within, reason_number, into_room}
use Rattle.rule.specs.declared.Reason.TheVariants.{NoSuchYear, NoSuchMonth, NoSuchDay}
use Rattle.octets.specs.Bytes.{number, numbers, lay, lay_all}
use Rattle.sheet.specs.declared.Items.{Items}

-- a section of a sheet: the bytes of an item, the most items, whether an item is good, and the reason where it is not. An item is
-- the number in its bytes, least byte first, of whatever fields it is made up
pub record Section : Type 0 where
  pub width : ℕ
  pub items : ℕ
  pub good : ℕ → Bool
  pub reason : ℕ → ℕ

-- reading an item at the front of s: 9 where it is not whole, then its own reason
unfoldable pub item_read : Section → List ℕ → Answer ℕ
item_read k s =
    guard (leb k.width (length s)) 9
    (guard (k.good (number k.width s)) (k.reason (number k.width s)) (is (number k.width s)))

-- n items, one by one
unfoldable pub items_read : Section → ℕ → List ℕ → Answer (List ℕ)
items_read k zero s = is []
items_read k (suc n) s = and_then (item_read k s) (λ x. and_then (items_read k n (drop k.width s)) (λ xs. is (x ∷ xs)))

-- "A count is 2 bytes": a section's count
abbrev pub count_of : List ℕ → ℕ
count_of s = number 2 s

-- reading a count: 9, then 10
unfoldable pub count_read : Section → List ℕ → Answer ℕ
count_read k s = guard (leb 2 (length s)) 9 (guard (leb (count_of s) k.items) 10 (is (count_of s)))

-- reading a section: its count, then item by item
unfoldable pub section_read : Section → List ℕ → Answer (List ℕ)
section_read k s = and_then (count_read k s) (λ n. items_read k n (drop 2 s))

-- the items of a section at the front of s, and what is left: "each section starts where the one before it ended"
unfoldable pub items_of : Section → List ℕ → List ℕ
items_of k s = numbers k.width (count_of s) (drop 2 s)

unfoldable pub left_after : Section → List ℕ → List ℕ
left_after k s = drop (2 + k.width * count_of s) s

-- a list for each of the sections
abbrev pub ListsFor : List Section → Type 0
ListsFor [] = Unit {0}
ListsFor (k ∷ ks) = List ℕ × ListsFor ks

-- the lists that stand in the sections
unfoldable pub lists_of : (ks : List Section) → List ℕ → ListsFor ks
lists_of [] s = tt
lists_of (k ∷ ks) s = (items_of k s, lists_of ks (left_after k s))

-- reading the sections in order, then 11 for bytes after the last
unfoldable pub sections_read : (ks : List Section) → List ℕ → Answer (ListsFor ks)
sections_read [] s = guard (leb (length s) 0) 11 (is tt)
sections_read (k ∷ ks) s = and_then (section_read k s) (λ xs. and_then (sections_read ks (left_after k s)) (λ l. is (xs, l)))

-- writing items, one by one: their own reason; then their bytes
unfoldable pub items_written : Section → List ℕ → Answer (List ℕ)
items_written k [] = is []
items_written k (x ∷ xs) = guard (k.good x) (k.reason x) (and_then (items_written k xs) (λ b. is (lay k.width x ++ b)))

-- writing a section: a list's length is its count (10), then its items
unfoldable pub section_written : Section → List ℕ → Answer (List ℕ)
section_written k xs = guard (leb (length xs) k.items) 10 (and_then (items_written k xs) (λ b. is (lay 2 (length xs) ++ b)))

-- writing the sections in order
unfoldable pub sections_written : (ks : List Section) → ListsFor ks → Answer (List ℕ)
sections_written [] l = is []
sections_written (k ∷ ks) l = and_then (section_written k l.0) (λ b. and_then (sections_written ks l.1) (λ c. is (b ++ c)))

-- the bytes of a section, and of sections in order
unfoldable pub lay_section : Section → List ℕ → List ℕ
lay_section k xs = lay 2 (length xs) ++ lay_all k.width xs

unfoldable pub lay_sections : (ks : List Section) → ListsFor ks → List ℕ
lay_sections [] l = []
lay_sections (k ∷ ks) l = lay_section k l.0 ++ lay_sections ks l.1

-- a section whose items lie in one range, with one reason
abbrev pub ranged : Items → Section
ranged k =
    record {
      width = k.width;
      items = k.items;
      good = λ x. within k.least k.most x;
      reason = λ x. reason_number k.reason;
    }

-- "Three sections in fixed order, each after its count: years (2 bytes each), months (4), days (4)": the bytes of an item, the
-- least and the most that it may be, the reason where it is not, and "Each count is at most 1,000". A sheet's years are
-- civil years (W4).
abbrev pub year_items : Items
year_items = record { width = 2; least = 0; most = 41040; reason = NoSuchYear; items = 1000 }

abbrev pub month_items : Items
month_items = record { width = 4; least = 0; most = 507599; reason = NoSuchMonth; items = 1000 }

abbrev pub day_items : Items
day_items = record { width = 4; least = 0; most = 14989859; reason = NoSuchDay; items = 1000 }

abbrev pub sheet_sections : List Section
sheet_sections = ranged year_items ∷ ranged month_items ∷ ranged day_items ∷ []

-- the three lists of a sheet
pub record Lists : Type 0 where
  pub years : List ℕ
  pub months : List ℕ
  pub days : List ℕ

-- "three whole lists"
abbrev pub three_lists : List ℕ → List ℕ → List ℕ → Lists
three_lists y m d = record { years = y; months = m; days = d }

-- the lists of the three sections by their names, and in order
abbrev pub named : ListsFor sheet_sections → Lists
named l = three_lists l.0 l.1.0 l.1.1.0

abbrev pub in_order : Lists → ListsFor sheet_sections
in_order l = (l.years, (l.months, (l.days, tt)))

-- where the months and the days start in a sheet, and the three lists that stand in it
abbrev pub months_part : List ℕ → List ℕ
months_part s = left_after (ranged year_items) s

abbrev pub days_part : List ℕ → List ℕ
days_part s = left_after (ranged month_items) (months_part s)

unfoldable pub lists_in : List ℕ → Lists
lists_in s = named (lists_of sheet_sections s)

-- what a sheet's bytes say, with room enough for the lists
unfoldable pub read_sheet : List ℕ → Answer Lists
read_sheet s = and_then (sections_read sheet_sections s) (λ l. is (named l))

-- three lent lists of y, m and d places hold the lists
abbrev pub room : Lists → ℕ → ℕ → ℕ → Bool
room l y m d = leb (length l.years) y && leb (length l.months) m && leb (length l.days) d

-- reading into three lent lists: 12 last
unfoldable pub read_into : List ℕ → ℕ → ℕ → ℕ → Answer Lists
read_into s y m d = and_then (read_sheet s) (λ l. guard (room l y m d) 12 (is l))

-- the sheet of three lists
unfoldable pub sheet_of : Lists → List ℕ
sheet_of l = lay_sections sheet_sections (in_order l)

unfoldable pub write_sheet : Lists → Answer (List ℕ)
write_sheet l = sections_written sheet_sections (in_order l)

-- writing into a lent buffer of n bytes: 12 last
unfoldable pub write_into : Lists → ℕ → Answer (List ℕ)
write_into l n = and_then (write_sheet l) (λ b. into_room n b)

-- the empty sheet of case 12, the paper's sheet of the civil year 11 alone, and a sheet with two items in each list: the years 11 and 12,
-- the months 123 and 134, the days 28 and 29
abbrev pub empty_sheet : List ℕ
empty_sheet = 0 ∷ 0 ∷ 0 ∷ 0 ∷ 0 ∷ 0 ∷ []

abbrev pub sheet_of11 : List ℕ
sheet_of11 = 1 ∷ 0 ∷ 11 ∷ 0 ∷ 0 ∷ 0 ∷ 0 ∷ 0 ∷ []

abbrev pub sheet_of_twos : List ℕ
sheet_of_twos =
    (2 ∷ 0 ∷ 11 ∷ 0 ∷ 12 ∷ 0 ∷ [])
    ++ ((2 ∷ 0 ∷ 123 ∷ 0 ∷ 0 ∷ 0 ∷ 134 ∷ 0 ∷ 0 ∷ 0 ∷ []) ++ (2 ∷ 0 ∷ 28 ∷ 0 ∷ 0 ∷ 0 ∷ 29 ∷ 0 ∷ 0 ∷ 0 ∷ []))
