-- The first fault of a sheet in byte order, and of lists to be written, with its reason; and what is good, where there is none.
-- Assumes nothing.
use Rattle.std.specs.Prelude.{ℕ, zero, suc, ◌≤◌, ◌≡◌, true, List, [], ◌∷◌, length, drop}
use Rattle.octets.specs.Bytes.{number}
use Rattle.sheet.specs.Sheet.{Section, count_of, left_after, ListsFor, sheet_sections, Lists, in_order, lists_in, sheet_of}

-- a row of the paper's table: what it asks for, P, does not hold, and the reason r is its number k
pub record Row (P : Type 0) (k r : ℕ) : Type 0 where
  pub fails : P → ⊥
  pub reason : r ≡ k

-- the first fault of two things in order: it is one of the first; or the first is good, and it is one of the second
pub data First (Fault : ℕ → Type 0) (Good : Type 0) (Later : ℕ → Type 0) (r : ℕ) : Type 0 where
  here : Fault r → First Fault Good Later r
  later : Good → Later r → First Fault Good Later r

-- where there is nothing, there is no fault
abbrev pub NoFault : ℕ → Type 0
NoFault r = ⊥

-- an item at the front of s: it is whole (9), then it is good (its section's own reason)
abbrev pub WholeItem : Section → List ℕ → Type 0
WholeItem k s = k.width ≤ length s

abbrev pub GoodValue : Section → ℕ → Type 0
GoodValue k x = k.good x ≡ true

abbrev pub ValueFault : Section → ℕ → ℕ → Type 0
ValueFault k x = Row (GoodValue k x) (k.reason x)

abbrev pub GoodItem : Section → List ℕ → Type 0
GoodItem k s = WholeItem k s × GoodValue k (number k.width s)

abbrev pub ItemFault : Section → List ℕ → ℕ → Type 0
ItemFault k s = First (Row (WholeItem k s) 9) (WholeItem k s) (ValueFault k (number k.width s))

-- n items, one after the other
unfoldable pub GoodItems : Section → ℕ → List ℕ → Type 0
GoodItems k zero s = Unit {0}
GoodItems k (suc n) s = GoodItem k s × GoodItems k n (drop k.width s)

unfoldable pub ItemsFault : Section → ℕ → List ℕ → ℕ → Type 0
ItemsFault k zero s = NoFault
ItemsFault k (suc n) s = First (ItemFault k s) (GoodItem k s) (ItemsFault k n (drop k.width s))

-- a count: it is whole (9), then "a count above 1,000" (10)
abbrev pub GoodCount : Section → List ℕ → Type 0
GoodCount k s = (2 ≤ length s) × (count_of s ≤ k.items)

abbrev pub CountFault : Section → List ℕ → ℕ → Type 0
CountFault k s = First (Row (2 ≤ length s) 9) (2 ≤ length s) (Row (count_of s ≤ k.items) 10)

-- a section: its count, then its items
abbrev pub GoodSection : Section → List ℕ → Type 0
GoodSection k s = GoodCount k s × GoodItems k (count_of s) (drop 2 s)

abbrev pub SectionFault : Section → List ℕ → ℕ → Type 0
SectionFault k s = First (CountFault k s) (GoodCount k s) (ItemsFault k (count_of s) (drop 2 s))

-- sections, each starting where the one before it ended; at the end "bytes after the last section" (11)
unfoldable pub GoodSections : List Section → List ℕ → Type 0
GoodSections [] s = length s ≤ 0
GoodSections (k ∷ ks) s = GoodSection k s × GoodSections ks (left_after k s)

unfoldable pub SectionsFault : List Section → List ℕ → ℕ → Type 0
SectionsFault [] s = Row (length s ≤ 0) 11
SectionsFault (k ∷ ks) s = First (SectionFault k s) (GoodSection k s) (SectionsFault ks (left_after k s))

-- a sheet that is to be read into three lent lists of y, m and d places: its sections, then room for their lists (12)
abbrev pub HasRoom : Lists → ℕ → ℕ → ℕ → Type 0
HasRoom l y m d = (length l.years ≤ y) × (length l.months ≤ m) × (length l.days ≤ d)

abbrev pub GoodSheet : List ℕ → ℕ → ℕ → ℕ → Type 0
GoodSheet s y m d = GoodSections sheet_sections s × HasRoom (lists_in s) y m d

abbrev pub SheetFault : List ℕ → ℕ → ℕ → ℕ → ℕ → Type 0
SheetFault s y m d = First (SectionsFault sheet_sections s) (GoodSections sheet_sections s) (Row (HasRoom (lists_in s) y m d) 12)

-- a list to be written: its length (10), then item by item
unfoldable pub GoodValues : Section → List ℕ → Type 0
GoodValues k [] = Unit {0}
GoodValues k (x ∷ xs) = GoodValue k x × GoodValues k xs

unfoldable pub ValuesFault : Section → List ℕ → ℕ → Type 0
ValuesFault k [] = NoFault
ValuesFault k (x ∷ xs) = First (ValueFault k x) (GoodValue k x) (ValuesFault k xs)

abbrev pub GoodList : Section → List ℕ → Type 0
GoodList k xs = (length xs ≤ k.items) × GoodValues k xs

abbrev pub ListFault : Section → List ℕ → ℕ → Type 0
ListFault k xs = First (Row (length xs ≤ k.items) 10) (length xs ≤ k.items) (ValuesFault k xs)

-- a list for each section
unfoldable pub GoodEach : (ks : List Section) → ListsFor ks → Type 0
GoodEach [] l = Unit {0}
GoodEach (k ∷ ks) l = GoodList k l.0 × GoodEach ks l.1

unfoldable pub EachFault : (ks : List Section) → ListsFor ks → ℕ → Type 0
EachFault [] l = NoFault
EachFault (k ∷ ks) l = First (ListFault k l.0) (GoodList k l.0) (EachFault ks l.1)

-- three lists that are to be written into a lent buffer of n bytes: the lists, then room for their sheet (12)
abbrev pub GoodLists : Lists → Type 0
GoodLists l = GoodEach sheet_sections (in_order l)

abbrev pub ListsFault : Lists → ℕ → ℕ → Type 0
ListsFault l n = First (EachFault sheet_sections (in_order l)) (GoodLists l) (Row (length (sheet_of l) ≤ n) 12)
