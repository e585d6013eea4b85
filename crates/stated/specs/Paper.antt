-- What the paper says of the sheet, as statements. proofs/Paper.antt proves each under the same name in small letters.
-- Assumes nothing.
use Rattle.std.specs.Prelude.{Result, Ok, Err, ℕ, ◌+◌, ◌*◌, ◌/◌, ◌%◌, ◌≤◌, ◌<◌, ◌≡◌, ◌↔◌, true, List, [], ◌∷◌, ◌++◌, length, get_or, take, drop, replicate}
use Rattle.rule.specs.Reasons.{reason_number}
use Rattle.rule.specs.declared.Reason.{Reason}
use Rattle.rule.specs.declared.Reason.TheVariants.{SheetEndsEarly, BytesAfterLast}
use Rattle.rule.specs.Lists.{placed}
use Rattle.sheet.specs.declared.Counted.{Counted}
use Rattle.octets.specs.Bytes.{number, lay}
use Rattle.sheet.specs.Sheet.{
  Section,
  ranged,
  year_items,
  month_items,
  day_items,
  sheet_sections,
  Lists,
  three_lists,
  lists_in,
  sheet_of,
  empty_sheet,
  sheet_of11,
  sheet_of_twos,
}
use Rattle.sheet.specs.Faults.{GoodSheet, SheetFault, GoodLists, ListsFault}
use Rattle.sheet.specs.Promises.{counted, counts_are, counts_in, ReadSheet, WriteSheet, RestKept}

-- "Numbers are least byte first", of the two bytes of a year or a count and the four of a month or a day, read from the front of
-- what is left, and laid
pub record LeastByteFirst : Type 0 where
  pub two : (a b : ℕ) (left : List ℕ) → number 2 (a ∷ b ∷ left) ≡ a + 256 * b
  pub four : (a b c d : ℕ) (left : List ℕ) → number 4 (a ∷ b ∷ c ∷ d ∷ left) ≡ a + 256 * b + 65536 * c + 16777216 * d
  pub laid-in-two : (x : ℕ) → lay 2 x ≡ (x % 256) ∷ (x / 256 % 256) ∷ []
  pub laid-in-four : (x : ℕ) → lay 4 x ≡ (x % 256) ∷ (x / 256 % 256) ∷ (x / 256 / 256 % 256) ∷ (x / 256 / 256 / 256 % 256) ∷ []

-- the numbers of a list of bytes
abbrev pub AreBytes : List ℕ → Type 0
AreBytes s = (i : ℕ) → get_or s i 0 < 256

-- "each section starts where the one before it ended": where the months and the days start in a sheet with the counts c, and
-- where the sheet ends
abbrev pub months_from : Counted → ℕ
months_from c = 2 + 2 * c.years

abbrev pub days_from : Counted → ℕ
days_from c = months_from c + (2 + 4 * c.months)

abbrev pub end_of : Counted → ℕ
end_of c = days_from c + (2 + 4 * c.days)

-- "item by item", of a section that starts at a place of the bytes s: its count n stands there, and item j of the list xs is
-- the number that stands at its own place, w bytes to an item
pub record StandsAt (s : List ℕ) (from w n : ℕ) (xs : List ℕ) : Type 0 where
  pub count : number 2 (drop from s) ≡ n
  pub item : (j : ℕ) → j < n → get_or xs j 0 ≡ number w (drop (from + 2 + w * j) s)

-- the same of a section that is written: the bytes at each place are those of the count, and those of item j
pub record LaidAt (o : List ℕ) (from w : ℕ) (xs : List ℕ) : Type 0 where
  pub count : take 2 (drop from o) ≡ lay 2 (length xs)
  pub item : (j : ℕ) → j < length xs → take w (drop (from + 2 + w * j) o) ≡ lay w (get_or xs j 0)

pub record ReadByItem (s : List ℕ) (c : Counted) (y m d : List ℕ) : Type 0 where
  pub years : StandsAt s 0 2 c.years y
  pub months : StandsAt s (months_from c) 4 c.months m
  pub days : StandsAt s (days_from c) 4 c.days d
  pub end : length s ≡ end_of c

pub record WrittenByItem (y m d : List ℕ) (c : Counted) (n : ℕ) (o : List ℕ) : Type 0 where
  pub years : LaidAt o 0 2 y
  pub months : LaidAt o (months_from c) 4 m
  pub days : LaidAt o (days_from c) 4 d
  pub end : n ≡ end_of c

pub record ItemByItem : Type 0 where
  pub read-sheet :
      (s y m d y' m' d' : List ℕ) (c : Counted) → ReadSheet s y m d (Ok c) y' m' d' → ReadByItem s c y' m' d'
  pub write-sheet :
      (y m d o o' : List ℕ) (n : ℕ) → WriteSheet y m d o (Ok n) o' →
      WrittenByItem y m d (counts_are (length y) (length m) (length d)) n o'

-- reading what was written gives the three lists back, and writing what was read gives the bytes back: the bytes that a call
-- wrote, read into lists with room, and the items that a call read, written into a buffer with room
pub record ReadBack (y m d y₀ m₀ d₀ : List ℕ) (r : Result Counted Reason) (y' m' d' : List ℕ) : Type 0 where
  pub answer : r ≡ Ok (counts_are (length y) (length m) (length d))
  pub years : y' ≡ placed y y₀
  pub months : m' ≡ placed m m₀
  pub days : d' ≡ placed d d₀

abbrev pub CallsThereAndBack : Type 0
CallsThereAndBack =
    (y m d o o' y₀ m₀ d₀ y' m' d' : List ℕ) (n : ℕ) (r : Result Counted Reason) →
    WriteSheet y m d o (Ok n) o' → ReadSheet (take n o') y₀ m₀ d₀ r y' m' d' →
    length y ≤ length y₀ → length m ≤ length m₀ → length d ≤ length d₀ →
    ReadBack y m d y₀ m₀ d₀ r y' m' d'

abbrev pub CallsBackAndThere : Type 0
CallsBackAndThere =
    (s y₀ m₀ d₀ y' m' d' o o' : List ℕ) (c : Counted) (r : Result ℕ Reason) → AreBytes s →
    ReadSheet s y₀ m₀ d₀ (Ok c) y' m' d' →
    WriteSheet (take c.years y') (take c.months m') (take c.days d') o r o' →
    length s ≤ length o → (r ≡ Ok (length s)) × (o' ≡ placed s o)

-- a section of items of w bytes, each from the least to the most, or else reason r; "Each count is at most 1,000"
pub record SectionIs (k : Section) (w least most r : ℕ) : Type 0 where
  pub bytes : k.width ≡ w
  pub counts : k.items ≡ 1000
  pub good : (x : ℕ) → (k.good x ≡ true) ↔ ((least ≤ x) × (x ≤ most))
  pub reason : (x : ℕ) → k.reason x ≡ r

-- "Three sections in fixed order": the years, the months, the days; "years (2 bytes each), months (4), days (4)": what each asks of
-- an item, and its reason, 1, 7 or 6
pub record SectionsLiterally : Type 0 where
  pub order : sheet_sections ≡ ranged year_items ∷ ranged month_items ∷ ranged day_items ∷ []
  pub years : SectionIs (ranged year_items) 2 0 41040 1
  pub months : SectionIs (ranged month_items) 4 0 507599 7
  pub days : SectionIs (ranged day_items) 4 0 14989859 6

-- each reason if and only if its row holds and no earlier fault does (`SheetFault`: the first fault in byte order); and the sheet's
-- own counts and items if and only if there is no fault
pub record SheetReasons (s y m d : List ℕ) : Type 0 where
  pub reason :
      (why : Reason) →
      ReadSheet s y m d (Err why) y m d ↔ SheetFault s (length y) (length m) (length d) (reason_number why)
  pub given :
      ReadSheet s y m d (Ok (counts_in s)) (placed (lists_in s).years y) (placed (lists_in s).months m) (placed (lists_in s).days d)
      ↔ GoodSheet s (length y) (length m) (length d)

abbrev pub ReasonsOfASheet : Type 0
ReasonsOfASheet = (s y m d : List ℕ) → SheetReasons s y m d

-- the same of lists to be written
pub record ListsReasons (y m d o : List ℕ) : Type 0 where
  pub reason :
      (why : Reason) → WriteSheet y m d o (Err why) o ↔ ListsFault (three_lists y m d) (length o) (reason_number why)
  pub given :
      WriteSheet y m d o (Ok (length (sheet_of (three_lists y m d)))) (placed (sheet_of (three_lists y m d)) o)
      ↔ (GoodLists (three_lists y m d) × (length (sheet_of (three_lists y m d)) ≤ length o))

abbrev pub ReasonsOfLists : Type 0
ReasonsOfLists = (y m d o : List ℕ) → ListsReasons y m d o

-- s is a sheet of the three lists l: bytes that are read as l, into any lists with room for them
pub record IsSheetOf (l : Lists) (s : List ℕ) : Type 0 where
  pub bytes : AreBytes s
  pub reads :
      (y m d : List ℕ) → length l.years ≤ length y → length l.months ≤ length m → length l.days ≤ length d →
      ReadSheet s y m d (Ok (counted l)) (placed l.years y) (placed l.months m) (placed l.days d)

-- "One set of three lists has one sheet": there is one, and there is no other
abbrev pub OneSheet : Type 0
OneSheet = (l : Lists) → GoodLists l → (s : List ℕ) × IsSheetOf l s × ((t : List ℕ) → IsSheetOf l t → t ≡ s)

-- "the longest sheet has 10,006 bytes": none has more, and one has as many
pub record LongestSheet : Type 0 where
  pub none-longer : (s : List ℕ) (l : Lists) → IsSheetOf l s → length s ≤ 10006
  pub one-so-long : (s : List ℕ) × (l : Lists) × IsSheetOf l s × (length s ≡ 10006)

-- bytes cut off the end of any sheet give 9, and bytes added to it 11, whatever lists are lent
abbrev pub CutOff : Type 0
CutOff =
    (s : List ℕ) (b : ℕ) (t : List ℕ) (l : Lists) → IsSheetOf l (s ++ (b ∷ t)) →
    (y m d y' m' d' : List ℕ) (r : Result Counted Reason) → ReadSheet s y m d r y' m' d' → r ≡ Err SheetEndsEarly

abbrev pub Added : Type 0
Added =
    (s : List ℕ) (b : ℕ) (t : List ℕ) (l : Lists) → IsSheetOf l s →
    (y m d y' m' d' : List ℕ) (r : Result Counted Reason) → ReadSheet (s ++ (b ∷ t)) y m d r y' m' d' → r ≡ Err BytesAfterLast

-- "All lent memory stays as before the call": a refused call changes nothing
pub record RefusalChangesNothing : Type 0 where
  pub read-sheet :
      (s y m d y' m' d' : List ℕ) (why : Reason) → ReadSheet s y m d (Err why) y' m' d' →
      (y' ≡ y) × (m' ≡ m) × (d' ≡ d)
  pub write-sheet : (y m d o o' : List ℕ) (why : Reason) → WriteSheet y m d o (Err why) o' → o' ≡ o

-- "Both leave places beyond what they fill untouched"
pub record RestUntouched : Type 0 where
  pub read-sheet :
      (s y m d y' m' d' : List ℕ) (c : Counted) → ReadSheet s y m d (Ok c) y' m' d' →
      RestKept c.years y y' × RestKept c.months m m' × RestKept c.days d d'
  pub write-sheet : (y m d o o' : List ℕ) (n : ℕ) → WriteSheet y m d o (Ok n) o' → RestKept n o o'

-- each promise leaves one answer and one state of lent memory
abbrev pub UniqueReadSheet : Type 0
UniqueReadSheet =
    (s y m d : List ℕ) (a b : Result Counted Reason) (y₁ m₁ d₁ y₂ m₂ d₂ : List ℕ) →
    ReadSheet s y m d a y₁ m₁ d₁ → ReadSheet s y m d b y₂ m₂ d₂ →
    (a ≡ b) × (y₁ ≡ y₂) × (m₁ ≡ m₂) × (d₁ ≡ d₂)

abbrev pub UniqueWriteSheet : Type 0
UniqueWriteSheet =
    (y m d o : List ℕ) (a b : Result ℕ Reason) (o₁ o₂ : List ℕ) →
    WriteSheet y m d o a o₁ → WriteSheet y m d o b o₂ → (a ≡ b) × (o₁ ≡ o₂)

-- case 12: "three zero counts"
abbrev pub EmptySheet : Type 0
EmptySheet =
    (y m d y' m' d' : List ℕ) (r : Result Counted Reason) → ReadSheet empty_sheet y m d r y' m' d' → r ≡ Ok (counts_are 0 0 0)

-- what a call may do that reads the sheet of twos into lists of two noughts
abbrev pub ReadTwos : Result Counted Reason → List ℕ → List ℕ → List ℕ → Type 0
ReadTwos = ReadSheet sheet_of_twos (0 ∷ 0 ∷ []) (0 ∷ 0 ∷ []) (0 ∷ 0 ∷ [])

-- a sheet of the month 507,600 alone, which is past the last, and one of the day 507,600 alone, which is there
abbrev pub sheet_past_months : List ℕ
sheet_past_months = 0 ∷ 0 ∷ 1 ∷ 0 ∷ 208 ∷ 190 ∷ 7 ∷ 0 ∷ 0 ∷ 0 ∷ []

-- the sheet of civil year 0 alone
abbrev pub sheet_of_year0 : List ℕ
sheet_of_year0 = 1 ∷ 0 ∷ 0 ∷ 0 ∷ 0 ∷ 0 ∷ 0 ∷ 0 ∷ []

abbrev pub sheet_of_a_day : List ℕ
sheet_of_a_day = 0 ∷ 0 ∷ 0 ∷ 0 ∷ 1 ∷ 0 ∷ 208 ∷ 190 ∷ 7 ∷ 0 ∷ []

-- wrong versions, each shut out at a named input: refusing all, filling no list, copying the first item over the rest, leaving out
-- the rest, months and days in each other's place, and civil year 0 refused, as it was before W4
pub record WrongSheets : Type 0 where
  pub refusing-all : (why : Reason) (y m d : List ℕ) → ReadSheet empty_sheet [] [] [] (Err why) y m d → ⊥
  pub filling-none : (a : Result Counted Reason) (m d : List ℕ) → ReadSheet sheet_of11 (0 ∷ []) [] [] a (0 ∷ []) m d → ⊥
  pub copying-first-year : (a : Result Counted Reason) (m d : List ℕ) → ReadTwos a (11 ∷ 11 ∷ []) m d → ⊥
  pub copying-first-month : (a : Result Counted Reason) (y d : List ℕ) → ReadTwos a y (123 ∷ 123 ∷ []) d → ⊥
  pub copying-first-day : (a : Result Counted Reason) (y m : List ℕ) → ReadTwos a y m (28 ∷ 28 ∷ []) → ⊥
  pub first-year-alone : (a : Result Counted Reason) (m d : List ℕ) → ReadTwos a (11 ∷ 0 ∷ []) m d → ⊥
  pub first-month-alone : (a : Result Counted Reason) (y d : List ℕ) → ReadTwos a y (123 ∷ 0 ∷ []) d → ⊥
  pub first-day-alone : (a : Result Counted Reason) (y m : List ℕ) → ReadTwos a y m (28 ∷ 0 ∷ []) → ⊥
  pub month-as-a-day : (c : Counted) (y m d : List ℕ) → ReadSheet sheet_past_months [] (0 ∷ []) [] (Ok c) y m d → ⊥
  pub day-as-a-month : (why : Reason) (y m d : List ℕ) → ReadSheet sheet_of_a_day [] [] (0 ∷ []) (Err why) y m d → ⊥
  pub year-0-refused : (why : Reason) (y m d : List ℕ) → ReadSheet sheet_of_year0 (5 ∷ []) [] [] (Err why) y m d → ⊥

-- what a call may do that writes two years, two months or two days into a buffer of noughts
abbrev pub WriteYears : Result ℕ Reason → List ℕ → Type 0
WriteYears = WriteSheet (11 ∷ 12 ∷ []) [] [] (replicate 10 0)

abbrev pub WriteMonths : Result ℕ Reason → List ℕ → Type 0
WriteMonths = WriteSheet [] (123 ∷ 134 ∷ []) [] (replicate 14 0)

abbrev pub WriteDays : Result ℕ Reason → List ℕ → Type 0
WriteDays = WriteSheet [] [] (28 ∷ 29 ∷ []) (replicate 14 0)

pub record WrongWritings : Type 0 where
  pub refusing-all : (why : Reason) (o : List ℕ) → WriteSheet [] [] [] (replicate 6 0) (Err why) o → ⊥
  pub filling-none : (a : Result ℕ Reason) → WriteSheet (11 ∷ []) [] [] (replicate 8 0) a (replicate 8 0) → ⊥
  pub copying-first-year : (a : Result ℕ Reason) → WriteYears a (2 ∷ 0 ∷ 11 ∷ 0 ∷ 11 ∷ 0 ∷ 0 ∷ 0 ∷ 0 ∷ 0 ∷ []) → ⊥
  pub copying-first-month : (a : Result ℕ Reason) → WriteMonths a (0 ∷ 0 ∷ 2 ∷ 0 ∷ 123 ∷ 0 ∷ 0 ∷ 0 ∷ 123 ∷ 0 ∷ 0 ∷ 0 ∷ 0 ∷ 0 ∷ []) → ⊥
  pub copying-first-day : (a : Result ℕ Reason) → WriteDays a (0 ∷ 0 ∷ 0 ∷ 0 ∷ 2 ∷ 0 ∷ 28 ∷ 0 ∷ 0 ∷ 0 ∷ 28 ∷ 0 ∷ 0 ∷ 0 ∷ []) → ⊥
  pub first-year-alone : (a : Result ℕ Reason) → WriteYears a (2 ∷ 0 ∷ 11 ∷ 0 ∷ 0 ∷ 0 ∷ 0 ∷ 0 ∷ 0 ∷ 0 ∷ []) → ⊥
  pub first-month-alone : (a : Result ℕ Reason) → WriteMonths a (0 ∷ 0 ∷ 2 ∷ 0 ∷ 123 ∷ 0 ∷ 0 ∷ 0 ∷ 0 ∷ 0 ∷ 0 ∷ 0 ∷ 0 ∷ 0 ∷ []) → ⊥
  pub first-day-alone : (a : Result ℕ Reason) → WriteDays a (0 ∷ 0 ∷ 0 ∷ 0 ∷ 2 ∷ 0 ∷ 28 ∷ 0 ∷ 0 ∷ 0 ∷ 0 ∷ 0 ∷ 0 ∷ 0 ∷ []) → ⊥
  pub month-as-a-day : (n : ℕ) (o : List ℕ) → WriteSheet [] (507600 ∷ []) [] (replicate 10 0) (Ok n) o → ⊥
  pub day-as-a-month : (why : Reason) (o : List ℕ) → WriteSheet [] [] (507600 ∷ []) (replicate 10 0) (Err why) o → ⊥
  pub year-0-refused : (why : Reason) (o : List ℕ) → WriteSheet (0 ∷ []) [] [] (replicate 8 0) (Err why) o → ⊥
