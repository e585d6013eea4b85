-- What the request "Readings in the sheet" says, as statements. proofs/Paper.antt, and of the wrong versions
-- proofs/Wrong.antt, proves each under the same name in small letters. Assumes nothing.
use Rattle.reading.specs.declared.SearchError.{SearchError}
use Rattle.reading.specs.declared.SearchError.TheVariants.{Refused}
use Rattle.std.specs.Prelude.{Result, Ok, Err, ℕ, suc, ◌+◌, ◌*◌, ◌≤◌, ◌<◌, ◌≡◌, ◌↔◌, true, false, List, [], ◌∷◌, ◌++◌, length, get_or, take, drop, replicate}
use Rattle.rule.specs.Reasons.{reason_number}
use Rattle.rule.specs.Lists.{placed}
use Rattle.rule.specs.declared.Reason.{Reason}
use Rattle.rule.specs.declared.Reason.TheVariants.{SheetEndsEarly, BytesAfterLast, LentTooShort, BadWindow, FieldOutOfRange, ReadingsPresent}
use Rattle.reading.specs.declared.Field.TheVariants.{Known, Unread}
use Rattle.reading.specs.Readings.{mark_number}
use Rattle.reading.specs.Search.{Searched}
use Rattle.octets.specs.Bytes.{number}
use Rattle.sheet.specs.declared.Counted.{Counted}
use Rattle.sheet.specs.Sheet.{ranged, year_items, month_items, day_items, sheet_sections, Lists, empty_sheet}
use Rattle.sheet.specs.Faults.{ValueFault, GoodSections, HasRoom, GoodLists}
use Rattle.sheet.specs.Promises.{counted, ReadSheet, RestKept}
use Rattle.stated.specs.Paper.{AreBytes, StandsAt, months_from, days_from, end_of}
use Rattle.newsheet.specs.declared.FourCounts.{FourCounts}
use Rattle.newsheet.specs.New.{eight_of, eights, field_by, reading_in, first_in, last_in, reading_section, new_sections, four_in}
use Rattle.newsheet.specs.Faults.{
  GoodReading,
  ReadingFault,
  GoodNew,
  NewFault,
  GoodToNew,
  ToNewFault,
  GoodToOld,
  ToOldFault,
  GoodEights,
}
use Rattle.newsheet.specs.Promises.{four_counts_in, ReadNew, ToNew, ToOld}

-- "after the days a fourth section, a count of at most 500, then 14 bytes each", and what it asks of an item, by its eight numbers: each reason
-- if and only if its row holds and no earlier one's does
pub record FourthSectionLiterally : Type 0 where
  pub order : new_sections ≡ ranged year_items ∷ ranged month_items ∷ ranged day_items ∷ reading_section ∷ []
  pub bytes : reading_section.width ≡ 14
  pub counts : reading_section.items ≡ 500
  pub good : (x : ℕ) → (reading_section.good x ≡ true) ↔ GoodReading (eight_of x)
  pub reason : (x r : ℕ) → ValueFault reading_section x r ↔ ReadingFault (eight_of x) r

-- "the six fields of a reading, one byte each, then first and last day of the window, 4 bytes each, least byte first": the eight numbers of the
-- item at the front of bytes
abbrev pub EightLiterally : Type 0
EightLiterally =
    (s : List ℕ) → AreBytes s → 14 ≤ length s →
    eight_of (number 14 s)
    ≡ get_or s 0 0
    ∷ get_or s 1 0
    ∷ get_or s 2 0
    ∷ get_or s 3 0
    ∷ get_or s 4 0
    ∷ get_or s 5 0
    ∷ number 4 (drop 6 s)
    ∷ number 4 (drop 10 s)
    ∷ []

-- "Zero means unread", and a number that is not 0 is known
pub record UnreadLiterally : Type 0 where
  pub zero : field_by 0 ≡ Unread
  pub other : (k : ℕ) → field_by (suc k) ≡ Known (suc k)

-- "the six fields" in the reading's order, then its window; "for the leap mark, 1 is ordinary and 2 leap", as a search has them
pub record ReadingLiterally : Type 0 where
  pub fields :
      (a b c d e f first last : ℕ) →
      reading_in (a ∷ b ∷ c ∷ d ∷ e ∷ f ∷ first ∷ last ∷ [])
      ≡ record {
        year_name = field_by a;
        month_number = field_by b;
        leap_mark = field_by c;
        day_of_month = field_by d;
        day_name = field_by e;
        first_name = field_by f;
      }
  pub window :
      (a b c d e f first last : ℕ) →
      (first_in (a ∷ b ∷ c ∷ d ∷ e ∷ f ∷ first ∷ last ∷ []) ≡ first) × (last_in (a ∷ b ∷ c ∷ d ∷ e ∷ f ∷ first ∷ last ∷ []) ≡ last)
  pub ordinary : field_by 1 ≡ Known (mark_number false)
  pub leap : field_by 2 ≡ Known (mark_number true)

-- a reading's 6, 13 and 14 are the search's own: the search of eight numbers comes back with just the reason that a sheet with them has
abbrev pub TestsOfTheSearch : Type 0
TestsOfTheSearch =
    (v old new : List ℕ) (a : Result ℕ SearchError) (why : Reason) → Searched (reading_in v) (first_in v) (last_in v) old a new →
    (a ≡ Err (Refused why)) ↔ ReadingFault v (reason_number why)

-- what the four lists hold, item by item: where each section stands, and of reading j the number in each place
abbrev pub readings_from : FourCounts → ℕ
readings_from c = end_of c.three

pub record ReadNewByItem (s : List ℕ) (c : FourCounts) (y m d n : List ℕ) : Type 0 where
  pub years : StandsAt s 0 2 c.three.years y
  pub months : StandsAt s (months_from c.three) 4 c.three.months m
  pub days : StandsAt s (days_from c.three) 4 c.three.days d
  pub count : number 2 (drop (readings_from c) s) ≡ c.readings
  pub field : (j i : ℕ) → j < c.readings → i < 6 → get_or n (8 * j + i) 0 ≡ get_or s (readings_from c + 2 + 14 * j + i) 0
  pub first : (j : ℕ) → j < c.readings → get_or n (8 * j + 6) 0 ≡ number 4 (drop (readings_from c + 2 + 14 * j + 6) s)
  pub last : (j : ℕ) → j < c.readings → get_or n (8 * j + 7) 0 ≡ number 4 (drop (readings_from c + 2 + 14 * j + 10) s)
  pub end : length s ≡ readings_from c + 2 + 14 * c.readings

abbrev pub NumberByNumber : Type 0
NumberByNumber =
    (s y m d n y' m' d' n' : List ℕ) (c : FourCounts) → AreBytes s → ReadNew s y m d n (Ok c) y' m' d' n' →
    ReadNewByItem s c y' m' d' n'

-- each reason if and only if its row holds and no earlier fault does; and what is given if and only if there is no fault
pub record NewReasons (s y m d n : List ℕ) : Type 0 where
  pub reason :
      (why : Reason) →
      ReadNew s y m d n (Err why) y m d n ↔ NewFault s (length y) (length m) (length d) (length n) (reason_number why)
  pub given :
      ReadNew s y m d n (Ok (four_counts_in s)) (placed (four_in s).three.years y) (placed (four_in s).three.months m)
      (placed (four_in s).three.days d) (placed (eights (four_in s).readings) n)
      ↔ GoodNew s (length y) (length m) (length d) (length n)

abbrev pub ReasonsOfANewSheet : Type 0
ReasonsOfANewSheet = (s y m d n : List ℕ) → NewReasons s y m d n

-- the same of the conversions: "The bytes of a sheet that is converted are checked as when it is read"; 17 "after all faults of the sheet"; 12 last
pub record ReasonsOfConverting : Type 0 where
  pub to-new : (s o : List ℕ) (why : Reason) → ToNew s o (Err why) o ↔ ToNewFault s (length o) (reason_number why)
  pub to-new-given : (s o : List ℕ) → ToNew s o (Ok (length s + 2)) (placed (s ++ (0 ∷ 0 ∷ [])) o) ↔ GoodToNew s (length o)
  pub to-old : (s o : List ℕ) (why : Reason) → ToOld s o (Err why) o ↔ ToOldFault s (length o) (reason_number why)
  pub to-old-given :
      (s t o : List ℕ) → s ≡ t ++ (0 ∷ 0 ∷ []) → ToOld s o (Ok (length t)) (placed t o) ↔ GoodToOld s (length o)

-- "old to new and back gives the same bytes, and new to old and back without readings": the bytes that one call wrote, given to the other
abbrev pub ConvertedThereAndBack : Type 0
ConvertedThereAndBack =
    (s o o' p p' : List ℕ) (n : ℕ) (r : Result ℕ Reason) → AreBytes s → ToNew s o (Ok n) o' → ToOld (take n o') p r p' →
    length s ≤ length p → (r ≡ Ok (length s)) × (p' ≡ placed s p)

abbrev pub ConvertedBackAndThere : Type 0
ConvertedBackAndThere =
    (s o o' p p' : List ℕ) (n : ℕ) (r : Result ℕ Reason) → AreBytes s → ToOld s o (Ok n) o' → ToNew (take n o') p r p' →
    length s ≤ length p → (r ≡ Ok (length s)) × (p' ≡ placed s p)

-- the converted sheet says what the sheet said: the same three lists, and no readings
pub record ReadAlike (c : Counted) (y' m' d' n : List ℕ) (r : Result FourCounts Reason) (y'' m'' d'' n'' : List ℕ) : Type 0 where
  pub answer : r ≡ Ok (record { three = c; readings = 0 })
  pub years : y'' ≡ y'
  pub months : m'' ≡ m'
  pub days : d'' ≡ d'
  pub readings : n'' ≡ n

abbrev pub ConvertedReadsAlike : Type 0
ConvertedReadsAlike =
    (s o o' y m d n y' m' d' y'' m'' d'' n'' : List ℕ) (k : ℕ) (c : Counted) (r : Result FourCounts Reason) → AreBytes s →
    ToNew s o (Ok k) o' → ReadSheet s y m d (Ok c) y' m' d' → ReadNew (take k o') y m d n r y'' m'' d'' n'' →
    ReadAlike c y' m' d' n r y'' m'' d'' n''

-- "A reader of the old form meeting a faultless sheet of the new one refuses with 11": every such sheet, also with no readings, whatever lists
-- are lent; by its sections, and by a call that reads it. And a reader of the new form meeting a faultless sheet of the old one refuses with 9
pub record ReadersOfTheOtherForm : Type 0 where
  pub old-reader :
      (s : List ℕ) → GoodSections new_sections s →
      (y m d y' m' d' : List ℕ) (r : Result Counted Reason) → ReadSheet s y m d r y' m' d' → r ≡ Err BytesAfterLast
  pub old-reader-of-what-is-read :
      (s y m d n y' m' d' n' : List ℕ) (c : FourCounts) → ReadNew s y m d n (Ok c) y' m' d' n' →
      (y₀ m₀ d₀ y₁ m₁ d₁ : List ℕ) (r : Result Counted Reason) → ReadSheet s y₀ m₀ d₀ r y₁ m₁ d₁ → r ≡ Err BytesAfterLast
  pub new-reader :
      (s : List ℕ) → AreBytes s → GoodSections sheet_sections s →
      (y m d n y' m' d' n' : List ℕ) (r : Result FourCounts Reason) → ReadNew s y m d n r y' m' d' n' → r ≡ Err SheetEndsEarly

-- s is a sheet of the new form of the three lists l and of e, eight numbers for each of k readings: bytes that are read so, into any lists with
-- room for them
pub record IsNewSheetOf (l : Lists) (k : ℕ) (e s : List ℕ) : Type 0 where
  pub bytes : AreBytes s
  pub whole : length e ≡ 8 * k
  pub reads :
      (y m d n : List ℕ) → HasRoom l (length y) (length m) (length d) → length e ≤ length n →
      ReadNew s y m d n (Ok (record { three = counted l; readings = k }))
      (placed l.years y) (placed l.months m) (placed l.days d) (placed e n)

-- "one set of four lists has one sheet of the new form": there is one, and there is no other
abbrev pub OneNewSheet : Type 0
OneNewSheet =
    (l : Lists) (k : ℕ) (e : List ℕ) → GoodLists l → k ≤ 500 → GoodEights k e →
    (s : List ℕ) × IsNewSheetOf l k e s × ((t : List ℕ) → IsNewSheetOf l k e t → t ≡ s)

-- "Its longest sheet has 10,006 + 2 + 7,000 = 17,008 bytes": none has more, and one has as many
pub record LongestNewSheet : Type 0 where
  pub none-longer : (s e : List ℕ) (l : Lists) (k : ℕ) → IsNewSheetOf l k e s → length s ≤ 17008
  pub one-so-long : (s : List ℕ) × (e : List ℕ) × (l : Lists) × IsNewSheetOf l 500 e s × (length s ≡ 17008)

-- a refused call changes nothing that was lent
pub record RefusalChangesNothing : Type 0 where
  pub read-new :
      (s y m d n y' m' d' n' : List ℕ) (why : Reason) → ReadNew s y m d n (Err why) y' m' d' n' →
      (y' ≡ y) × (m' ≡ m) × (d' ≡ d) × (n' ≡ n)
  pub to-new : (s o o' : List ℕ) (why : Reason) → ToNew s o (Err why) o' → o' ≡ o
  pub to-old : (s o o' : List ℕ) (why : Reason) → ToOld s o (Err why) o' → o' ≡ o

-- places beyond what is filled stay untouched
pub record RestUntouched : Type 0 where
  pub read-new :
      (s y m d n y' m' d' n' : List ℕ) (c : FourCounts) → ReadNew s y m d n (Ok c) y' m' d' n' →
      RestKept c.three.years y y' × RestKept c.three.months m m' × RestKept c.three.days d d' × RestKept (8 * c.readings) n n'
  pub to-new : (s o o' : List ℕ) (k : ℕ) → ToNew s o (Ok k) o' → RestKept k o o'
  pub to-old : (s o o' : List ℕ) (k : ℕ) → ToOld s o (Ok k) o' → RestKept k o o'

-- each promise leaves one answer and one state of lent memory
abbrev pub UniqueReadNew : Type 0
UniqueReadNew =
    (s y m d n : List ℕ) (a b : Result FourCounts Reason) (y₁ m₁ d₁ n₁ y₂ m₂ d₂ n₂ : List ℕ) →
    ReadNew s y m d n a y₁ m₁ d₁ n₁ → ReadNew s y m d n b y₂ m₂ d₂ n₂ → (a ≡ b) × (y₁ ≡ y₂) × (m₁ ≡ m₂) × (d₁ ≡ d₂) × (n₁ ≡ n₂)

abbrev pub UniqueToNew : Type 0
UniqueToNew = (s o : List ℕ) (a b : Result ℕ Reason) (o₁ o₂ : List ℕ) → ToNew s o a o₁ → ToNew s o b o₂ → (a ≡ b) × (o₁ ≡ o₂)

abbrev pub UniqueToOld : Type 0
UniqueToOld = (s o : List ℕ) (a b : Result ℕ Reason) (o₁ o₂ : List ℕ) → ToOld s o a o₁ → ToOld s o b o₂ → (a ≡ b) × (o₁ ≡ o₂)

-- named inputs: the sheet of nothing in the new form; the sheet of one reading and of two, by the 14 bytes of each
abbrev pub empty_new : List ℕ
empty_new = 0 ∷ 0 ∷ 0 ∷ 0 ∷ 0 ∷ 0 ∷ 0 ∷ 0 ∷ []

abbrev pub sheet_of_reading : List ℕ → List ℕ
sheet_of_reading v = (0 ∷ 0 ∷ 0 ∷ 0 ∷ 0 ∷ 0 ∷ 1 ∷ 0 ∷ []) ++ v

abbrev pub sheet_of_two_readings : List ℕ → List ℕ → List ℕ
sheet_of_two_readings v w = (0 ∷ 0 ∷ 0 ∷ 0 ∷ 0 ∷ 0 ∷ 2 ∷ 0 ∷ []) ++ (v ++ w)

-- the 14 bytes of a reading by its six fields and the lowest two bytes of the first day and three of the last
abbrev pub bytes_of_reading : (f1 f2 f3 f4 f5 f6 a b c d e : ℕ) → List ℕ
bytes_of_reading f1 f2 f3 f4 f5 f6 a b c d e = f1 ∷ f2 ∷ f3 ∷ f4 ∷ f5 ∷ f6 ∷ a ∷ b ∷ 0 ∷ 0 ∷ c ∷ d ∷ e ∷ 0 ∷ []

-- year name 22, month 1, ordinary, day 9, day name 60, first name 52, from day 258 to day 515; and all unread, from day 0 to day 27,758
abbrev pub known22 : List ℕ
known22 = bytes_of_reading 22 1 1 9 60 52 2 1 3 2 0

abbrev pub unread_bytes : List ℕ
unread_bytes = bytes_of_reading 0 0 0 0 0 0 0 0 110 108 0

-- day 256 alone, all unread
abbrev pub day256 : List ℕ
day256 = bytes_of_reading 0 0 0 0 0 0 0 1 0 1 0

-- month 13, from day 258 to day 515, and the other way round; month 13 with the last day past the range; the first day past it and the last
-- before the first
abbrev pub month13 : List ℕ
month13 = bytes_of_reading 0 13 0 0 0 0 2 1 3 2 0

abbrev pub month13-turned : List ℕ
month13-turned = bytes_of_reading 0 13 0 0 0 0 3 2 2 1 0

abbrev pub month13-past : List ℕ
month13-past = 0 ∷ 13 ∷ 0 ∷ 0 ∷ 0 ∷ 0 ∷ 0 ∷ 0 ∷ 0 ∷ 0 ∷ 0 ∷ 0 ∷ 0 ∷ 1 ∷ []

abbrev pub turned-past : List ℕ
turned-past = 0 ∷ 0 ∷ 0 ∷ 0 ∷ 0 ∷ 0 ∷ 0 ∷ 0 ∷ 0 ∷ 1 ∷ 0 ∷ 0 ∷ 0 ∷ 0 ∷ []

-- the leap bytes 2 and 3
abbrev pub leap_byte : ℕ → List ℕ
leap_byte k = bytes_of_reading 0 0 k 0 0 0 2 1 3 2 0

-- no call that reads one reading, or two, into lists with room for its numbers, which held 7, leaves these
abbrev pub ReadOne : List ℕ → Result FourCounts Reason → List ℕ → Type 0
ReadOne v a n = (y m d : List ℕ) → ReadNew (sheet_of_reading v) [] [] [] (replicate 8 7) a y m d n → ⊥

abbrev pub ReadTwo : List ℕ → List ℕ → Type 0
ReadTwo n w = (a : Result FourCounts Reason) (y m d : List ℕ) → ReadNew (sheet_of_two_readings known22 w) [] [] [] (replicate 16 7) a y m d n → ⊥

-- wrong versions, each shut out at a named input
pub record WrongNewSheets : Type 0 where
  pub refusing-all : (why : Reason) (y m d n : List ℕ) → ReadNew empty_new [] [] [] [] (Err why) y m d n → ⊥
  pub old-sheet-taken-for-new : (c : FourCounts) (y m d n : List ℕ) → ReadNew empty_sheet [] [] [] [] (Ok c) y m d n → ⊥
  pub filling-none : (a : Result FourCounts Reason) → ReadOne known22 a (replicate 8 7)
  pub window-before-the-fields : (a : Result FourCounts Reason) → ReadOne known22 a (258 ∷ 515 ∷ 22 ∷ 1 ∷ 1 ∷ 9 ∷ 60 ∷ 52 ∷ [])
  pub greatest-byte-first : (a : Result FourCounts Reason) → ReadOne day256 a (0 ∷ 0 ∷ 0 ∷ 0 ∷ 0 ∷ 0 ∷ 65536 ∷ 65536 ∷ [])
  pub first-reading-for-all :
      ReadTwo (22 ∷ 1 ∷ 1 ∷ 9 ∷ 60 ∷ 52 ∷ 258 ∷ 515 ∷ 22 ∷ 1 ∷ 1 ∷ 9 ∷ 60 ∷ 52 ∷ 258 ∷ 515 ∷ []) (bytes_of_reading 23 2 2 8 59 51 2 1 3 2 0)
  pub fields-of-the-first-for-all :
      ReadTwo (22 ∷ 1 ∷ 1 ∷ 9 ∷ 60 ∷ 52 ∷ 258 ∷ 515 ∷ 22 ∷ 1 ∷ 1 ∷ 9 ∷ 60 ∷ 52 ∷ 0 ∷ 27758 ∷ []) unread_bytes
  pub first-reading-alone : ReadTwo ((22 ∷ 1 ∷ 1 ∷ 9 ∷ 60 ∷ 52 ∷ 258 ∷ 515 ∷ []) ++ replicate 8 7) unread_bytes
  pub fields-before-the-ends : (n : List ℕ) → ReadOne month13-past (Err FieldOutOfRange) n
  pub fields-before-the-window : (n : List ℕ) → ReadOne month13-turned (Err FieldOutOfRange) n
  pub window-before-the-ends : (n : List ℕ) → ReadOne turned-past (Err BadWindow) n
  pub month-13-let-in : (c : FourCounts) (n : List ℕ) → ReadOne month13 (Ok c) n
  pub leap-byte-3-for-leap : (c : FourCounts) (n : List ℕ) → ReadOne (leap_byte 3) (Ok c) n
  pub leap-byte-2-refused : (why : Reason) (n : List ℕ) → ReadOne (leap_byte 2) (Err why) n
  pub unread-refused : (why : Reason) (n : List ℕ) → ReadOne unread_bytes (Err why) n
  pub up-to-1000-readings : (y m d n : List ℕ) →
      ReadNew (0 ∷ 0 ∷ 0 ∷ 0 ∷ 0 ∷ 0 ∷ 245 ∷ 1 ∷ []) [] [] [] [] (Err SheetEndsEarly) y m d n → ⊥
  pub last-byte-missing : (c : FourCounts) (y m d n : List ℕ) →
      ReadNew (sheet_of_reading (take 13 known22)) [] [] [] (replicate 8 7) (Ok c) y m d n → ⊥
  pub one-place-a-reading : (c : FourCounts) (y m d n : List ℕ) → ReadNew (sheet_of_reading known22) [] [] [] (replicate 7 7) (Ok c) y m d n → ⊥
  pub twelve-before-fourteen : (y m d n : List ℕ) → ReadNew (sheet_of_reading month13) [] [] [] [] (Err LentTooShort) y m d n → ⊥
  pub twelve-before-eleven : (y m d n : List ℕ) →
      ReadNew (sheet_of_reading known22 ++ (0 ∷ [])) [] [] [] [] (Err LentTooShort) y m d n → ⊥

-- the same of the conversions, into a buffer that held 9
pub record WrongConversions : Type 0 where
  pub new-refusing-all : (why : Reason) (o : List ℕ) → ToNew empty_sheet (replicate 8 9) (Err why) o → ⊥
  pub new-without-a-count : (a : Result ℕ Reason) → ToNew empty_sheet (replicate 8 9) a (empty_sheet ++ (9 ∷ 9 ∷ [])) → ⊥
  pub new-filling-none : (a : Result ℕ Reason) → ToNew empty_sheet (replicate 8 9) a (replicate 8 9) → ⊥
  pub new-unchecked : (k : ℕ) (o : List ℕ) → ToNew empty_new (replicate 10 9) (Ok k) o → ⊥
  pub new-without-room : (k : ℕ) (o : List ℕ) → ToNew empty_sheet (replicate 7 9) (Ok k) o → ⊥
  pub old-refusing-all : (why : Reason) (o : List ℕ) → ToOld empty_new (replicate 6 9) (Err why) o → ⊥
  pub old-with-the-count : (a : Result ℕ Reason) → ToOld empty_new (replicate 8 9) a empty_new → ⊥
  pub old-filling-none : (a : Result ℕ Reason) → ToOld empty_new (replicate 8 9) a (replicate 8 9) → ⊥
  pub readings-dropped : (k : ℕ) (o : List ℕ) → ToOld (sheet_of_reading known22) (replicate 22 9) (Ok k) o → ⊥
  pub seventeen-before-eleven : (o : List ℕ) → ToOld (sheet_of_reading known22 ++ (0 ∷ [])) (replicate 22 9) (Err ReadingsPresent) o → ⊥
  pub seventeen-before-fourteen : (o : List ℕ) → ToOld (sheet_of_reading month13) (replicate 22 9) (Err ReadingsPresent) o → ⊥
  pub twelve-before-seventeen : (o : List ℕ) → ToOld (sheet_of_reading known22) [] (Err LentTooShort) o → ⊥
  pub old-unchecked : (k : ℕ) (o : List ℕ) → ToOld empty_sheet (replicate 6 9) (Ok k) o → ⊥
