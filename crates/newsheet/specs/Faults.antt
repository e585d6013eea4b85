-- The first fault of a sheet of the new form, of a reading in it, and of a sheet that is to be converted, with its reason; and what is good,
-- where there is none. Assumes nothing.
use Rattle.std.specs.Prelude.{ℕ, zero, suc, ◌+◌, ◌-◌, ◌*◌, ◌≤◌, List, length, get_or, take, drop}
use Rattle.sheet.specs.Sheet.{sheet_sections}
use Rattle.sheet.specs.Faults.{Row, First, GoodSections, SectionsFault, HasRoom}
use Rattle.newsheet.specs.New.{first_in, last_in, new_sections, Four, four_in}

-- the rows of a reading, by its eight numbers v: "6 (either end of its window), 13, 14 (a field's byte above its range; a leap byte above 2)"
abbrev pub EndsThere : List ℕ → Type 0
EndsThere v = (first_in v ≤ 14989859) × (last_in v ≤ 14989859)

abbrev pub WindowThere : List ℕ → Type 0
WindowThere v = (first_in v ≤ last_in v) × (last_in v + 1 - first_in v ≤ 27759)

pub record FieldsThere (v : List ℕ) : Type 0 where
  pub year-name : get_or v 0 0 ≤ 60
  pub month-number : get_or v 1 0 ≤ 12
  pub leap-mark : get_or v 2 0 ≤ 2
  pub day-of-month : get_or v 3 0 ≤ 30
  pub day-name : get_or v 4 0 ≤ 60
  pub first-name : get_or v 5 0 ≤ 60

abbrev pub GoodReading : List ℕ → Type 0
GoodReading v = EndsThere v × (WindowThere v × FieldsThere v)

abbrev pub ReadingFault : List ℕ → ℕ → Type 0
ReadingFault v = First (Row (EndsThere v) 6) (EndsThere v) (First (Row (WindowThere v) 13) (WindowThere v) (Row (FieldsThere v) 14))

-- a sheet of the new form that is to be read into four lent lists: its sections, then room, "for the fourth list: eight places a reading" (12)
abbrev pub HasRoomForFour : Four → ℕ → ℕ → ℕ → ℕ → Type 0
HasRoomForFour l y m d n = HasRoom l.three y m d × (8 * length l.readings ≤ n)

abbrev pub GoodNew : List ℕ → ℕ → ℕ → ℕ → ℕ → Type 0
GoodNew s y m d n = GoodSections new_sections s × HasRoomForFour (four_in s) y m d n

abbrev pub NewFault : List ℕ → ℕ → ℕ → ℕ → ℕ → ℕ → Type 0
NewFault s y m d n = First (SectionsFault new_sections s) (GoodSections new_sections s) (Row (HasRoomForFour (four_in s) y m d n) 12)

-- a sheet of the old form that is to be converted into a buffer of n bytes: its sections, then room for two bytes more (12)
abbrev pub GoodToNew : List ℕ → ℕ → Type 0
GoodToNew s n = GoodSections sheet_sections s × (length s + 2 ≤ n)

abbrev pub ToNewFault : List ℕ → ℕ → ℕ → Type 0
ToNewFault s n = First (SectionsFault sheet_sections s) (GoodSections sheet_sections s) (Row (length s + 2 ≤ n) 12)

-- a sheet of the new form that is to be converted: its sections, then "readings present is 17, after all faults of the sheet", then room for
-- two bytes less (12)
abbrev pub NoReadings : List ℕ → Type 0
NoReadings s = length (four_in s).readings ≤ 0

abbrev pub GoodToOld : List ℕ → ℕ → Type 0
GoodToOld s n = GoodSections new_sections s × (NoReadings s × (length s - 2 ≤ n))

abbrev pub ToOldFault : List ℕ → ℕ → ℕ → Type 0
ToOldFault s n =
    First (SectionsFault new_sections s) (GoodSections new_sections s) (First (Row (NoReadings s) 17) (NoReadings s) (Row (length s - 2 ≤ n) 12))

-- a list for the fourth section: eight numbers for each of n readings, each good
unfoldable pub GoodEights : ℕ → List ℕ → Type 0
GoodEights zero e = length e ≤ 0
GoodEights (suc n) e = (8 ≤ length e) × (GoodReading (take 8 e) × GoodEights n (drop 8 e))
