-- What the paper says of readings and the search, as statements. proofs/Paper.antt proves each under the same name in small
-- letters. Assumes nothing.
use Rattle.std.specs.Prelude.{Result, Ok, Err, ℕ, ◌+◌, ◌≤◌, ◌<◌, ◌≡◌, ◌↔◌, ◌⊎◌, ◌≢◌, true, List, [], ◌∷◌, length, get_or}
use Rattle.rule.specs.Counts.{DayInRange}
use Rattle.rule.specs.Lists.{placed}
use Rattle.rule.specs.Rule.{month_length, InMonth}
use Rattle.rule.specs.declared.Reason.{Reason}
use Rattle.rule.specs.declared.Reason.TheVariants.{NoSuchDay, BadWindow, FieldOutOfRange}
use Rattle.dates.specs.declared.Date.{Date}
use Rattle.dates.specs.Promises.{DateOfDay}
use Rattle.reading.specs.declared.Field.{Field}
use Rattle.reading.specs.declared.Field.TheVariants.{Known, Unread}
use Rattle.reading.specs.declared.Reading.{Reading}
use Rattle.reading.specs.declared.SearchError.{SearchError}
use Rattle.reading.specs.declared.SearchError.TheVariants.{Refused, TooShort}
use Rattle.reading.specs.Readings.{six_of_date, six_of, fits, window_days}
use Rattle.reading.specs.Search.{Searched}

-- the six values of a day are those of the date that the call answers for it, and the name of its month's first day
abbrev pub SixOfTheDate : Type 0
SixOfTheDate = (d n : ℕ) (r : Date) → DateOfDay d (Ok r) → InMonth n d → six_of d ≡ six_of_date n r

-- "A known field fits the days whose date has that value, an unread field fits every day"
abbrev pub FieldFits : Field → ℕ → Type 0
FieldFits f value = (f ≡ Unread) ⊎ (f ≡ Known value)

pub record ReadingFits (r : Reading) (d : ℕ) : Type 0 where
  pub year-name : FieldFits r.year_name (six_of d).year-name
  pub month-number : FieldFits r.month_number (six_of d).month-number
  pub leap-mark : FieldFits r.leap_mark (six_of d).leap-mark
  pub day-of-month : FieldFits r.day_of_month (six_of d).day-of-month
  pub day-name : FieldFits r.day_name (six_of d).day-name
  pub first-name : FieldFits r.first_name (six_of d).first-name

abbrev pub FitsLiterally : Type 0
FitsLiterally = (r : Reading) (d : ℕ) → (fits r d ≡ true) ↔ ReadingFits r d

-- a known field in its range, an unread one always; and a known field outside it
abbrev pub FieldInRange : Field → ℕ → Type 0
FieldInRange f most = (k : ℕ) → f ≡ Known k → (1 ≤ k) × (k ≤ most)

abbrev pub FieldOutside : Field → ℕ → Type 0
FieldOutside f most = (k : ℕ) × (f ≡ Known k) × ((k < 1) ⊎ (most < k))

-- "Ranges are 1 to 60, 1 to 12, the two marks, 1 to 30, 1 to 60, 1 to 60."
pub record FieldsInRange (r : Reading) : Type 0 where
  pub year-name : FieldInRange r.year_name 60
  pub month-number : FieldInRange r.month_number 12
  pub leap-mark : FieldInRange r.leap_mark 2
  pub day-of-month : FieldInRange r.day_of_month 30
  pub day-name : FieldInRange r.day_name 60
  pub first-name : FieldInRange r.first_name 60

-- "a known field of a reading outside its range"
pub data SomeFieldOutside (r : Reading) : Type 0 where
  year-name-outside : FieldOutside r.year_name 60 → SomeFieldOutside r
  month-number-outside : FieldOutside r.month_number 12 → SomeFieldOutside r
  leap-mark-outside : FieldOutside r.leap_mark 2 → SomeFieldOutside r
  day-of-month-outside : FieldOutside r.day_of_month 30 → SomeFieldOutside r
  day-name-outside : FieldOutside r.day_name 60 → SomeFieldOutside r
  first-name-outside : FieldOutside r.first_name 60 → SomeFieldOutside r

-- both ends of a window are days of the range; "6 for either end": one is a day count outside it
abbrev pub EndsInRange : ℕ → ℕ → Type 0
EndsInRange first last = DayInRange first × DayInRange last

abbrev pub EndOutside : ℕ → ℕ → Type 0
EndOutside first last = (14989859 < first) ⊎ (14989859 < last)

-- "The window is a first and last day, both included, at most 27,759 days"; "window's last day before its first, or more than
-- 27,759 days"
abbrev pub IsWindow : ℕ → ℕ → Type 0
IsWindow first last = (first ≤ last) × (window_days first last ≤ 27759)

abbrev pub NoWindow : ℕ → ℕ → Type 0
NoWindow first last = (last < first) ⊎ (27759 < window_days first last)

-- the first fault of a search in the order "6 for either end, 13, 14", and its reason
pub data SearchFault (r : Reading) (first last : ℕ) (why : Reason) : Type 0 where
  end-outside : EndOutside first last → why ≡ NoSuchDay → SearchFault r first last why
  no-window : EndsInRange first last → NoWindow first last → why ≡ BadWindow → SearchFault r first last why
  field-outside :
      EndsInRange first last → IsWindow first last → SomeFieldOutside r → why ≡ FieldOutOfRange → SearchFault r first last why

-- no fault: only the lent list may still be too short
pub record GoodSearch (r : Reading) (first last : ℕ) : Type 0 where
  pub ends : EndsInRange first last
  pub window : IsWindow first last
  pub fields : FieldsInRange r

-- "A search lists every day in its window that fits the reading, each once, in day order"
pub record ListsExactly (r : Reading) (first last : ℕ) (days : List ℕ) : Type 0 where
  pub listed : (d : ℕ) → first ≤ d → d ≤ last → ReadingFits r d → (i : ℕ) × (i < length days) × (get_or days i 0 ≡ d)
  pub only : (i : ℕ) → i < length days → (first ≤ get_or days i 0) × (get_or days i 0 ≤ last) × ReadingFits r (get_or days i 0)
  pub rising : (i j : ℕ) → i < j → j < length days → get_or days i 0 < get_or days j 0

-- there is one such list
abbrev pub OneList : Type 0
OneList = (r : Reading) (first last : ℕ) (xs ys : List ℕ) → ListsExactly r first last xs → ListsExactly r first last ys → xs ≡ ys

-- where a search is answered with n: there are n such days, they stand at the list's front, and the rest is untouched
pub record SearchAnswered (r : Reading) (first last n : ℕ) (old new : List ℕ) : Type 0 where
  pub days : List ℕ
  pub exactly : ListsExactly r first last days
  pub counted : length days ≡ n
  pub room : n ≤ length old
  pub filled : new ≡ placed days old

-- "a lent list .. too short for the whole answer": there are n such days, more than the list has places, and it stays as it was
pub record SearchTooShort (r : Reading) (first last n : ℕ) (old new : List ℕ) : Type 0 where
  pub days : List ℕ
  pub exactly : ListsExactly r first last days
  pub counted : length days ≡ n
  pub short : length old < n
  pub unchanged : new ≡ old

-- what a search answers, literally: the days and their number
abbrev pub SearchLists : Type 0
SearchLists =
    (r : Reading) (first last n : ℕ) (old new : List ℕ) →
    Searched r first last old (Ok n) new ↔ (GoodSearch r first last × SearchAnswered r first last n old new)

-- "a search refused with 12 also returns the true total"
abbrev pub TooShortSaysTheTotal : Type 0
TooShortSaysTheTotal =
    (r : Reading) (first last n : ℕ) (old new : List ℕ) →
    Searched r first last old (Err (TooShort n)) new ↔ (GoodSearch r first last × SearchTooShort r first last n old new)

-- every other refusal: a reason if and only if its row holds and no earlier one's does, and the list stays as it was
abbrev pub ReasonsOfASearch : Type 0
ReasonsOfASearch =
    (r : Reading) (first last : ℕ) (old new : List ℕ) (why : Reason) →
    Searched r first last old (Err (Refused why)) new ↔ (SearchFault r first last why × (new ≡ old))

-- a refused call changes nothing in the list
pub record RefusalChangesNothing : Type 0 where
  pub refused-one : (r : Reading) (first last : ℕ) (old new : List ℕ) (why : Reason) → Searched r first last old (Err (Refused why)) new → new ≡ old
  pub too_short : (r : Reading) (first last n : ℕ) (old new : List ℕ) → Searched r first last old (Err (TooShort n)) new → new ≡ old

-- the promise leaves one answer and one list
abbrev pub UniqueSearch : Type 0
UniqueSearch =
    (r : Reading) (first last : ℕ) (old : List ℕ) (a b : Result ℕ SearchError) (new other : List ℕ) →
    Searched r first last old a new → Searched r first last old b other → (a ≡ b) × (new ≡ other)

-- "all six may be unread": then the whole window is listed
abbrev pub all_unread : Reading
all_unread =
    record {
      year_name = Unread;
      month_number = Unread;
      leap_mark = Unread;
      day_of_month = Unread;
      day_name = Unread;
      first_name = Unread;
    }

-- and all but the year name
abbrev pub year_named : ℕ → Reading
year_named name =
    record {
      year_name = Known name;
      month_number = Unread;
      leap_mark = Unread;
      day_of_month = Unread;
      day_name = Unread;
      first_name = Unread;
    }

pub record UnreadListsAll : Type 0 where
  pub counted : (first last n : ℕ) (old new : List ℕ) → Searched all_unread first last old (Ok n) new → n ≡ window_days first last
  pub each :
      (first last n : ℕ) (old new : List ℕ) (i : ℕ) →
      Searched all_unread first last old (Ok n) new → i < n → get_or new i 0 ≡ first + i

-- s is read where r is, and maybe in more fields
abbrev pub ReadToo : Field → Field → Type 0
ReadToo f g = (f ≡ Unread) ⊎ (f ≡ g)

pub record MoreKnown (r s : Reading) : Type 0 where
  pub year-name : ReadToo r.year_name s.year_name
  pub month-number : ReadToo r.month_number s.month_number
  pub leap-mark : ReadToo r.leap_mark s.leap_mark
  pub day-of-month : ReadToo r.day_of_month s.day_of_month
  pub day-name : ReadToo r.day_name s.day_name
  pub first-name : ReadToo r.first_name s.first_name

-- making fields known never adds a day: what a search for s lists, one for r lists too
abbrev pub MoreKnownNeverAdds : Type 0
MoreKnownNeverAdds =
    (r s : Reading) (first last n m : ℕ) (old new old' new' : List ℕ) (i : ℕ) → MoreKnown r s →
    Searched r first last old (Ok n) new → Searched s first last old' (Ok m) new' →
    i < m → (j : ℕ) × (j < n) × (get_or new j 0 ≡ get_or new' i 0)

-- a day of the second of two big months in a row is listed by every search that is answered, its window holding the day and its
-- reading made of the day's own values
abbrev pub SecondOfTwoBigListed : Type 0
SecondOfTwoBigListed =
    (n d : ℕ) (r : Reading) (first last k : ℕ) (old new : List ℕ) →
    month_length n ≡ 30 → month_length (n + 1) ≡ 30 → InMonth (n + 1) d →
    ReadingFits r d → first ≤ d → d ≤ last → Searched r first last old (Ok k) new →
    (i : ℕ) × (i < k) × (get_or new i 0 ≡ d)

-- a slip on which all six values of day d are read
abbrev pub all_read : ℕ → Reading
all_read d =
    record {
      year_name = Known (six_of d).year-name;
      month_number = Known (six_of d).month-number;
      leap_mark = Known (six_of d).leap-mark;
      day_of_month = Known (six_of d).day-of-month;
      day_name = Known (six_of d).day-name;
      first_name = Known (six_of d).first-name;
    }

-- wrong versions, each shut out at a named input: one that refuses all, one that finds every list too short, one that fills no
-- list, or with noughts, an invented total, given or told at 12, the first day copied over the rest, the first day alone, all days
-- in one place, or one place too far, a list written before the refusal, its tail cleared, and days of the second of two big months
-- left out ("months 128 and 129 are both big", and day 3,838 is the last of month 129); and day 0, whose civil year has name 16, found by
-- the name of its solstice year
pub record WrongSearches : Type 0 where
  pub refusing-all : (why : Reason) (new : List ℕ) → Searched all_unread 0 0 (5 ∷ []) (Err (Refused why)) new → ⊥
  pub short-for-all : (n : ℕ) (new : List ℕ) → Searched all_unread 0 0 (5 ∷ []) (Err (TooShort n)) new → ⊥
  pub filling-none : (a : Result ℕ SearchError) → Searched all_unread 0 0 (5 ∷ []) a (5 ∷ []) → ⊥
  pub filling-noughts : (a : Result ℕ SearchError) → Searched all_unread 3 4 (5 ∷ 5 ∷ []) a (0 ∷ 0 ∷ []) → ⊥
  pub inventing : (n : ℕ) (new : List ℕ) → n ≢ 2 → Searched all_unread 0 1 (5 ∷ 5 ∷ []) (Ok n) new → ⊥
  pub inventing-at-12 : (n : ℕ) (new : List ℕ) → n ≢ 2 → Searched all_unread 0 1 [] (Err (TooShort n)) new → ⊥
  pub copying-first : (a : Result ℕ SearchError) → Searched all_unread 3 4 (0 ∷ 0 ∷ []) a (3 ∷ 3 ∷ []) → ⊥
  pub first_alone : (a : Result ℕ SearchError) → Searched all_unread 3 4 (0 ∷ 0 ∷ []) a (3 ∷ 0 ∷ []) → ⊥
  pub in-one-place : (a : Result ℕ SearchError) → Searched all_unread 3 4 (0 ∷ 0 ∷ []) a (4 ∷ 0 ∷ []) → ⊥
  pub one-place-on : (a : Result ℕ SearchError) → Searched all_unread 3 4 (0 ∷ 0 ∷ 5 ∷ []) a (0 ∷ 3 ∷ 4 ∷ []) → ⊥
  pub written-before-refusal : (a : Result ℕ SearchError) (x : ℕ) → x ≢ 0 → Searched all_unread 3 4 (0 ∷ []) a (x ∷ []) → ⊥
  pub tail-cleared : (a : Result ℕ SearchError) (x : ℕ) → x ≢ 5 → Searched all_unread 3 4 (0 ∷ 0 ∷ 5 ∷ []) a (3 ∷ 4 ∷ x ∷ []) → ⊥
  pub by-the-solstice-year : (a : Result ℕ SearchError) → Searched (year_named 17) 0 0 (5 ∷ []) a (0 ∷ []) → ⊥
  pub second-big-left-out : (a : Result ℕ SearchError) → Searched (all_read 3838) 3838 3838 (0 ∷ []) a (0 ∷ []) → ⊥
