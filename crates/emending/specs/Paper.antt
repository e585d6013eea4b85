-- What the request says of emendations, as statements. proofs/Paper.antt proves each under the same name in small letters. Assumes nothing.
use Rattle.std.specs.Prelude.{Result, Ok, Err, ℕ, ◌+◌, ◌*◌, ◌≤◌, ◌<◌, ◌≡◌, ◌↔◌, ◌⊎◌, ◌≢◌, cond, List, [], ◌∷◌, eqb, length, get_or}
use Rattle.rule.specs.Rule.{month_start, month_length}
use Rattle.rule.specs.declared.Reason.{Reason}
use Rattle.reading.specs.declared.Field.{Field}
use Rattle.reading.specs.declared.Field.TheVariants.{Known, Unread}
use Rattle.reading.specs.declared.Reading.{Reading}
use Rattle.reading.specs.Readings.{six_of, window_days}
use Rattle.reading.specs.Search.{Searched}
use Rattle.reading.specs.Paper.{FieldFits, ReadingFits, GoodSearch, SearchFault, ListsExactly, all_unread, year_named, all_read}
use Rattle.emending.specs.declared.Place.{Place}
use Rattle.emending.specs.declared.Place.TheVariants.{YearName, MonthNumber, LeapMark, DayOfMonth, DayName, FirstName}
use Rattle.emending.specs.declared.Fault.TheVariants.{One}
use Rattle.emending.specs.declared.Emended.{Emended}
use Rattle.emending.specs.declared.Emended.TheVariants.{Fits, Are}
use Rattle.reading.specs.declared.SearchError.{SearchError}
use Rattle.reading.specs.declared.SearchError.TheVariants.{TooShort, Refused}
use Rattle.emending.specs.Faults.{place_number, fault}
use Rattle.emending.specs.Emended.{EmendsReading}

-- what a reading has there, and what a day has
abbrev pub field_at : Reading → Place → Field
field_at r YearName = r.year_name
field_at r MonthNumber = r.month_number
field_at r LeapMark = r.leap_mark
field_at r DayOfMonth = r.day_of_month
field_at r DayName = r.day_name
field_at r FirstName = r.first_name

abbrev pub value_at : ℕ → Place → ℕ
value_at d YearName = (six_of d).year-name
value_at d MonthNumber = (six_of d).month-number
value_at d LeapMark = (six_of d).leap-mark
value_at d DayOfMonth = (six_of d).day-of-month
value_at d DayName = (six_of d).day-name
value_at d FirstName = (six_of d).first-name

-- "disagrees with exactly one known field": the one at p, where k was read and the day has v; every other field fits
pub record OnlyFault (r : Reading) (d : ℕ) (p : Place) (k v : ℕ) : Type 0 where
  pub was_read : field_at r p ≡ Known k
  pub should-be : v ≡ value_at d p
  pub disagrees : k ≢ v
  pub others : (q : Place) → place_number q ≢ place_number p → FieldFits (field_at r q) (value_at d q)

-- the definition finds that field, and no other
abbrev pub FaultsLiterally : Type 0
FaultsLiterally = (r : Reading) (d : ℕ) (p : Place) (k v : ℕ) → (fault r d ≡ One p k v) ↔ OnlyFault r d p k v

-- a day has at most one emendation: one field, in one way
abbrev pub OneFaultADay : Type 0
OneFaultADay =
    (r : Reading) (d : ℕ) (p q : Place) (k l v w : ℕ) → OnlyFault r d p k v → OnlyFault r d q l w → (p ≡ q) × (k ≡ l) × (v ≡ w)

-- a reading with one field put right
abbrev pub right_at : Reading → Place → ℕ → Place → Field
right_at r p v q = cond (eqb (place_number q) (place_number p)) (Known v) (field_at r q)

abbrev pub reading_righted : Reading → Place → ℕ → Reading
reading_righted r p v =
    record {
      year_name = right_at r p v YearName;
      month_number = right_at r p v MonthNumber;
      leap_mark = right_at r p v LeapMark;
      day_of_month = right_at r p v DayOfMonth;
      day_name = right_at r p v DayName;
      first_name = right_at r p v FirstName;
    }

-- "the reading with that one field put right fits the day"
abbrev pub PutRightFits : Type 0
PutRightFits = (r : Reading) (d : ℕ) (p : Place) (k v : ℕ) → OnlyFault r d p k v → ReadingFits (reading_righted r p v) d

-- "four an emendation: day, field, read, should be": what stands in a list as its i-th, counted from 0
pub record Entry (numbers : List ℕ) (i d : ℕ) (p : Place) (k v : ℕ) : Type 0 where
  pub day : get_or numbers (4 * i) 0 ≡ d
  pub field : get_or numbers (4 * i + 1) 0 ≡ place_number p
  pub was_read : get_or numbers (4 * i + 2) 0 ≡ k
  pub should-be : get_or numbers (4 * i + 3) 0 ≡ v

-- the i-th is an emendation of a day of the window
pub record Emendation (r : Reading) (first last : ℕ) (numbers : List ℕ) (i : ℕ) : Type 0 where
  pub d : ℕ
  pub p : Place
  pub k : ℕ
  pub v : ℕ
  pub entry : Entry numbers i d p k v
  pub from_first : first ≤ d
  pub to_last : d ≤ last
  pub only-fault : OnlyFault r d p k v
  pub put_right : ReadingFits (reading_righted r p v) d

-- "every day that disagrees with exactly one known field, in day order, .. Exactly these": n of them stand at the list's front
pub record ListsEmendations (r : Reading) (first last n : ℕ) (numbers : List ℕ) : Type 0 where
  pub listed : (d : ℕ) (p : Place) (k v : ℕ) → first ≤ d → d ≤ last → OnlyFault r d p k v → (i : ℕ) × (i < n) × Entry numbers i d p k v
  pub only : (i : ℕ) → i < n → Emendation r first last numbers i
  pub rising : (i j : ℕ) → i < j → j < n → get_or numbers (4 * i) 0 < get_or numbers (4 * j) 0

-- no day of a window fits a reading
abbrev pub NoneFits : Reading → ℕ → ℕ → Type 0
NoneFits r first last = (d : ℕ) → first ≤ d → d ≤ last → ReadingFits r d → ⊥

-- where an emendation is answered with n: no day fits, n emendations stand at the list's front, and the places beyond them are untouched
pub record EmendAnswered (r : Reading) (first last n : ℕ) (old new : List ℕ) : Type 0 where
  pub none : NoneFits r first last
  pub exactly : ListsEmendations r first last n new
  pub room : 4 * n ≤ length old
  pub same-places : length new ≡ length old
  pub beyond : (i : ℕ) → 4 * n ≤ i → get_or new i 0 ≡ get_or old i 0

abbrev pub EmendationsListed : Type 0
EmendationsListed =
    (r : Reading) (first last n : ℕ) (old new : List ℕ) →
    EmendsReading r first last old (Ok (Are n)) new → GoodSearch r first last × EmendAnswered r first last n old new

-- "If some day fits, the answer is how many and the list stays untouched."
pub record SomeFit (r : Reading) (first last n : ℕ) : Type 0 where
  pub days : List ℕ
  pub exactly : ListsExactly r first last days
  pub counted : length days ≡ n
  pub some : 0 < n

abbrev pub FitsAnswered : Type 0
FitsAnswered =
    (r : Reading) (first last n : ℕ) (old new : List ℕ) →
    EmendsReading r first last old (Ok (Fits n)) new ↔ (GoodSearch r first last × SomeFit r first last n × (new ≡ old))

-- "12 with its total for emendations alone (it counts emendations, not numbers)": n emendations, for a list with fewer than 4n places
pub record EmendTooShort (r : Reading) (first last n : ℕ) (old new : List ℕ) : Type 0 where
  pub none : NoneFits r first last
  pub numbers : List ℕ
  pub exactly : ListsEmendations r first last n numbers
  pub short : length old < 4 * n
  pub unchanged : new ≡ old

abbrev pub TooShortSaysHowMany : Type 0
TooShortSaysHowMany =
    (r : Reading) (first last n : ℕ) (old new : List ℕ) →
    EmendsReading r first last old (Err (TooShort n)) new → GoodSearch r first last × EmendTooShort r first last n old new

-- where no day fits, it is answered with emendations if the list has places for them, and else refused with 12; "where nothing is found, the
-- answer is no emendations"
pub record WhereNoneFits : Type 0 where
  pub answered :
      (r : Reading) (first last : ℕ) (old new : List ℕ) (a : Result Emended SearchError) →
      GoodSearch r first last → NoneFits r first last → EmendsReading r first last old a new →
      ((n : ℕ) × (a ≡ Ok (Are n)) × (4 * n ≤ length old)) ⊎ ((n : ℕ) × (a ≡ Err (TooShort n)) × (length old < 4 * n))
  pub nothing-found :
      (r : Reading) (first last : ℕ) (old new : List ℕ) (a : Result Emended SearchError) → GoodSearch r first last → NoneFits r first last →
      ((d : ℕ) (p : Place) (k v : ℕ) → first ≤ d → d ≤ last → OnlyFault r d p k v → ⊥) →
      EmendsReading r first last old a new → (a ≡ Ok (Are 0)) × (new ≡ old)

-- "Refusals as for a search: 6 for either end, 13, 14": a reason if and only if its row holds and no earlier one's does, the list as it was
abbrev pub ReasonsOfAnEmendation : Type 0
ReasonsOfAnEmendation =
    (r : Reading) (first last : ℕ) (old new : List ℕ) (why : Reason) →
    EmendsReading r first last old (Err (Refused why)) new ↔ (SearchFault r first last why × (new ≡ old))

-- a refused call changes nothing in the list
pub record RefusalChangesNothing : Type 0 where
  pub refused-one :
      (r : Reading) (first last : ℕ) (old new : List ℕ) (why : Reason) → EmendsReading r first last old (Err (Refused why)) new → new ≡ old
  pub too_short : (r : Reading) (first last n : ℕ) (old new : List ℕ) → EmendsReading r first last old (Err (TooShort n)) new → new ≡ old

-- the promise leaves one answer and one list
abbrev pub UniqueEmendation : Type 0
UniqueEmendation =
    (r : Reading) (first last : ℕ) (old : List ℕ) (a b : Result Emended SearchError) (new other : List ℕ) →
    EmendsReading r first last old a new → EmendsReading r first last old b other → (a ≡ b) × (new ≡ other)

-- a search that found n days, or had no room for them: the emendation says that n fit, however short its list, and leaves it alone; so the
-- list of a search and of an emendation are never both filled
pub record NeverBoth : Type 0 where
  pub where_found :
      (r : Reading) (first last n : ℕ) (old new old' new' : List ℕ) (a : Result Emended SearchError) → 0 < n →
      Searched r first last old (Ok n) new → EmendsReading r first last old' a new' → (a ≡ Ok (Fits n)) × (new' ≡ old')
  pub where-short :
      (r : Reading) (first last n : ℕ) (old new old' new' : List ℕ) (a : Result Emended SearchError) →
      Searched r first last old (Err (TooShort n)) new → EmendsReading r first last old' a new' → (a ≡ Ok (Fits n)) × (new' ≡ old')
  pub where-emended :
      (r : Reading) (first last n m : ℕ) (old new old' new' : List ℕ) →
      EmendsReading r first last old (Ok (Are n)) new → Searched r first last old' (Ok m) new' → (m ≡ 0) × (new' ≡ old')

-- an unread field is never emended
abbrev pub UnreadNeverEmended : Type 0
UnreadNeverEmended =
    (r : Reading) (first last n : ℕ) (old new : List ℕ) (i : ℕ) (p : Place) →
    EmendsReading r first last old (Ok (Are n)) new → i < n → get_or new (4 * i + 1) 0 ≡ place_number p → field_at r p ≢ Unread

-- all six unread always fits
abbrev pub AllUnreadFits : Type 0
AllUnreadFits =
    (first last : ℕ) (old new : List ℕ) (a : Result Emended SearchError) →
    GoodSearch all_unread first last → EmendsReading all_unread first last old a new → (a ≡ Ok (Fits (window_days first last))) × (new ≡ old)

-- "The second of two big months: an emendation to day 30 of it is listed like any other."
abbrev pub SecondOfTwoBigEmended : Type 0
SecondOfTwoBigEmended =
    (n d : ℕ) (r : Reading) (p : Place) (k v first last m : ℕ) (old new : List ℕ) →
    month_length n ≡ 30 → month_length (n + 1) ≡ 30 → d ≡ month_start (n + 1) + 29 →
    OnlyFault r d p k v → first ≤ d → d ≤ last → EmendsReading r first last old (Ok (Are m)) new →
    (value_at d DayOfMonth ≡ 30) × ((i : ℕ) × (i < m) × Entry new i d p k v)

-- day 3,838, the last of month 129 ("months 128 and 129 are both big"), with 29 read as its day of the month; day 0 with two faults; and a
-- day name alone, that of day 0, in which day 1 has its one fault
abbrev pub misread : Reading
misread = reading_righted (all_read 3838) DayOfMonth 29

abbrev pub twice_misread : Reading
twice_misread = reading_righted (reading_righted (all_read 0) DayOfMonth 2) DayName 2

abbrev pub name_alone : Reading
name_alone = reading_righted all_unread DayName 1

-- wrong versions, each shut out at a named input: one that refuses all, finds every list too short, or says that a day fits; one that lists
-- nothing, and so leaves out an emendation to day 30 of the second of two big months; one that lists days with two faults, counts them, or has no
-- room for them; an invented total; numbers counted at 12; the first emendation alone; the field before; what was read and what it should be
-- exchanged; a list touched though a day fits, 12 though a day fits; a list written before the refusal, by numbers or by whole emendations; and one
-- changed beyond what is filled
pub record WrongEmendations : Type 0 where
  pub refusing-all : (why : Reason) (new : List ℕ) → EmendsReading misread 3838 3838 (5 ∷ 5 ∷ 5 ∷ 5 ∷ []) (Err (Refused why)) new → ⊥
  pub short-for-all : (n : ℕ) (new : List ℕ) → EmendsReading misread 3838 3838 (5 ∷ 5 ∷ 5 ∷ 5 ∷ []) (Err (TooShort n)) new → ⊥
  pub fitting-all : (n : ℕ) (new : List ℕ) → EmendsReading misread 3838 3838 (5 ∷ 5 ∷ 5 ∷ 5 ∷ []) (Ok (Fits n)) new → ⊥
  pub second-big-left-out : (a : Result Emended SearchError) → EmendsReading misread 3838 3838 (5 ∷ 5 ∷ 5 ∷ 5 ∷ []) a (5 ∷ 5 ∷ 5 ∷ 5 ∷ []) → ⊥
  pub two-faults :
      (a : Result Emended SearchError) (new : List ℕ) → new ≢ (5 ∷ 5 ∷ 5 ∷ 5 ∷ []) → EmendsReading twice_misread 0 0 (5 ∷ 5 ∷ 5 ∷ 5 ∷ []) a new → ⊥
  pub two-faults-counted : (n : ℕ) (new : List ℕ) → n ≢ 0 → EmendsReading twice_misread 0 0 (5 ∷ 5 ∷ 5 ∷ 5 ∷ []) (Ok (Are n)) new → ⊥
  pub two-faults-short : (n : ℕ) (new : List ℕ) → EmendsReading twice_misread 0 0 [] (Err (TooShort n)) new → ⊥
  pub inventing : (n : ℕ) (new : List ℕ) → n ≢ 1 → EmendsReading misread 3838 3838 (5 ∷ 5 ∷ 5 ∷ 5 ∷ []) (Ok (Are n)) new → ⊥
  pub counting-numbers : (n : ℕ) (new : List ℕ) → n ≢ 1 → EmendsReading misread 3838 3838 (5 ∷ 5 ∷ 5 ∷ []) (Err (TooShort n)) new → ⊥
  pub first_alone : (a : Result Emended SearchError) → EmendsReading (year_named 17) 0 1 (5 ∷ 5 ∷ 5 ∷ 5 ∷ 5 ∷ 5 ∷ 5 ∷ 5 ∷ []) a (0 ∷ 1 ∷ 17 ∷ 16 ∷ 5 ∷ 5 ∷ 5 ∷ 5 ∷ []) → ⊥
  pub field-before : (a : Result Emended SearchError) → EmendsReading misread 3838 3838 (5 ∷ 5 ∷ 5 ∷ 5 ∷ []) a (3838 ∷ 3 ∷ 29 ∷ 30 ∷ []) → ⊥
  pub exchanged : (a : Result Emended SearchError) → EmendsReading misread 3838 3838 (5 ∷ 5 ∷ 5 ∷ 5 ∷ []) a (3838 ∷ 4 ∷ 30 ∷ 29 ∷ []) → ⊥
  pub touched-though-fitting :
      (a : Result Emended SearchError) (new : List ℕ) → new ≢ (5 ∷ 5 ∷ 5 ∷ 5 ∷ []) → EmendsReading name_alone 0 1 (5 ∷ 5 ∷ 5 ∷ 5 ∷ []) a new → ⊥
  pub short-though-fitting : (n : ℕ) (new : List ℕ) → EmendsReading name_alone 0 1 [] (Err (TooShort n)) new → ⊥
  pub written-before-refusal : (a : Result Emended SearchError) (x : ℕ) → x ≢ 5 → EmendsReading misread 3838 3838 (5 ∷ []) a (x ∷ []) → ⊥
  pub emendation-before-refusal : (a : Result Emended SearchError) → EmendsReading (year_named 17) 0 1 (5 ∷ 5 ∷ 5 ∷ 5 ∷ []) a (0 ∷ 1 ∷ 17 ∷ 16 ∷ []) → ⊥
  pub tail-cleared :
      (a : Result Emended SearchError) (x : ℕ) → x ≢ 5 → EmendsReading misread 3838 3838 (5 ∷ 5 ∷ 5 ∷ 5 ∷ 5 ∷ []) a (3838 ∷ 4 ∷ 29 ∷ 30 ∷ x ∷ []) → ⊥
