-- What the request says of a drawer, as statements. proofs/Paper.antt proves each under the same name in small letters. Assumes nothing.
use Rattle.std.specs.Prelude.{Result, Ok, Err, ◌≡◌, ℕ, ◌+◌, ◌<◌, ◌≤◌, ◌≢◌, ◌⊎◌, ◌↔◌, List, [], ◌∷◌, length, replicate, slice_index, slice_index_or}
use Rattle.rule.specs.Counts.{DayInRange}
use Rattle.rule.specs.Rule.{month_start, month_length}
use Rattle.rule.specs.declared.Reason.{Reason}
use Rattle.rule.specs.declared.Reason.TheVariants.{CountTooLarge, LentTooShort}
use Rattle.dates.specs.declared.Date.{Date}
use Rattle.dates.specs.Promises.{DateOfDay}
use Rattle.dates.specs.Paper.{IsDate, AgreesWith, LikeAnyOther, last_of_bu1, first_of_bu2}
use Rattle.drawer.specs.declared.DrawerError.{DrawerError}
use Rattle.drawer.specs.declared.DrawerError.TheVariants.{BadDay, Refused}
use Rattle.drawer.specs.Drawer.{FillDates}

-- "At most 4,096 days"; a record for each day, whatever a record is
abbrev pub NotTooMany : List ℕ → Type 0
NotTooMany days = length days ≤ 4096

abbrev pub Roomy : {X : Type 0} → List ℕ → List X → Type 0
Roomy days old = length days ≤ length old

-- every day is in range; and the place of the first that is not: the day there is out of range, and every day before it is in it
abbrev pub AllInRange : List ℕ → Type 0
AllInRange days = (i : ℕ) → i < length days → DayInRange (slice_index days i)

pub record FirstBad (days : List ℕ) (i : ℕ) : Type 0 where
  pub a-place : i < length days
  pub bad : DayInRange (slice_index days i) → ⊥
  pub good-before : (j : ℕ) → j < i → DayInRange (slice_index days j)

-- what a filled list holds: "record i is exactly what the single call gives for day i .. records beyond the last stay as they were". `Gives`
-- says what the single call gives for a day. A place that a list has not reads as `none`, any record.
pub record FilledWith {X : Type 0} (Gives : ℕ → X → Type 0) (days : List ℕ) (old new : List X) : Type 0 where
  pub as_long : length new ≡ length old
  pub single : (i : ℕ) (none : X) → i < length days → Gives (slice_index days i) (slice_index_or new i none)
  pub beyond : (i : ℕ) (none : X) → length days ≤ i → slice_index_or new i none ≡ slice_index_or old i none

-- what the single call of dates gives
abbrev pub SingleCall : ℕ → Date → Type 0
SingleCall d r = DateOfDay d (Ok r)

-- the call answers a good drawer, and none else, with how many records were filled, and fills so many
abbrev pub DrawerFilled : Type 0
DrawerFilled =
    (days : List ℕ) (old : List Date) (n : ℕ) (new : List Date) →
    FillDates days old (Ok n) new
    ↔ (NotTooMany days × (Roomy days old × (AllInRange days × ((n ≡ length days) × FilledWith SingleCall days old new))))

-- record i is the date of day i, as the paper says it, and "every record handed out anywhere must agree with its own day" (W8)
pub record RecordsLiterally : Type 0 where
  pub a-date :
      (days : List ℕ) (old : List Date) (n : ℕ) (new : List Date) (i : ℕ) (none : Date) →
      FillDates days old (Ok n) new → i < n → IsDate (slice_index days i) (slice_index_or new i none)
  pub agrees :
      (days : List ℕ) (old : List Date) (n : ℕ) (new : List Date) (i : ℕ) (none : Date) →
      FillDates days old (Ok n) new → i < n → AgreesWith (slice_index days i) (slice_index_or new i none)

-- the reasons, "count above 4,096 is 10, then 12 for too few records, then 6 with the place": each exactly where its row holds and no earlier
-- one's does, and no other; the list then stays as it was
pub record DrawerReasons (days : List ℕ) (old new : List Date) : Type 0 where
  pub ten : FillDates days old (Err (Refused CountTooLarge)) new ↔ ((NotTooMany days → ⊥) × (new ≡ old))
  pub twelve : FillDates days old (Err (Refused LentTooShort)) new ↔ (NotTooMany days × ((Roomy days old → ⊥) × (new ≡ old)))
  pub six :
      (i : ℕ) → FillDates days old (Err (BadDay i)) new ↔ (NotTooMany days × (Roomy days old × (FirstBad days i × (new ≡ old))))
  pub no_other : (why : Reason) → FillDates days old (Err (Refused why)) new → (why ≡ CountTooLarge) ⊎ (why ≡ LentTooShort)

abbrev pub ReasonsOfADrawer : Type 0
ReasonsOfADrawer = (days : List ℕ) (old new : List Date) → DrawerReasons days old new

-- the place is that of the first bad day and of no other
abbrev pub OneFirstBad : Type 0
OneFirstBad = (days : List ℕ) (old : List Date) (i : ℕ) (new : List Date) (j : ℕ) → FillDates days old (Err (BadDay i)) new → FirstBad days j → i ≡ j

-- a refused call fills nothing
pub record RefusalFillsNothing : Type 0 where
  pub refused-one : (days : List ℕ) (old : List Date) (why : Reason) (new : List Date) → FillDates days old (Err (Refused why)) new → new ≡ old
  pub bad-day : (days : List ℕ) (old : List Date) (i : ℕ) (new : List Date) → FillDates days old (Err (BadDay i)) new → new ≡ old

-- an empty list is answered 0, whatever is lent
abbrev pub EmptyDrawer : Type 0
EmptyDrawer = (old : List Date) (a : Result ℕ DrawerError) (new : List Date) → FillDates [] old a new → (a ≡ Ok 0) × (new ≡ old)

-- every day of the second of two big months in a row has its record, wherever it stands in the list: a date like any other
abbrev pub SecondOfTwoBigFilled : Type 0
SecondOfTwoBigFilled =
    (days : List ℕ) (old : List Date) (n : ℕ) (new : List Date) (m i j : ℕ) (none : Date) →
    FillDates days old (Ok n) new → month_length m ≡ 30 → month_length (m + 1) ≡ 30 → i < 30 → j < n →
    slice_index days j ≡ month_start (m + 1) + i → LikeAnyOther m i (Ok (slice_index_or new j none))

-- the promise leaves one answer and one list
abbrev pub UniqueDrawer : Type 0
UniqueDrawer =
    (days : List ℕ) (old : List Date) (a b : Result ℕ DrawerError) (new other : List Date) →
    FillDates days old a new → FillDates days old b other → (a ≡ b) × (new ≡ other)

-- wrong versions, each shut out at a named input (days 27,758 and 27,759, whose dates are last_of_bu1 and first_of_bu2; 14,989,860 is the first
-- day out of range): one that refuses all, or finds a bad day in all; one that fills none; the first record copied over the rest; every second
-- skipped; the list turned round; the last bad place, or the place counted from 1; a record beyond the last changed; one filled before the
-- refusal; an invented number, answered; 6 before 12, 12 before 10; a drawer of 4,096 refused with 10, or one more taken; and the thirtieth of
-- the second of two big months, day 3,838, struck out
pub record WrongDrawers : Type 0 where
  pub refusing-all : (why : Reason) (x : Date) (new : List Date) → FillDates (0 ∷ []) (x ∷ []) (Err (Refused why)) new → ⊥
  pub bad-in-all : (i : ℕ) (x : Date) (new : List Date) → FillDates (0 ∷ []) (x ∷ []) (Err (BadDay i)) new → ⊥
  pub filling-none : (a : Result ℕ DrawerError) → FillDates (27758 ∷ []) (first_of_bu2 ∷ []) a (first_of_bu2 ∷ []) → ⊥
  pub copying-first :
      (a : Result ℕ DrawerError) (x y : Date) → FillDates (27758 ∷ 27759 ∷ []) (x ∷ y ∷ []) a (last_of_bu1 ∷ last_of_bu1 ∷ []) → ⊥
  pub skipping-second :
      (a : Result ℕ DrawerError) →
      FillDates (27758 ∷ 27758 ∷ 27758 ∷ []) (first_of_bu2 ∷ first_of_bu2 ∷ first_of_bu2 ∷ []) a (last_of_bu1 ∷ first_of_bu2 ∷ last_of_bu1 ∷ []) → ⊥
  pub turned_round : (a : Result ℕ DrawerError) (x y : Date) → FillDates (27758 ∷ 27759 ∷ []) (x ∷ y ∷ []) a (first_of_bu2 ∷ last_of_bu1 ∷ []) → ⊥
  pub last-bad-place :
      (x : Date) (new : List Date) → FillDates (0 ∷ 14989860 ∷ 14989860 ∷ []) (x ∷ x ∷ x ∷ []) (Err (BadDay 2)) new → ⊥
  pub counted-from-1 : (i : ℕ) (x : Date) (new : List Date) → i ≢ 0 → FillDates (14989860 ∷ []) (x ∷ []) (Err (BadDay i)) new → ⊥
  pub beyond-changed :
      (a : Result ℕ DrawerError) → FillDates (27758 ∷ []) (first_of_bu2 ∷ first_of_bu2 ∷ []) a (last_of_bu1 ∷ last_of_bu1 ∷ []) → ⊥
  pub filled-before-refusal :
      (a : Result ℕ DrawerError) → FillDates (27758 ∷ 14989860 ∷ []) (first_of_bu2 ∷ first_of_bu2 ∷ []) a (last_of_bu1 ∷ first_of_bu2 ∷ []) → ⊥
  pub inventing : (n : ℕ) (x y : Date) (new : List Date) → n ≢ 1 → FillDates (27758 ∷ []) (x ∷ y ∷ []) (Ok n) new → ⊥
  pub six-before-twelve : (i : ℕ) (new : List Date) → FillDates (14989860 ∷ []) [] (Err (BadDay i)) new → ⊥
  pub twelve-before-ten : (new : List Date) → FillDates (replicate 4097 0) [] (Err (Refused LentTooShort)) new → ⊥
  pub too-few-taken : (x : Date) (new : List Date) → FillDates (replicate 4096 0) (replicate 4096 x) (Err (Refused CountTooLarge)) new → ⊥
  pub too-many-taken : (n : ℕ) (x : Date) (new : List Date) → FillDates (replicate 4097 0) (replicate 4097 x) (Ok n) new → ⊥
  pub second-big-refused : (why : Reason) (x : Date) (new : List Date) → FillDates (3838 ∷ []) (x ∷ []) (Err (Refused why)) new → ⊥
  pub second-big-bad : (i : ℕ) (x : Date) (new : List Date) → FillDates (3838 ∷ []) (x ∷ []) (Err (BadDay i)) new → ⊥
