-- Demand 3, with what W8 adds to it, as statements. proofs/Paper.antt proves each under the same name in small letters.
-- Assumes nothing.
use Rattle.std.specs.Prelude.{Result, Ok, Err, ℕ, ◌+◌, ◌≡◌, ◌↔◌, ◌≢◌, Bool, true, false, ℤ, pos, negsuc, ◌+ℤ◌}
use Rattle.rule.specs.Counts.{DayInRange}
use Rattle.rule.specs.Rule.{number_of, leap_mark}
use Rattle.rule.specs.Reasons.{reason_number}
use Rattle.rule.specs.Paper.{further}
use Rattle.rule.specs.declared.Reason.{Reason}
use Rattle.rule.specs.declared.Reason.TheVariants.{MoveOutOfRange}
use Rattle.dates.specs.declared.Date.{Date}
use Rattle.dates.specs.Promises.{DateOfDay, DayOfDate}
use Rattle.dates.specs.Paper.{AgreesWith}
use Rattle.moves.specs.Moves.{MoveDate}

-- "For a date in range, a move by n days gives demand 2's date for the day n later, and is refused only if that day is out of
-- range": d is the date's day, and e the day n later; with reason 8, "a move ends outside the range"
pub record MoveOfADate (y k : ℕ) (l : Bool) (m d : ℕ) (n : ℤ) : Type 0 where
  pub gives : (e : ℕ) → pos d +ℤ n ≡ pos e → DayInRange e → (a : Result Date Reason) → MoveDate y k l m n a ↔ DateOfDay e a
  pub eight :
      (why : Reason) →
      MoveDate y k l m n (Err why) ↔ ((why ≡ MoveOutOfRange) × (((e : ℕ) × (pos d +ℤ n ≡ pos e) × DayInRange e) → ⊥))

abbrev pub MoveOfADateExactly : Type 0
MoveOfADateExactly = (y k : ℕ) (l : Bool) (m d : ℕ) (n : ℤ) → DayOfDate y k l m (Ok d) → MoveOfADate y k l m d n

-- "a move first the date's own reasons, then 8": with any reason but 8 a move is refused exactly where its date is
abbrev pub DatesOwnReasons : Type 0
DatesOwnReasons =
    (y k : ℕ) (l : Bool) (m : ℕ) (n : ℤ) (why : Reason) → reason_number why ≢ 8 →
    MoveDate y k l m n (Err why) ↔ DayOfDate y k l m (Err why)

-- "If the move by a stays in range and a plus b can be written, moving by a and then b equals moving by a plus b, refusals
-- too": over the calls' own answers, the second move taking the first one's date by its own four things
abbrev pub MovesAdd : Type 0
MovesAdd =
    (y k : ℕ) (l : Bool) (m : ℕ) (a b : ℤ) (date : Date) (second whole : Result Date Reason) →
    MoveDate y k l m a (Ok date) →
    MoveDate date.year (number_of date.month) (leap_mark date.month) date.day_of_month b second →
    MoveDate y k l m (a +ℤ b) whole →
    second ≡ whole

-- "the bu passes from 20 to 1"
abbrev pub BuComesRound : Date → Date → Type 0
BuComesRound r s = (r.bu ≡ 20) × (s.bu ≡ 1)

-- "month, leap mark, day of month and month length agree, the year is 76 more, the day name 39 further and the year name 16
-- further round sixty"; W8: the list "gains the year in the bu; the bu goes one on, round twenty, and the ji goes one on, round three, when
-- the bu passes from 20 to 1", and else it stays
pub record SeventySixLater (r s : Date) : Type 0 where
  pub month : s.month ≡ r.month
  pub day-of-month : s.day_of_month ≡ r.day_of_month
  pub month-length : s.month_length ≡ r.month_length
  pub year : s.year ≡ r.year + 76
  pub day-name : s.day_name ≡ further 60 39 r.day_name
  pub year-name : s.year_name ≡ further 60 16 r.year_name
  pub year-in-bu : s.year_in_bu ≡ r.year_in_bu
  pub bu : s.bu ≡ further 20 1 r.bu
  pub ji-on : (s.ji ≡ further 3 1 r.ji) ↔ BuComesRound r s
  pub ji-stays : (s.ji ≡ r.ji) ↔ (BuComesRound r s → ⊥)

-- "Where a date and the date 27,759 days later are both in range": the law of 76 years, over the call's own answers
abbrev pub LawOf76 : Type 0
LawOf76 =
    (y k : ℕ) (l : Bool) (m : ℕ) (r s : Date) →
    MoveDate y k l m (pos 0) (Ok r) → MoveDate y k l m (pos 27759) (Ok s) → SeventySixLater r s

-- one date with the eclipse mark, and another without
pub record Excepted (a b : Result Date Reason) : Type 0 where
  pub r : Date
  pub s : Date
  pub here : a ≡ Ok r
  pub later : b ≡ Ok s
  pub in_one : r.eclipse ≡ true
  pub in-none : s.eclipse ≡ false

-- "the eclipse mark is excepted": such are year 76, leap 10, day 30, and the date 27,759 days later
abbrev pub EclipseExcepted : Type 0
EclipseExcepted = (a b : Result Date Reason) → MoveDate 76 10 true 30 (pos 0) a → MoveDate 76 10 true 30 (pos 27759) b → Excepted a b

-- "It is kept over 749,493 days", where a date and the date so much later are both in range
abbrev pub EclipseMarkKept : Type 0
EclipseMarkKept =
    (y k : ℕ) (l : Bool) (m : ℕ) (r s : Date) →
    MoveDate y k l m (pos 0) (Ok r) → MoveDate y k l m (pos 749493) (Ok s) → s.eclipse ≡ r.eclipse

-- "every record handed out anywhere must agree with its own day" (W8)
abbrev pub MovedAgrees : Type 0
MovedAgrees = (y k : ℕ) (l : Bool) (m : ℕ) (n : ℤ) (r : Date) → MoveDate y k l m n (Ok r) → (d : ℕ) × AgreesWith d r

-- the promise leaves one answer
abbrev pub UniqueMove : Type 0
UniqueMove = (y k : ℕ) (l : Bool) (m : ℕ) (n : ℤ) (a b : Result Date Reason) → MoveDate y k l m n a → MoveDate y k l m n b → a ≡ b

-- wrong versions, each shut out at a named input: one that refuses all; one that never moves, a move of the first date by 0 and
-- by 27,759 having one answer; one that wraps: "Day −1 does not exist: moving there is reason 8", nor does a day after the last, whose
-- date is year 41,040, leap 10, day 30; one that leaves the ji where the bu comes round, from year 1,444, month 11, which opens bu 20 of ji 1;
-- one that puts it on to 4, from year 4,560, leap 10, with which ji 3 ends
pub record WrongMoves : Type 0 where
  pub refusing-all : (why : Reason) → MoveDate 0 11 false 1 (pos 0) (Err why) → ⊥
  pub never-moving : (a : Result Date Reason) → MoveDate 0 11 false 1 (pos 0) a → MoveDate 0 11 false 1 (pos 27759) a → ⊥
  pub wrapping-back : (r : Date) → MoveDate 0 11 false 1 (negsuc 0) (Ok r) → ⊥
  pub wrapping-on : (r : Date) → MoveDate 41040 10 true 30 (pos 1) (Ok r) → ⊥
  pub ji-left : (r : Date) → MoveDate 1444 11 false 1 (pos 27759) (Ok r) → r.ji ≡ 1 → ⊥
  pub ji-not-round : (r : Date) → MoveDate 4560 10 true 30 (pos 27759) (Ok r) → r.ji ≡ 4 → ⊥
