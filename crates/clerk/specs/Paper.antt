-- What W3 says of the clerk, as statements. proofs/Paper.antt proves each under the same name in small letters. Assumes nothing.
use Rattle.std.specs.Prelude.{Result, Ok, Err, ℕ, suc, ◌+◌, ◌-◌, ◌*◌, ◌≤◌, ◌<◌, ◌≡◌, ◌↔◌, ◌⊎◌, true, false}
use Rattle.rule.specs.Counts.{MonthInRange, year_in_bu}
use Rattle.rule.specs.Rule.{term_parts, mid_term_day, solstice_first_month, pair_starts}
use Rattle.rule.specs.declared.Reason.{Reason}
use Rattle.rule.specs.declared.Reason.TheVariants.{NoSuchMonth, NoSuchBu}
use Rattle.facts.specs.declared.MonthFacts.{MonthFacts}
use Rattle.facts.specs.Promises.{MonthByCount}
use Rattle.clerk.specs.declared.Clerk.{Clerk}
use Rattle.clerk.specs.Clerk.{StartsAt, StepsOn, WalksOn, Shows}

-- "Bu heads are counted from the origin, 1 to 540"
abbrev pub BuInRange : ℕ → Type 0
BuInRange b = (1 ≤ b) × (b ≤ 540)

-- k steps from the head of bu b by the calls themselves: a start that is answered, then steps, each of what the one before it answered
pub data Gone (b : ℕ) : ℕ → Clerk → Type 0 where
  at-the-head : {c : Clerk} → StartsAt b (Ok c) → Gone b 0 c
  one_more : {k : ℕ} {c d : Clerk} → Gone b k c → StepsOn c (Ok d) → Gone b (suc k) d

-- the month count to which k steps from the head of bu b lead
abbrev pub count_of : ℕ → ℕ → ℕ
count_of b k = 940 * (b - 1) + k

-- "After any number of steps that stays in range, it must show just what 01 gives for that month count": field by field, what the call for a
-- month by its count answers
abbrev pub ShowsWhatTheRuleGives : Type 0
ShowsWhatTheRuleGives =
    (b k : ℕ) (c : Clerk) (f : MonthFacts) → Gone b k c → Shows c f →
    (c.month_count ≡ count_of b k) × MonthByCount (count_of b k) (Ok f)

-- "any number of steps that stays in range" is gone: from every bu's head, as far as the last month
abbrev pub GoesAsFarAsTheLast : Type 0
GoesAsFarAsTheLast = (b k : ℕ) → BuInRange b → MonthInRange (count_of b k) → (c : Clerk) × Gone b k c

-- "a step past the last month is 7": a step is refused exactly at the last month, and with 7 alone
abbrev pub RefusedAtTheLast : Type 0
RefusedAtTheLast =
    (b k : ℕ) (c : Clerk) (why : Reason) → Gone b k c → StepsOn c (Err why) ↔ ((why ≡ NoSuchMonth) × (count_of b k ≡ 507599))

-- "a bu outside that range is 21", and no other reason
abbrev pub RefusedOutsideTheBu : Type 0
RefusedOutsideTheBu = (b : ℕ) (why : Reason) → StartsAt b (Err why) ↔ ((why ≡ NoSuchBu) × (BuInRange b → ⊥))

-- "It starts at the origin or at any bu's head": the first month of the bu's first solstice year, an ordinary month 11; new moon and mid-term
-- fall on its first day, at midnight
pub record BuHead (b : ℕ) (c : Clerk) : Type 0 where
  pub in-range : BuInRange b
  pub first-year : year_in_bu (76 * (b - 1) + 1) ≡ 1
  pub first-month : c.month_count ≡ solstice_first_month (76 * (b - 1) + 1)
  pub first-day : c.first_day ≡ 27759 * (b - 1)
  pub midnight : c.small_remainder ≡ 0
  pub eleven : c.number ≡ 11
  pub ordinary : c.leap ≡ false
  pub mid-term : (mid_term_day (912 * (b - 1)) ≡ c.first_day) × (term_parts (2 * (912 * (b - 1))) ≡ 0)

abbrev pub StartsAtABusHead : Type 0
StartsAtABusHead = (b : ℕ) (c : Clerk) → StartsAt b (Ok c) → BuHead b c

-- one step, of any state that can be put together, by additions alone
pub record OneOn (c d : Clerk) : Type 0 where
  pub count : d.month_count ≡ c.month_count + 1
  -- "adding 29 days and 499 parts": 940 parts are a day
  pub month : c.small_remainder < 940 →
      (940 * d.first_day + d.small_remainder ≡ 940 * (c.first_day + 29) + (c.small_remainder + 499)) × (d.small_remainder < 940)
  pub thirty : (d.month_length ≡ 30) ↔ (441 ≤ d.small_remainder)
  pub twenty-nine : (d.month_length ≡ 29) ↔ (d.small_remainder < 441)
  -- a month is ordinary exactly when the mid-term ahead falls on a day before its end
  pub ordinary : (d.leap ≡ false) ↔ (c.mid_term_day < d.first_day + d.month_length)
  pub leap-keeps : d.leap ≡ true → (d.number ≡ c.number) × (d.mid_term_day ≡ c.mid_term_day) × (d.mid_term_parts ≡ c.mid_term_parts)
  -- the numbers go 11, 12, 1, 2 ..; "from one term to the next by 15 days and 7 parts of 32", twice: 32 parts are a day
  pub next-number : d.leap ≡ false → c.number < 12 → d.number ≡ c.number + 1
  pub after-twelve : d.leap ≡ false → c.number ≡ 12 → d.number ≡ 1
  pub term : d.leap ≡ false → c.mid_term_parts < 32 →
      (32 * d.mid_term_day + d.mid_term_parts ≡ 32 * (c.mid_term_day + 2 * 15) + (c.mid_term_parts + 2 * 7)) × (d.mid_term_parts < 32)
  -- the name of the first day goes on by the days between; 60 is followed by 1
  pub name : (1 ≤ c.first_name) × (c.first_name ≤ 60) →
      ((c.first_name + (d.first_day - c.first_day) ≡ d.first_name) ⊎ (c.first_name + (d.first_day - c.first_day) ≡ d.first_name + 60))
      × (1 ≤ d.first_name) × (d.first_name ≤ 60)
  -- 23 of 135 more; an eclipse month where less than 23 is left
  pub eclipse-rest : c.eclipse_remainder < 135 →
      ((d.eclipse_remainder ≡ c.eclipse_remainder + 23) ⊎ (d.eclipse_remainder + 135 ≡ c.eclipse_remainder + 23)) × (d.eclipse_remainder < 135)
  pub eclipse : (d.eclipse ≡ true) ↔ (d.eclipse_remainder < 23)

abbrev pub OneStepByAdditions : Type 0
OneStepByAdditions = (c d : Clerk) → StepsOn c (Ok d) → OneOn c d

-- of a state that no start leads to: a step is refused with 7 alone, exactly where the count or the first day is not before the last month's
abbrev pub AnyState : Type 0
AnyState =
    (c : Clerk) (why : Reason) →
    StepsOn c (Err why) ↔ ((why ≡ NoSuchMonth) × (((c.month_count < 507599) × (c.first_day < 14989830)) → ⊥))

-- a month has one state, from whichever head it is come to; so 940 steps lead to the next bu's head
abbrev pub OneStateAMonth : Type 0
OneStateAMonth = (a b j k : ℕ) (c d : Clerk) → Gone a j c → Gone b k d → count_of a j ≡ count_of b k → c ≡ d

-- a walk is a start and so many steps
abbrev pub WalkIsTheSteps : Type 0
WalkIsTheSteps = (b k : ℕ) (c : Clerk) → WalksOn b k (Ok c) ↔ Gone b k c

-- it is refused with 21 for a bu outside its range, then with 7 where it would pass the last month, and with no other
pub record WalkReasons (b k : ℕ) : Type 0 where
  pub twenty-one : WalksOn b k (Err NoSuchBu) ↔ (BuInRange b → ⊥)
  pub seven : WalksOn b k (Err NoSuchMonth) ↔ (BuInRange b × (507599 < count_of b k))
  pub only : (why : Reason) → WalksOn b k (Err why) → (why ≡ NoSuchBu) ⊎ (why ≡ NoSuchMonth)

abbrev pub ReasonsOfAWalk : Type 0
ReasonsOfAWalk = (b k : ℕ) → WalkReasons b k

-- the second of two big months in a row is walked through, with its thirty days
abbrev pub SecondOfTwoBigWalked : Type 0
SecondOfTwoBigWalked =
    (b k n : ℕ) (c : Clerk) → Gone b k c → count_of b k ≡ n + 1 → pair_starts n ≡ true → c.month_length ≡ 30

-- each promise leaves one answer
pub record UniqueClerk : Type 0 where
  pub start : (b : ℕ) (r s : Result Clerk Reason) → StartsAt b r → StartsAt b s → r ≡ s
  pub step : (c : Clerk) (r s : Result Clerk Reason) → StepsOn c r → StepsOn c s → r ≡ s
  pub walk : (b k : ℕ) (r s : Result Clerk Reason) → WalksOn b k r → WalksOn b k s → r ≡ s
  pub show : (c : Clerk) (f g : MonthFacts) → Shows c f → Shows c g → f ≡ g

-- wrong versions, each shut out at a named input.
-- Of carries dropped: month 2 starts on day 59 with 58 parts, the mid-term after it falls on day 91 with 10 parts, month 5 is an eclipse month
-- with 3 left of 135, month 2 has number 1 and name 60, month 3 name 29.
-- "Comparing mid-term and new moon by the instant": month 32 is leap.
-- A head that is not at a month's start: that of bu 2 is month 940, day 27,759, no parts; counted from 0 it would be month 1,880.
-- Every bu begun like the first: the eclipse remainder at the head of bu 2 is 43.
-- A clerk that never steps; one that steps past the last month; one that refuses all, the last month, or the month after a bu's last; bu 0 and
-- bu 541.
-- The second of two big months: month 129.
-- One that shows one month for all; one that never shows an eclipse month.
pub record WrongClerks : Type 0 where
  pub day-not-carried : (c : Clerk) → WalksOn 1 2 (Ok c) → c.first_day ≡ 58 → ⊥
  pub parts-not-carried : (c : Clerk) → WalksOn 1 2 (Ok c) → c.small_remainder ≡ 998 → ⊥
  pub term-day-not-carried : (c : Clerk) → WalksOn 1 2 (Ok c) → c.mid_term_day ≡ 90 → ⊥
  pub term-parts-not-carried : (c : Clerk) → WalksOn 1 2 (Ok c) → c.mid_term_parts ≡ 42 → ⊥
  pub eclipse-not-carried : (c : Clerk) → WalksOn 1 5 (Ok c) → c.eclipse_remainder ≡ 138 → ⊥
  pub eclipse-missed : (c : Clerk) → WalksOn 1 5 (Ok c) → c.eclipse ≡ false → ⊥
  pub number-not-round : (c : Clerk) → WalksOn 1 2 (Ok c) → c.number ≡ 13 → ⊥
  pub name-not-round : (c : Clerk) → WalksOn 1 3 (Ok c) → c.first_name ≡ 89 → ⊥
  pub by-instant : (c : Clerk) → WalksOn 1 32 (Ok c) → c.leap ≡ false → ⊥
  pub leap-renumbered : (c : Clerk) → WalksOn 1 32 (Ok c) → c.number ≡ 7 → ⊥
  pub head-between : (c : Clerk) → StartsAt 2 (Ok c) → c.first_day ≡ 27758 → ⊥
  pub head-from-0 : (c : Clerk) → StartsAt 2 (Ok c) → c.month_count ≡ 1880 → ⊥
  pub head-as-the-first : (c : Clerk) → StartsAt 2 (Ok c) → c.eclipse_remainder ≡ 23 → ⊥
  pub never-stepping : (c : Clerk) → StepsOn c (Ok c) → ⊥
  pub one-step-for-all : (c d : Clerk) → StartsAt 1 (Ok c) → StartsAt 2 (Ok d) → (r : Result Clerk Reason) → StepsOn c r → StepsOn d r → ⊥
  pub walks-one-too-few : (c : Clerk) → StartsAt 1 (Ok c) → WalksOn 1 1 (Ok c) → ⊥
  pub past-the-last : (c : Clerk) → WalksOn 540 940 (Ok c) → ⊥
  pub stops-before : (why : Reason) → WalksOn 540 939 (Err why) → ⊥
  pub stops-at-a-bu : (why : Reason) → WalksOn 1 940 (Err why) → ⊥
  pub start-refused : (why : Reason) → StartsAt 1 (Err why) → ⊥
  pub last-bu-refused : (why : Reason) → StartsAt 540 (Err why) → ⊥
  pub bu-0 : (c : Clerk) → StartsAt 0 (Ok c) → ⊥
  pub bu-541 : (c : Clerk) → StartsAt 541 (Ok c) → ⊥
  pub step-refused : (c : Clerk) (why : Reason) → StartsAt 1 (Ok c) → StepsOn c (Err why) → ⊥
  pub by-turns : (c : Clerk) → WalksOn 1 129 (Ok c) → c.month_length ≡ 29 → ⊥
  pub eclipse-not-shown : (c : Clerk) (f : MonthFacts) → WalksOn 1 5 (Ok c) → Shows c f → f.eclipse ≡ false → ⊥
  pub shown-fixed : (c d : Clerk) (f : MonthFacts) → WalksOn 1 0 (Ok c) → WalksOn 1 1 (Ok d) → Shows c f → Shows d f → ⊥
