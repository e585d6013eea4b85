-- The clerk's own way (W3): one step by additions on plain numbers, for every state that can be put together; the start at a bu's head; what
-- the four calls promise. Assumes nothing.
use Rattle.rule.specs.declared.Reason.{Reason}
use Rattle.std.specs.Prelude.{Result, ℕ, zero, suc, ◌+◌, ◌-◌, ◌*◌, ◌%◌, ◌≡◌, Bool, true, false, cond, not, ◌&&◌, leb, ltb}
use Rattle.rule.specs.Counts.{day_name}
use Rattle.rule.specs.Rule.{marked}
use Rattle.rule.specs.Reasons.{said, Answer, is, guard, within, and_then}
use Rattle.rule.specs.declared.Term.{Term}
use Rattle.facts.specs.declared.MonthFacts.{MonthFacts}
use Rattle.clerk.specs.declared.Clerk.{Clerk}

-- a carry: parts are counted from 0, and where a sum of them has come to a whole, the whole is taken off and one goes over
unfoldable pub carried : ℕ → ℕ → ℕ
carried whole x = cond (leb whole x) (x - whole) x

unfoldable pub over : ℕ → ℕ → ℕ
over whole x = cond (leb whole x) 1 0

-- numbers and names are counted from 1: after the last comes the first again
unfoldable pub round : ℕ → ℕ → ℕ
round last x = cond (ltb last x) (x - last) x

-- "from one month's first day and small remainder to the next by adding 29 days and 499 parts": so many days from the first day of a month
-- with that remainder to the next month's
unfoldable pub days_on : ℕ → ℕ
days_on rest = 29 + over 940 (rest + 499)

-- "from one term to the next by 15 days and 7 parts of 32"; from one mid-term to the next are two terms
unfoldable pub term_ahead : Term → Term
term_ahead t = record { day = t.day + 15 + over 32 (t.parts + 7); parts = carried 32 (t.parts + 7) }

abbrev pub mid_term_ahead : Term → Term
mid_term_ahead t = term_ahead (term_ahead t)

-- the next mid-term after the month at which the clerk stands
abbrev pub ahead_of : Clerk → Term
ahead_of c = record { day = c.mid_term_day; parts = c.mid_term_parts }

-- the next month's first day, small remainder and eclipse remainder
abbrev pub next_day : Clerk → ℕ
next_day c = c.first_day + days_on c.small_remainder

abbrev pub next_remainder : Clerk → ℕ
next_remainder c = carried 940 (c.small_remainder + 499)

abbrev pub next_eclipse : Clerk → ℕ
next_eclipse c = carried 135 (c.eclipse_remainder + 23)

-- whether the mid-term ahead falls on one of the next month's days, whole days compared: it comes before that month ends
unfoldable pub holds : Clerk → Bool
holds c = ltb c.mid_term_day (next_day c + days_on (next_remainder c))

-- the mid-term ahead then: where the month holds it, the next
abbrev pub ahead_then : Bool → Term → Term
ahead_then true t = mid_term_ahead t
ahead_then false t = t

-- and the number: a month that holds a mid-term has the next, a leap month that of the month before it
abbrev pub number_then : Bool → ℕ → ℕ
number_then true k = round 12 (k + 1)
number_then false k = k

-- one step
unfoldable pub stepped : Clerk → Clerk
stepped c =
    record {
      month_count = c.month_count + 1;
      first_day = next_day c;
      mid_term_day = (ahead_then (holds c) (ahead_of c)).day;
      small_remainder = next_remainder c;
      number = number_then (holds c) c.number;
      leap = not (holds c);
      month_length = days_on (next_remainder c);
      first_name = round 60 (c.first_name + days_on c.small_remainder);
      eclipse = ltb (next_eclipse c) 23;
      eclipse_remainder = next_eclipse c;
      mid_term_parts = (ahead_then (holds c) (ahead_of c)).parts;
    }

-- the clerk stands before the last month, 507,599, which starts on day 14,989,830. For every state that a start leads to the count alone says
-- so (Paper, RefusedAtTheLast); the first day keeps every sum of a state that no start leads to from growing without end.
abbrev pub before_last : Clerk → Bool
before_last c = ltb c.month_count 507599 && ltb c.first_day 14989830

-- "a step past the last month is 7"
unfoldable pub step_at : Clerk → Answer Clerk
step_at c = guard (before_last c) 7 (is (stepped c))

-- the head of bu b, counted from the origin: 940 months and 27,759 days for each bu before it, an ordinary month 11 that starts at midnight
-- together with its mid-term; the eclipse remainder is 23 for the first month of all, and 20 more for each bu, 23 × 940 being 20 more than
-- 160 × 135
unfoldable pub head : ℕ → Clerk
head b =
    record {
      month_count = 940 * (b - 1);
      first_day = 27759 * (b - 1);
      mid_term_day = (mid_term_ahead (record { day = 27759 * (b - 1); parts = 0 })).day;
      small_remainder = 0;
      number = 11;
      leap = false;
      month_length = days_on 0;
      first_name = day_name (27759 * (b - 1));
      eclipse = ltb ((23 + 20 * (b - 1)) % 135) 23;
      eclipse_remainder = (23 + 20 * (b - 1)) % 135;
      mid_term_parts = (mid_term_ahead (record { day = 27759 * (b - 1); parts = 0 })).parts;
    }

-- "It starts at the origin or at any bu's head": "Bu heads are counted from the origin, 1 to 540 .. a bu outside that range is 21"
unfoldable pub start_at : ℕ → Answer Clerk
start_at b = guard (within 1 540 b) 21 (is (head b))

-- so many steps from a bu's head, one at a time
unfoldable pub walked : ℕ → ℕ → Answer Clerk
walked b zero = start_at b
walked b (suc k) = and_then (walked b k) step_at

-- what the clerk shows of the month at which it stands, beside its count
unfoldable pub shown : Clerk → MonthFacts
shown c =
    record {
      month = marked c.leap c.number;
      first_day = c.first_day;
      small_remainder = c.small_remainder;
      month_length = c.month_length;
      first_name = c.first_name;
      eclipse = c.eclipse;
    }

-- a start at a bu's head
abbrev pub StartsAt : ℕ → Result Clerk Reason → Type 0
StartsAt b r = said r ≡ start_at b

-- a step
abbrev pub StepsOn : Clerk → Result Clerk Reason → Type 0
StepsOn c r = said r ≡ step_at c

-- a start and so many steps
abbrev pub WalksOn : ℕ → ℕ → Result Clerk Reason → Type 0
WalksOn b k r = said r ≡ walked b k

-- what is shown
abbrev pub Shows : Clerk → MonthFacts → Type 0
Shows c f = f ≡ shown c
