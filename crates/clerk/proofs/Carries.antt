-- Laws of a carry: a comparison and a subtraction. Assumes nothing.
use Prim.Native.Nat.{ℕ, ◌+◌, ◌-◌, ◌≤◌, ◌<◌}
use native.Mathlib.Omega.{arith}
use mathlib.Core.Path.{◌≡◌}
use mathlib.Core.Bool.{Bool, true, false, cond, not}
use lib.Dec.{leb, ltb}
use borrow.Author.Tests.{lt-leb, le-leb, lt-ltb, le-ltb}
use Rattle.rule.specs.declared.Term.{Term}
use Rattle.clerk.specs.declared.Clerk.{Clerk}
use Rattle.clerk.specs.Clerk.{carried, over, round, days_on, term_ahead, ahead_of, holds, ahead_then, number_then, stepped}

module _ (whole x : ℕ) where
  pub carried-below : x < whole → carried whole x ≡ x
  unfolding carried
  carried-below h = rw (lt-leb whole x h)

  pub carried-over : whole ≤ x → carried whole x ≡ x - whole
  unfolding carried
  carried-over h = rw (le-leb whole x h)

  pub over_below : x < whole → over whole x ≡ 0
  unfolding over
  over_below h = rw (lt-leb whole x h)

  pub over-over : whole ≤ x → over whole x ≡ 1
  unfolding over
  over-over h = rw (le-leb whole x h)

  pub round-within : x ≤ whole → round whole x ≡ x
  unfolding round
  round-within h = rw (le-ltb whole x h)

  pub round-past : whole < x → round whole x ≡ x - whole
  unfolding round
  round-past h = rw (lt-ltb whole x h)

-- a month with a small remainder below 441 has 29 days, any other 30
pub days-small : (r : ℕ) → r < 441 → days_on r ≡ 29
unfolding days_on
days-small r h = omega (arith, over_below 940 (r + 499) (omega arith))

pub days-big : (r : ℕ) → 441 ≤ r → days_on r ≡ 30
unfolding days_on
days-big r h = omega (arith, over-over 940 (r + 499) (omega arith))

-- a term ahead, by its day and its parts
pub term_made : (t : Term) (d p : ℕ) → d ≡ t.day + 15 + over 32 (t.parts + 7) → p ≡ carried 32 (t.parts + 7) →
    record { day = d; parts = p } ≡ term_ahead t
unfolding term_ahead
term_made t d p e f = cc

-- it is 15 or 16 days on
pub term-near : (t : Term) → (term_ahead t).day ≤ t.day + 16
unfolding term_ahead over
term-near t = go (leb 32 (t.parts + 7))
  where
    go : (b : Bool) → t.day + 15 + cond b 1 0 ≤ t.day + 16
    go true = omega arith
    go false = omega arith

pub days-range : (r : ℕ) → (29 ≤ days_on r) × (days_on r ≤ 30)
unfolding days_on over
days-range r = go (leb 940 (r + 499))
  where
    go : (b : Bool) → (29 ≤ 29 + cond b 1 0) × (29 + cond b 1 0 ≤ 30)
    go true = (omega arith, omega arith)
    go false = (omega arith, omega arith)

-- the next month, by its parts
module _ (c : Clerk) (days rest length : ℕ) (held : Bool) (t : Term) (number name eclipse-rest : ℕ) where
  pub stepped-made :
      days ≡ days_on c.small_remainder → rest ≡ carried 940 (c.small_remainder + 499) → length ≡ days_on rest →
      held ≡ ltb c.mid_term_day (c.first_day + days + length) → t ≡ ahead_then held (ahead_of c) → number ≡ number_then held c.number →
      name ≡ round 60 (c.first_name + days) → eclipse-rest ≡ carried 135 (c.eclipse_remainder + 23) →
      record {
        month_count = c.month_count + 1;
        first_day = c.first_day + days;
        mid_term_day = t.day;
        small_remainder = rest;
        number = number;
        leap = not held;
        month_length = length;
        first_name = name;
        eclipse = ltb eclipse-rest 23;
        eclipse_remainder = eclipse-rest;
        mid_term_parts = t.parts;
      }
      ≡ stepped c
  unfolding stepped holds
  stepped-made e f g h i j k l = cc
