-- One step of any state, by additions: each field of the definition as the request says it. Assumes nothing.
use Prim.Native.Nat.{ℕ, ◌+◌, ◌-◌, ◌*◌, ◌≤◌, ◌<◌}
use native.Mathlib.Omega.{arith}
use mathlib.Core.Path.{◌≡◌, refl, ap, sym, ◌∙◌}
use mathlib.Core.Logic.{◌↔◌, ◌⊎◌, inl, inr, ⊎_elim}
use mathlib.Core.Bool.{Bool, true, false, not, false≢true}
use borrow.Author.Tests.{ltb-true, lt-ltb}
use Rattle.rule.specs.declared.Term.{Term}
use Rattle.rule.proofs.Pairs.{lt-or-le}
use Rattle.clerk.specs.declared.Clerk.{Clerk}
use Rattle.clerk.specs.Clerk.{carried, round, days_on, term_ahead, mid_term_ahead, ahead_of, ahead_then, number_then, next_day, next_remainder, next_eclipse, holds, stepped}
use Rattle.clerk.specs.Paper.{OneOn}
use Rattle.clerk.proofs.Carries.{carried-below, carried-over, over_below, over-over, round-within, round-past, days-small, days-big, days-range}

-- 29 days and 499 parts
month-on : (d r : ℕ) → r < 940 →
    (940 * (d + days_on r) + carried 940 (r + 499) ≡ 940 * (d + 29) + (r + 499)) × (carried 940 (r + 499) < 940)
month-on d r h =
    ⊎_elim
    (λ (g : r < 441). let c = carried-below 940 (r + 499) (omega arith) in (omega (arith, c, days-small r g), omega (arith, c)))
    (λ (g : 441 ≤ r). let c = carried-over 940 (r + 499) (omega arith) in (omega (arith, c, days-big r g), omega (arith, c)))
    (lt-or-le r 441)

thirty-on : (r : ℕ) → (days_on r ≡ 30) ↔ (441 ≤ r)
thirty-on r = (λ e. let no : ¬ (r < 441) = λ g. omega (arith, days-small r g) in omega arith, days-big r)

twenty-nine-on : (r : ℕ) → (days_on r ≡ 29) ↔ (r < 441)
twenty-nine-on r = (λ e. let no : ¬ (441 ≤ r) = λ g. omega (arith, days-big r g) in omega arith, days-small r)

-- 15 days and 7 parts of 32
term-on : (t : Term) → t.parts < 32 →
    (32 * (term_ahead t).day + (term_ahead t).parts ≡ 32 * (t.day + 15) + (t.parts + 7)) × ((term_ahead t).parts < 32)
unfolding term_ahead
term-on t h =
    let x = t.parts + 7 in
    ⊎_elim
    (λ (g : x < 32). let c = carried-below 32 x g in let o = over_below 32 x g in (omega (arith, c, o), omega (arith, c)))
    (λ (g : 32 ≤ x). let c = carried-over 32 x g in let o = over-over 32 x g in (omega (arith, c, o), omega (arith, c)))
    (lt-or-le x 32)

mid-term-on : (t : Term) → t.parts < 32 →
    (32 * (mid_term_ahead t).day + (mid_term_ahead t).parts ≡ 32 * (t.day + 2 * 15) + (t.parts + 2 * 7)) × ((mid_term_ahead t).parts < 32)
mid-term-on t h =
    let a = term-on t h in
    let b = term-on (term_ahead t) a.1 in
    (omega (arith, a.0, b.0), b.1)

-- names and numbers come round
name-on : (n l : ℕ) → 1 ≤ n → n ≤ 60 → l ≤ 60 →
    ((n + l ≡ round 60 (n + l)) ⊎ (n + l ≡ round 60 (n + l) + 60)) × (1 ≤ round 60 (n + l)) × (round 60 (n + l) ≤ 60)
name-on n l a b h =
    ⊎_elim
    (λ (g : 60 < n + l). let e = round-past 60 (n + l) g in (inr (omega (arith, e)), omega (arith, e), omega (arith, e)))
    (λ (g : n + l ≤ 60). let e = round-within 60 (n + l) g in (inl (omega (arith, e)), omega (arith, e), omega (arith, e)))
    (lt-or-le 60 (n + l))

eclipse-on : (r : ℕ) → r < 135 →
    ((carried 135 (r + 23) ≡ r + 23) ⊎ (carried 135 (r + 23) + 135 ≡ r + 23)) × (carried 135 (r + 23) < 135)
eclipse-on r h =
    ⊎_elim
    (λ (g : r + 23 < 135). let e = carried-below 135 (r + 23) g in (inl e, omega (arith, e)))
    (λ (g : 135 ≤ r + 23). let e = carried-over 135 (r + 23) g in (inr (omega (arith, e)), omega (arith, e)))
    (lt-or-le (r + 23) 135)

not-false : (b : Bool) → not b ≡ false → b ≡ true
not-false true e = refl
not-false false e = absurd (false≢true (sym e))

not-true : (b : Bool) → not b ≡ true → b ≡ false
not-true true e = absurd (false≢true e)
not-true false e = refl

-- one step
module _ (c : Clerk) where
  held-if : (not (holds c) ≡ false) ↔ (c.mid_term_day < next_day c + days_on (next_remainder c))
  unfolding holds
  held-if = (
    λ e. ltb-true c.mid_term_day (next_day c + days_on (next_remainder c)) (not-false (holds c) e),
    λ l. ap not (lt-ltb c.mid_term_day (next_day c + days_on (next_remainder c)) l),
  )

  kept : (b : Bool) → b ≡ false →
      (number_then b c.number ≡ c.number) × ((ahead_then b (ahead_of c)).day ≡ c.mid_term_day) × ((ahead_then b (ahead_of c)).parts ≡ c.mid_term_parts)
  kept true e = absurd (false≢true (sym e))
  kept false e = (refl, refl, refl)

  gone-on : (b : Bool) → b ≡ true → c.mid_term_parts < 32 →
      (32 * (ahead_then b (ahead_of c)).day + (ahead_then b (ahead_of c)).parts ≡ 32 * (c.mid_term_day + 2 * 15) + (c.mid_term_parts + 2 * 7))
      × ((ahead_then b (ahead_of c)).parts < 32)
  gone-on true e l = mid-term-on (ahead_of c) l
  gone-on false e l = absurd (false≢true e)

  abbrev name : ℕ
  name = round 60 (c.first_name + days_on c.small_remainder)

  named : 1 ≤ c.first_name → c.first_name ≤ 60 →
      ((c.first_name + (next_day c - c.first_day) ≡ name) ⊎ (c.first_name + (next_day c - c.first_day) ≡ name + 60))
      × (1 ≤ name) × (name ≤ 60)
  named a b =
      let e : next_day c - c.first_day ≡ days_on c.small_remainder = omega arith in
      rw (e) (name-on c.first_name (days_on c.small_remainder) a b (omega (arith, days-range c.small_remainder)))

  pub one_on : OneOn c (stepped c)
  unfolding stepped
  one_on =
      record {
        count = refl;
        month = month-on c.first_day c.small_remainder;
        thirty = thirty-on (next_remainder c);
        twenty-nine = twenty-nine-on (next_remainder c);
        ordinary = held-if;
        leap-keeps = λ e. kept (holds c) (not-true (holds c) e);
        next-number = λ e l. ap (λ (b : Bool). number_then b c.number) (not-false (holds c) e) ∙ round-within 12 (c.number + 1) (omega arith);
        after-twelve = λ e l.
            ap (λ (b : Bool). number_then b c.number) (not-false (holds c) e) ∙ omega (arith, l, round-past 12 (c.number + 1) (omega (arith, l)));
        term = λ e. gone-on (holds c) (not-false (holds c) e);
        name = λ h. named h.0 h.1;
        eclipse-rest = eclipse-on c.eclipse_remainder;
        eclipse = (ltb-true (next_eclipse c) 23, lt-ltb (next_eclipse c) 23);
      }
