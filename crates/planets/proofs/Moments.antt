-- Laws of the conjunctions, over any numbers of a planet. Assumes nothing.
use Prim.Native.Nat.{ℕ, ◌+◌, ◌-◌, ◌*◌, ◌/◌, ◌%◌, ◌≤◌, ◌<◌}
use native.Mathlib.Omega.{arith}
use native.Mathlib.Nat.{
  mul_assoc,
  mul_comm,
  add-mul,
  suc-mul,
  mul-le-mul_left,
  mul-le-mul_right,
  le_trans,
  le-div_iff_mul-le,
  div-lt_iff_lt-mul,
  div-mul-le_self,
  lt-div-mul-add,
  div-add-mod',
  mod-lt,
  mul-add-div_right,
  mul-add-mod_self_right,
  div-eq_of_lt,
  mod-eq_of_lt,
  add-mul-div_left,
  add-mul-mod_self_left,
}
use mathlib.Core.Path.{◌≡◌, refl, ap, sym, ◌∙◌, subst}
use mathlib.Core.Logic.{◌↔◌}
use mathlib.Core.Bool.{Bool, true, false}
use lib.Dec.{ltb}
use borrow.Author.Tests.{ltb-true, ltb-false}
use Rattle.planets.specs.declared.Numbers.{Numbers}
use Rattle.planets.specs.Planets.{divisor, step, conjunction_day, conjunction_parts, next_count}
use Rattle.planets.specs.Paper.{Good, Moment, ComesRound, LeastFrom}

-- k times the years, times 1,461: k steps
in-steps : (n : Numbers) (k : ℕ) → k * n.years * 1461 ≡ k * step n
in-steps n k = mul_assoc k n.years 1461 ∙ ap (λ (s : ℕ). k * s) (mul_comm n.years 1461)

-- the least k that a value f rises to d at is one
one-least : (f : ℕ → ℕ) (d k j : ℕ) → (d ≤ f k) × ((i : ℕ) → i < k → f i < d) → (d ≤ f j) × ((i : ℕ) → i < j → f i < d) → k ≡ j
one-least f d k j a b = go (ltb k j) (ltb j k) refl refl
  where
    go : (p q : Bool) → ltb k j ≡ p → ltb j k ≡ q → k ≡ j
    go true q e g = absurd (omega (arith, a.0, b.1 k (ltb-true k j e)))
    go false true e g = absurd (omega (arith, b.0, a.1 j (ltb-true j k g)))
    go false false e g = omega (arith, ltb-false k j e, ltb-false j k g)

-- x by s, rounded up: the least k whose k times s is not below x
up-high : (x s : ℕ) → 0 < s → x ≤ (x + (s - 1)) / s * s
up-high x s h = omega (arith, lt-div-mul-add {a = x + (s - 1)} h)

up-low : (x s j : ℕ) → 0 < s → j < (x + (s - 1)) / s → j * s < x
up-low x s j h l = omega (arith, div-mul-le_self (x + (s - 1)) s, suc-mul j s, mul-le-mul_right s l)

-- a whole part and a rest
whole_part : (d r s : ℕ) → r < s → (d * s + r) / s ≡ d
whole_part d r s h = mul-add-div_right (omega (arith, h)) d r ∙ ap (λ (q : ℕ). d + q) (div-eq_of_lt h) ∙ omega arith

rest_part : (d r s : ℕ) → r < s → (d * s + r) % s ≡ r
rest_part d r s h = mul-add-mod_self_right d s r ∙ mod-eq_of_lt h

module _ (n : Numbers) (g : Good n) where
  some-parts : 0 < divisor n
  some-parts = omega (arith, g.some)

  some-step : 0 < step n
  some-step = omega (arith, g.apart, some-parts)

  day-as : (k : ℕ) → conjunction_day n k ≡ k * step n / divisor n
  unfolding conjunction_day
  day-as k = ap (λ (a : ℕ). a / divisor n) (in-steps n k)

  parts-as : (k : ℕ) → conjunction_parts n k ≡ k * step n % divisor n
  unfolding conjunction_parts
  parts-as k = ap (λ (a : ℕ). a % divisor n) (in-steps n k)

  next-as : (d : ℕ) → next_count n d ≡ (d * divisor n + (step n - 1)) / step n
  unfolding next_count
  next-as d = refl

  -- a day is not after the k-th conjunction exactly where its parts are not after it
  not-before : (d k : ℕ) → (d ≤ conjunction_day n k) ↔ (d * divisor n ≤ k * step n)
  not-before d k = rw (day-as k) (le-div_iff_mul-le some-parts)

  before : (d k : ℕ) → (conjunction_day n k < d) ↔ (k * step n < d * divisor n)
  before d k = rw (day-as k) (div-lt_iff_lt-mul some-parts)

  -- a conjunction's day is never before its count: they are a day or more apart
  pub count-first : (k : ℕ) → k ≤ conjunction_day n k
  count-first k = (not-before k k).1 (mul-le-mul_left k g.apart)

  -- the days do not fall
  pub days-rise : (j k : ℕ) → j ≤ k → conjunction_day n j ≤ conjunction_day n k
  days-rise j k h =
      (not-before (conjunction_day n j) k).1
      (le_trans (rw (day-as j) (div-mul-le_self (j * step n) (divisor n))) (mul-le-mul_right (step n) h))

  -- the count of the first one on or after a day
  pub next-least : (d : ℕ) → LeastFrom n d (next_count n d)
  next-least d =
      rw (next-as d)
      ((not-before d _).1 (up-high (d * divisor n) (step n) some-step), λ j h. (before d j).1 (up-low (d * divisor n) (step n) j some-step h))

  pub next-only : (d k : ℕ) → (k ≡ next_count n d) ↔ LeastFrom n d k
  next-only d k = (λ e. subst (LeastFrom n d) (sym e) (next-least d), λ l. one-least (conjunction_day n) d k (next_count n d) l (next-least d))

  -- it is no more than the day's own number
  pub next_small : (d : ℕ) → next_count n d ≤ d
  next_small d = go (ltb d (next_count n d)) refl
    where
      go : (b : Bool) → ltb d (next_count n d) ≡ b → next_count n d ≤ d
      go true e = absurd (omega (arith, count-first d, (next-least d).1 d (ltb-true d (next_count n d) e)))
      go false e = ltb-false d (next_count n d) e

  defined : (k : ℕ) → Moment n k (conjunction_day n k) (conjunction_parts n k)
  unfolding conjunction_day conjunction_parts
  defined k = record { moment = div-add-mod' (k * n.years * 1461) (divisor n); rest = mod-lt (k * n.years * 1461) some-parts }

  pub moment : (k d r : ℕ) → Moment n k d r ↔ ((d ≡ conjunction_day n k) × (r ≡ conjunction_parts n k))
  unfolding conjunction_day conjunction_parts
  moment k d r = (
    λ m. (
      sym (whole_part d r (divisor n) m.rest) ∙ ap (λ (a : ℕ). a / divisor n) m.moment,
      sym (rest_part d r (divisor n) m.rest) ∙ ap (λ (a : ℕ). a % divisor n) m.moment,
    ),
    λ q. subst (λ (x : ℕ). Moment n k x r) (sym q.0) (subst (Moment n k (conjunction_day n k)) (sym q.1) (defined k)),
  )

  pub comes-round : (k : ℕ) → ComesRound n k
  comes-round k =
      record {
        day =
            day-as (k + divisor n)
            ∙ ap (λ (a : ℕ). a / divisor n) more
            ∙ add-mul-div_left (k * step n) (step n) some-parts
            ∙ ap (λ (a : ℕ). a + step n) (sym (day-as k));
        parts =
            parts-as (k + divisor n)
            ∙ ap (λ (a : ℕ). a % divisor n) more
            ∙ add-mul-mod_self_left (k * step n) (divisor n) (step n)
            ∙ sym (parts-as k);
      }
    where
      more : (k + divisor n) * step n ≡ k * step n + divisor n * step n
      more = add-mul k (divisor n) (step n)
