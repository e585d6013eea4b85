-- Laws of counting over a run: what a count gains is how many pass. Big and small months, pairs, eclipse months, months at a place of their bu,
-- days of a name. Assumes nothing.
use Prim.Native.Nat.{ℕ, ◌+◌, ◌-◌, ◌*◌, ◌/◌, ◌%◌, ◌≤◌, ◌<◌}
use native.Mathlib.Omega.{arith}
use mathlib.Core.Path.{◌≡◌, refl, ap, sym, ◌∙◌}
use mathlib.Core.Bool.{Bool, true, false, not}
use lib.Dec.{eqb}
use lib.ListN.{length, length-append}
use borrow.Author.Tests.{eq-eqb, ne_eqb, eqb-true, eqb-false}
use Rattle.rule.specs.Counts.{day_name}
use Rattle.rule.specs.Lists.{those}
use Rattle.rule.specs.Rule.{month_start, month_length, big, pair_starts, eclipse}
use Rattle.rule.proofs.Lists.{bit, Gains, counted, complement, length-same, from-to}
use Rattle.rule.proofs.Months.{start-next, length-range}
use Rattle.rule.proofs.Pairs.{two_starts, fifty_nine, pair-gains}
use Rattle.rule.proofs.Eclipses.{goes_on}
use Rattle.yearbook.specs.Figures.{passing, small, has_name}

-- of no counts none passes
pub none_yet : (p : ℕ → Bool) (a : ℕ) → length (those p a 0) ≡ 0
unfolding those
none_yet p a = refl

-- what u gains on v from one count up to another
gained : (u v : ℕ → ℕ) (p : ℕ → Bool) → Gains u v p → (from to : ℕ) → from ≤ to → u to + v from ≡ u from + v to + passing p from to
gained u v p step from to h =
    let e : from + (to - from) ≡ to = omega arith in omega (arith, ap u e, ap v e, counted u v p step from (to - from))

-- two runs that meet
pub meet : (p : ℕ → Bool) (a b c : ℕ) → a ≤ b → b ≤ c → passing p a b + passing p b c ≡ passing p a c
meet p a b c h g =
    sym (length-append (those p a (b - a)) (those p b (c - b))) ∙ sym (ap length (from-to p a b c h g))

-- the starts gain a day on 29 a month at each big one
big-gains : Gains month_start (λ n. 29 * n) big
unfolding big
big-gains n = go (eqb (month_length n) 30) refl
  where
    go : (b : Bool) → eqb (month_length n) 30 ≡ b → month_start (n + 1) + 29 * n ≡ month_start n + 29 * (n + 1) + bit b
    go true e = omega (arith, start-next n, eqb-true (month_length n) 30 e)
    go false e = let no : ¬ (month_length n ≡ 30) = eqb-false (month_length n) 30 e in omega (arith, start-next n, length-range n)

pub big-counted : (from to : ℕ) → from ≤ to → month_start to + 29 * from ≡ month_start from + 29 * to + passing big from to
big-counted = gained month_start (λ n. 29 * n) big big-gains

-- a month that is not big is small
small_is : (n : ℕ) → small n ≡ not (big n)
unfolding small big
small_is n = go (eqb (month_length n) 30) refl
  where
    go : (b : Bool) → eqb (month_length n) 30 ≡ b → eqb (month_length n) 29 ≡ not b
    go true e = ne_eqb (month_length n) 29 (λ f. omega (arith, eqb-true (month_length n) 30 e))
    go false e =
        let no : ¬ (month_length n ≡ 30) = eqb-false (month_length n) 30 e in eq-eqb (month_length n) 29 (omega (arith, length-range n))

pub small-counted : (from to : ℕ) → passing big from to + passing small from to ≡ to - from
small-counted from to =
    omega (
      arith,
      complement big from (to - from),
      length-same small (λ n. not (big n)) from (to - from) (λ i h. small_is (from + i)),
    )

pub pairs-counted : (from to : ℕ) → from ≤ to →
    month_start to + month_start (to + 1) + 59 * from ≡ month_start from + month_start (from + 1) + 59 * to + passing pair_starts from to
pairs-counted from to h = gained two_starts fifty_nine pair_starts pair-gains from to h

pub eclipses-counted : (from to : ℕ) → from ≤ to → 23 * to / 135 ≡ 23 * from / 135 + passing eclipse from to
eclipses-counted from to h = omega (arith, gained (λ n. 23 * n / 135) (λ n. 0) eclipse goes_on from to h)

-- month n stands at a place of its bu
abbrev pub at_place : ℕ → ℕ → Bool
at_place place n = eqb (n % 940) place

place-gains : (place : ℕ) → place < 940 → Gains (λ n. (n + 939 - place) / 940) (λ n. 0) (at_place place)
place-gains place h n = go (eqb (n % 940) place) refl
  where
    go : (b : Bool) → eqb (n % 940) place ≡ b → (n + 1 + 939 - place) / 940 + 0 ≡ (n + 939 - place) / 940 + 0 + bit b
    go true e = omega (arith, eqb-true (n % 940) place e)
    go false e = let no : ¬ (n % 940 ≡ place) = eqb-false (n % 940) place e in omega arith

pub places-counted : (place from to : ℕ) → place < 940 → from ≤ to →
    (to + 939 - place) / 940 ≡ (from + 939 - place) / 940 + passing (at_place place) from to
places-counted place from to l h =
    omega (arith, gained (λ n. (n + 939 - place) / 940) (λ n. 0) (at_place place) (place-gains place l) from to h)

name-gains : (k : ℕ) → 1 ≤ k → k ≤ 60 → Gains (λ d. (d + 60 - k) / 60) (λ d. 0) (has_name k)
unfolding has_name day_name
name-gains k l h d = go (eqb (d % 60 + 1) k) refl
  where
    go : (b : Bool) → eqb (d % 60 + 1) k ≡ b → (d + 1 + 60 - k) / 60 + 0 ≡ (d + 60 - k) / 60 + 0 + bit b
    go true e = omega (arith, eqb-true (d % 60 + 1) k e)
    go false e = let no : ¬ (d % 60 + 1 ≡ k) = eqb-false (d % 60 + 1) k e in omega arith

pub names-counted : (k from to : ℕ) → 1 ≤ k → k ≤ 60 → from ≤ to → (to + 60 - k) / 60 ≡ (from + 60 - k) / 60 + passing (has_name k) from to
names-counted k from to l m h =
    omega (arith, gained (λ d. (d + 60 - k) / 60) (λ d. 0) (has_name k) (name-gains k l m) from to h)
