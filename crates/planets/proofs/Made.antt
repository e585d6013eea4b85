-- What the calls make of the definitions: counts that fit, and each answer where its tests lead. Assumes nothing.
use Prim.Native.Nat.{ℕ, ◌≤◌, ◌<◌, ◌^◌}
use native.Mathlib.Omega.{arith}
use mathlib.Core.Path.{◌≡◌, refl, ap, sym, subst, ◌∙◌}
use mathlib.Core.Bool.{true, false}
use lib.Dec.{leb}
use borrow.Author.Tests.{le-leb}
use Rattle.rule.specs.Reasons.{is, refused, within}
use Rattle.rule.proofs.Answers.{within-true, stops, passes, at_most, fails}
use Rattle.planets.specs.declared.Numbers.{Numbers}
use Rattle.planets.specs.declared.Conjunction.{Conjunction}
use Rattle.planets.specs.declared.Next.{Next}
use Rattle.planets.specs.Planets.{
  numbers_of,
  conjunction_day,
  conjunction_of,
  conjunction_at,
  next_count,
  next_of,
  next_at,
}
use Rattle.planets.specs.Paper.{Good}
use Rattle.planets.specs.Five.{planet_number}
use Rattle.planets.specs.declared.Planet.{Planet}
use Rattle.planets.specs.declared.Planet.TheVariants.{Jupiter, Mars, Saturn, Venus, Mercury}
use Rattle.planets.proofs.Moments.{count-first, next_small}
use Rattle.planets.proofs.Five.{good-planets}

-- a test that fails: the number is beyond
beyond : (a b : ℕ) → b < a → leb a b ≡ false
beyond a b h = (fails (leb a b) (at_most a b)).1 (λ l. omega (arith, h, l))

pub fits-32 : (k : ℕ) → k ≤ 14989859 → k < 2 ^ 32
fits-32 k h = omega (arith, h)

pub some-years : (n : Numbers) → Good n → 0 < n.years
some-years n g = omega (arith, g.some, g.apart)

-- a planet by its name is one of 1 to 5
pub named : {p : ℕ} (it : Planet) → planet_number it ≡ p → within 1 5 p ≡ true
named it e = subst (λ (n : ℕ). within 1 5 n ≡ true) e (in-range it)
  where
    in-range : (it : Planet) → within 1 5 (planet_number it) ≡ true
    in-range Jupiter = refl
    in-range Mars = refl
    in-range Saturn = refl
    in-range Venus = refl
    in-range Mercury = refl

-- a conjunction and its count, as an answer holds them
abbrev pub with_count : ℕ → Conjunction → Next
with_count k x = record { k = k; conjunction = x }

pub made : {m n : Numbers} {k j : ℕ} → m ≡ n → k ≡ j → with_count k (conjunction_of m k) ≡ next_of n j
unfolding next_of
made {m} {n} {k} {j} e f = ap (λ (x : Numbers). with_count k (conjunction_of x k)) e ∙ ap (λ (i : ℕ). with_count i (conjunction_of n i)) f

pub no-planet : (p k : ℕ) → within 1 5 p ≡ false → refused 19 ≡ conjunction_at p k
unfolding conjunction_at
no-planet p k e = sym (stops (within 1 5 p) 19 _ e)

pub next-no-planet : (p d : ℕ) → within 1 5 p ≡ false → refused 19 ≡ next_at p d
unfolding next_at
next-no-planet p d e = sym (stops (within 1 5 p) 19 _ e)

-- of planet p, whose numbers are n
module _ (p : ℕ) {n : Numbers} (t : within 1 5 p ≡ true) (e : n ≡ numbers_of p) where
  pub good : Good n
  good = subst Good (sym e) (good-planets p ((within-true 1 5 p).0 t))

  pub its-years : 0 < n.years
  its-years = some-years n good

  falls : (k : ℕ) → conjunction_day n k ≡ conjunction_day (numbers_of p) k
  falls k = ap (λ (m : Numbers). conjunction_day m k) e

  pub too-late : (k : ℕ) → 14989859 < conjunction_day n k → refused 6 ≡ conjunction_at p k
  unfolding conjunction_at
  too-late k h =
      let d = conjunction_day (numbers_of p) k in
      sym (passes (within 1 5 p) 19 _ t ∙ stops (leb d 14989859) 6 _ (beyond d 14989859 (omega (arith, h, falls k))))

  -- a count beyond the days: so is its conjunction
  pub count-beyond : (k : ℕ) → 14989859 < k → refused 6 ≡ conjunction_at p k
  count-beyond k h = too-late k (omega (arith, h, count-first n good k))

  pub in-time : (k : ℕ) → conjunction_day n k ≤ 14989859 → is (conjunction_of n k) ≡ conjunction_at p k
  unfolding conjunction_at
  in-time k h =
      let d = conjunction_day (numbers_of p) k in
      ap (λ (m : Numbers). is (conjunction_of m k)) e
      ∙ sym (passes (within 1 5 p) 19 _ t ∙ passes (leb d 14989859) 6 _ (le-leb d 14989859 (omega (arith, h, falls k))))

  pub next-no-day : (d : ℕ) → 14989859 < d → refused 6 ≡ next_at p d
  unfolding next_at
  next-no-day d h = sym (passes (within 1 5 p) 19 _ t ∙ stops (leb d 14989859) 6 _ (beyond d 14989859 h))

  -- k is the least count whose conjunction is not before day d
  module _ {d k : ℕ} (i : d ≤ 14989859) (f : k ≡ next_count n d) where
    pub small : k ≤ 14989859
    small = omega (arith, f, next_small n good d, i)

    same_day : conjunction_day n k ≡ conjunction_day (numbers_of p) (next_count (numbers_of p) d)
    same_day = falls k ∙ ap (conjunction_day (numbers_of p)) (f ∙ ap (λ (m : Numbers). next_count m d) e)

    pub next-none : 14989859 < conjunction_day n k → refused 20 ≡ next_at p d
    unfolding next_at
    next-none h =
        let day = conjunction_day (numbers_of p) (next_count (numbers_of p) d) in
        sym
        (passes (within 1 5 p) 19 _ t ∙ passes (leb d 14989859) 6 _ (le-leb d 14989859 i)
        ∙ stops (leb day 14989859) 20 _ (beyond day 14989859 (omega (arith, h, same_day))))

    pub next_one : conjunction_day n k ≤ 14989859 → is (with_count k (conjunction_of n k)) ≡ next_at p d
    unfolding next_at
    next_one h =
        let day = conjunction_day (numbers_of p) (next_count (numbers_of p) d) in
        ap is (made e (f ∙ ap (λ (m : Numbers). next_count m d) e))
        ∙ sym
        (passes (within 1 5 p) 19 _ t ∙ passes (leb d 14989859) 6 _ (le-leb d 14989859 i)
        ∙ passes (leb day 14989859) 20 _ (le-leb day 14989859 (omega (arith, h, same_day))))
