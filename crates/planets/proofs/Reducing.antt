-- The two long counts of each planet are 5,844 times its printed pair, and 5,844 is their common divisor. Assumes nothing.
use Rattle.std.specs.Prelude.{Result, Ok, Err}
use Rattle.rule.specs.declared.Reason.{Reason}
use Prim.Native.Nat.{ℕ, ◌*◌, ◌<◌}
use native.Mathlib.Omega.{arith}
use native.Mathlib.Nat.{eq_of_mul-eq-mul_right}
use mathlib.Core.Path.{◌≡◌, refl, ap, sym, subst, ◌∙◌}
use mathlib.Core.Logic.{◌↔◌}
use Rattle.rule.specs.Reasons.{said, is, refused, reason_number, within}
use Rattle.rule.proofs.Answers.{within-true, same-given, holds-all, passes, one-refused}
use Rattle.planets.specs.declared.Pair.{Pair}
use Rattle.planets.specs.Planets.{Planet, numbers_of, planet_figures, long_days, long_circle, pair_of, pair_at}
use Rattle.planets.specs.Divisors.{CommonDivisor, Reduced}
use Rattle.planets.specs.Promises.{ReducedPair}
use Rattle.planets.specs.Paper.{CommonDivisorOf004, Reduction}
use Rattle.planets.proofs.Divisors.{by_difference, one-divisor}
use Rattle.planets.proofs.Five.{each-planet}
use Rattle.planets.proofs.Refusing.{alone}

-- so many times their common divisor, of two numbers, is one pair
one-pair :
    (a b x y d : ℕ) → 0 < d → a ≡ x * d → b ≡ y * d → CommonDivisor a b d → (r : Pair) →
    Reduced a b r ↔ (r ≡ record { years = x; conjunctions = y })
one-pair a b x y d pos e f h r = (there, back)
  where
    there : Reduced a b r → r ≡ record { years = x; conjunctions = y }
    there q =
        let s = one-divisor a b q.common d q.is-common h in
        let m : r.years ≡ x = eq_of_mul-eq-mul_right d pos r.years x (sym (ap (λ (c : ℕ). r.years * c) s) ∙ sym q.first ∙ e) in
        let n : r.conjunctions ≡ y = eq_of_mul-eq-mul_right d pos r.conjunctions y (sym (ap (λ (c : ℕ). r.conjunctions * c) s) ∙ sym q.second ∙ f) in
        ap (λ (z : ℕ). record { years = z; conjunctions = r.conjunctions }) m ∙ ap (λ (z : ℕ). record { years = x; conjunctions = z }) n

    back : r ≡ record { years = x; conjunctions = y } → Reduced a b r
    back g = subst (Reduced a b) (sym g) (record { common = d; is-common = h; first = e; second = f })

-- a multiple of the one long count and a multiple of the other differ by 5,844
pub common-divisor-of-004 : CommonDivisorOf004
unfolding planet_figures
common-divisor-of-004 =
    each-planet (λ p. CommonDivisor (long_days (planet_figures p)) (long_circle (planet_figures p)) 5844)
    (by_difference 4725 4327 5844 3903 4262 refl)
    (by_difference 1876 879 5844 514 1097 refl)
    (by_difference 9415 9096 5844 5047 5224 refl)
    (by_difference 4661 5830 5844 5441 4350 refl)
    (by_difference 1889 11908 5844 1141 181 refl)

pairs : (p : ℕ) → Planet p → (long_days (planet_figures p) ≡ (numbers_of p).years * 5844) × (long_circle (planet_figures p) ≡ (numbers_of p).conjunctions * 5844)
unfolding numbers_of planet_figures
pairs =
    each-planet (λ p. (long_days (planet_figures p) ≡ (numbers_of p).years * 5844) × (long_circle (planet_figures p) ≡ (numbers_of p).conjunctions * 5844))
    (refl, refl) (refl, refl) (refl, refl) (refl, refl) (refl, refl)

reduced-to : (p : ℕ) → Planet p → (r : Pair) → Reduced (long_days (planet_figures p)) (long_circle (planet_figures p)) r ↔ (r ≡ pair_of (numbers_of p))
reduced-to p h =
    one-pair (long_days (planet_figures p)) (long_circle (planet_figures p)) (numbers_of p).years (numbers_of p).conjunctions 5844 (omega arith)
    (pairs p h).0 (pairs p h).1 (common-divisor-of-004 p h)

pub reduction : Reduction
reduction p r = (λ q. (q.0, (reduced-to p q.0 r).0 q.1), λ q. (q.0, (reduced-to p q.0 r).1 q.1))

-- so the promise is met by the printed pair, or by 19, and by nothing else
pub as-printed : (p : ℕ) (a : Result Pair Reason) → ReducedPair p a ↔ (said a ≡ pair_at p)
unfolding pair_at
as-printed p (Ok r) = (
  λ q. let e = (reduction p r).0 q in ap is e.1 ∙ sym (passes (within 1 5 p) 19 _ ((within-true 1 5 p).1 e.0)),
  λ e. let f = (holds-all (within 1 5 p) 19 (is (pair_of (numbers_of p))) r).0 (sym e) in
      (reduction p r).1 ((within-true 1 5 p).0 f.0, sym ((same-given (pair_of (numbers_of p)) r).0 f.1)),
)
as-printed p (Err why) = (
  λ q. ap refused q.1 ∙ sym ((one-refused (within 1 5 p) 19 (pair_of (numbers_of p)) (within-true 1 5 p)).1 q.0),
  λ e. let k = alone (within 1 5 p) 19 (reason_number why) (pair_of (numbers_of p)) (sym e) in
      ((one-refused (within 1 5 p) 19 (pair_of (numbers_of p)) (within-true 1 5 p)).0 (sym e ∙ ap refused k), k),
)
