-- What holds of each of the five planets: their numbers are good, and their figures are the rule's k = 1. Assumes nothing.
use Prim.Native.Nat.{ℕ, zero, suc, ◌<◌}
use native.Mathlib.Omega.{arith}
use mathlib.Core.Path.{◌≡◌, refl}
use Rattle.planets.specs.Planets.{Planet, numbers_of, planet_figures, figures, long_circle, divisor, conjunction_day, conjunction_parts}
use Rattle.planets.specs.Paper.{Good, GoodPlanets}

-- what holds of 1, 2, 3, 4 and 5 holds of every planet
pub each-planet : (P : ℕ → Type 0) → P 1 → P 2 → P 3 → P 4 → P 5 → (p : ℕ) → Planet p → P p
each-planet P a b c d e zero h = absurd (omega (arith, h.0))
each-planet P a b c d e (suc zero) h = a
each-planet P a b c d e (suc (suc zero)) h = b
each-planet P a b c d e (suc (suc (suc zero))) h = c
each-planet P a b c d e (suc (suc (suc (suc zero)))) h = d
each-planet P a b c d e (suc (suc (suc (suc (suc zero))))) h = e
each-planet P a b c d e (suc (suc (suc (suc (suc (suc p)))))) h = absurd (omega (arith, h.1))

-- the fifth, where it is none of the others
pub last : (p : ℕ) → Planet p → (p ≡ 1 → ⊥) → (p ≡ 2 → ⊥) → (p ≡ 3 → ⊥) → (p ≡ 4 → ⊥) → p ≡ 5
last p h a b c d = each-planet (λ q. p ≡ q → p ≡ 5) (λ e. absurd (a e)) (λ e. absurd (b e)) (λ e. absurd (c e)) (λ e. absurd (d e)) (λ e. e) p h refl

pub good-planets : GoodPlanets
unfolding numbers_of
good-planets =
    each-planet (λ p. Good (numbers_of p))
    (record { some = omega arith; apart = omega arith })
    (record { some = omega arith; apart = omega arith })
    (record { some = omega arith; apart = omega arith })
    (record { some = omega arith; apart = omega arith })
    (record { some = omega arith; apart = omega arith })

pub figures-are-first : (p : ℕ) → Planet p → planet_figures p ≡ figures (conjunction_day (numbers_of p) 1) (conjunction_parts (numbers_of p) 1) (divisor (numbers_of p))
unfolding numbers_of planet_figures conjunction_day conjunction_parts
figures-are-first =
    each-planet
    (λ p. planet_figures p ≡ figures (conjunction_day (numbers_of p) 1) (conjunction_parts (numbers_of p) 1) (divisor (numbers_of p)))
    refl refl refl refl refl

pub some-circle : (p : ℕ) → Planet p → 0 < long_circle (planet_figures p)
unfolding planet_figures
some-circle = each-planet (λ p. 0 < long_circle (planet_figures p)) (omega arith) (omega arith) (omega arith) (omega arith) (omega arith)
