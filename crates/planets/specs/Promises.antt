-- What the calls of the planets promise, for every input. Assumes nothing.
use Rattle.rule.specs.declared.Reason.{Reason}
use Rattle.std.specs.Prelude.{Result, ℕ, ◌≡◌}
use Rattle.rule.specs.Reasons.{said, Answer, is, refused, refused-with}
use Rattle.planets.specs.declared.Conjunction.{Conjunction}
use Rattle.planets.specs.declared.Next.{Next}
use Rattle.planets.specs.declared.Pair.{Pair}
use Rattle.planets.specs.Planets.{Planet, conjunction_at, next_at, planet_figures, long_days, long_circle}
use Rattle.planets.specs.Divisors.{Reduced}

-- the k-th conjunction of planet p
abbrev pub KthConjunction : ℕ → ℕ → Result Conjunction Reason → Type 0
KthConjunction p k r = said r ≡ conjunction_at p k

-- the first conjunction of planet p on or after day d
abbrev pub NextConjunction : ℕ → ℕ → Result Next Reason → Type 0
NextConjunction p d r = said r ≡ next_at p d

-- the pair of planet p is what its two long counts are reduced to; "a planet outside 1 to 5 is 19", and there is no other refusal
abbrev pub Reduces : ℕ → Answer Pair → Type 0
Reduces p (is r) = Planet p × Reduced (long_days (planet_figures p)) (long_circle (planet_figures p)) r
Reduces p (refused k) = (Planet p → ⊥) × (k ≡ 19)
Reduces p (refused-with k n) = ⊥

-- the pair of planet p (Paper, Reduction: it is the printed one)
abbrev pub ReducedPair : ℕ → Result Pair Reason → Type 0
ReducedPair p r = Reduces p (said r)
