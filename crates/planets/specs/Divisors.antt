-- The common divisor of two numbers, by what it is and by how 004 finds it, and numbers reduced by it. Assumes nothing.
use Rattle.std.specs.Prelude.{ℕ, ◌*◌, ◌%◌, ◌<◌, ◌≡◌}
use Rattle.std.specs.Int.{◌∣◌}
use Rattle.planets.specs.declared.Pair.{Pair}

-- it divides both, and every number that divides both divides it
pub record CommonDivisor (a b d : ℕ) : Type 0 where
  pub first : d ∣ a
  pub second : d ∣ b
  pub every : (c : ℕ) → c ∣ a → c ∣ b → c ∣ d

-- "taking the remainder of one by the other until none is left": of a and b this ends with d (Paper, TakingRemainders: with their
-- common divisor)
pub data Remainders : ℕ → ℕ → ℕ → Type 0 where
  none_left : (a : ℕ) → Remainders a 0 a
  again : (a b d : ℕ) → 0 < b → Remainders b (a % b) d → Remainders a b d

-- two counts reduced against each other: so many times their common divisor
pub record Reduced (a b : ℕ) (p : Pair) : Type 0 where
  pub common : ℕ
  pub is-common : CommonDivisor a b common
  pub first : a ≡ p.years * common
  pub second : b ≡ p.conjunctions * common
