-- Two guards in front of a planet's answer: what is given; and the reason of one. Assumes nothing.
use Prim.Native.Nat.{ℕ}
use mathlib.Core.Path.{◌≡◌}
use mathlib.Core.Logic.{◌↔◌}
use mathlib.Core.Bool.{Bool, true, false}
use Rattle.rule.specs.Reasons.{Answer, is, refused, guard}
use Rattle.rule.proofs.Answers.{same-given, never-is, holds-all, then-iff, test_iff}

module _ {A : Type 0} where
  -- of one guard alone there is one reason
  pub alone : (t : Bool) (k j : ℕ) (x : A) → guard t k (is x) ≡ refused j → j ≡ k
  alone true k j x e = absurd (never-is j x e)
  alone false k j x e = let f : ◌≡◌ {A = Answer A} (refused k) (refused j) = e in cc

-- two guards in front of an answer
module _ {A P Q : Type 0} (t s : Bool) (k j : ℕ) (x : A) (e : (t ≡ true) ↔ P) (f : (s ≡ true) ↔ Q) where
  pub given : (y : A) → (guard t k (guard s j (is x)) ≡ is y) ↔ (P × (Q × (x ≡ y)))
  given y = test_iff (then-iff (holds-all t k (guard s j (is x)) y) (test_iff (then-iff (holds-all s j (is x) y) (same-given x y)) f)) e
