-- Which answers meet a promise of one guard or of two: what is given, by what it is, and what is refused. Assumes nothing.
use Prim.Native.Nat.{ℕ, ◌≤◌}
use mathlib.Core.Path.{◌≡◌, sym, ◌∙◌}
use mathlib.Core.Logic.{◌↔◌}
use mathlib.Core.Bool.{Bool, true}
use lib.Dec.{leb}
use Rattle.rule.specs.Counts.{SolsticeYearInRange, CivilYearInRange, MonthInRange}
use Rattle.rule.specs.Reasons.{Answer, is, refused, guard, within}
use Rattle.rule.proofs.Answers.{within-true, at_most, passes, holds-all, then-iff, test_iff, one-refused, two-first, two-second, turned, under, same-given}
use Rattle.facts.specs.Facts.{
  solstice_year,
  solstice_year_at,
  year_facts,
  year_facts_at,
  month_facts,
  month_facts_at,
  quarter_of,
  quarter_at,
  term_of,
  term_at,
}

module _ {A : Type 0} where
  -- what is told of an answer that is given
  pub told_is : (x a : A) (b : Answer A) → b ≡ is x → is a ≡ b → a ≡ x
  told_is x a b e p = sym ((same-given x a).0 (sym e ∙ sym p))

-- one guard; L says literally what is given
module _ {A P : Type 0} (t : Bool) (k : ℕ) (x : A) (e : (t ≡ true) ↔ P) where
  pub one-literally : (L : Type 0) (a : A) → (P → (x ≡ a) ↔ L) → (is a ≡ guard t k (is x)) ↔ (P × L)
  one-literally L a f = turned (under (test_iff (then-iff (holds-all t k (is x) a) (same-given x a)) e) f)

  pub one-reason : (refused k ≡ guard t k (is x)) ↔ (P → ⊥)
  one-reason = turned (one-refused t k x e)

-- two guards, one after the other
module _ {A P Q : Type 0} (t s : Bool) (k j : ℕ) (l : k ≡ j → ⊥) (x : A) (e : (t ≡ true) ↔ P) (f : (s ≡ true) ↔ Q) where
  pub two-literally : (L : Type 0) (a : A) → (P → (x ≡ a) ↔ L) → (is a ≡ guard t k (guard s j (is x))) ↔ (P × Q × L)
  two-literally L a g = (λ p. let h = both.0 p in (h.0, h.1.0, h.1.1), λ h. both.1 (h.0, (h.1, h.2)))
    where
      rest : P → (guard s j (is x) ≡ is a) ↔ (Q × L)
      rest p = turned (one-literally s j x f L a (λ q. g p))

      both : (is a ≡ guard t k (guard s j (is x))) ↔ (P × (Q × L))
      both = turned (under (test_iff (holds-all t k (guard s j (is x)) a) e) rest)

  pub two-reason-first : (refused k ≡ guard t k (guard s j (is x))) ↔ (P → ⊥)
  two-reason-first = turned (two-first t s k j l x e f)

  pub two-reason-second : (refused j ≡ guard t k (guard s j (is x))) ↔ (P × (Q → ⊥))
  two-reason-second = turned (two-second t s k j l x e f)

-- what each call gives in range
pub solstice-year-given : (y : ℕ) → SolsticeYearInRange y → solstice_year_at y ≡ is (solstice_year y)
unfolding solstice_year_at
solstice-year-given y h = passes (within 1 41040 y) 1 (is (solstice_year y)) ((within-true 1 41040 y).1 h)

pub year-given : (y : ℕ) → CivilYearInRange y → year_facts_at y ≡ is (year_facts y)
unfolding year_facts_at
year-given y h = passes (leb y 41040) 1 (is (year_facts y)) ((at_most y 41040).1 h)

pub month-given : (n : ℕ) → MonthInRange n → month_facts_at n ≡ is (month_facts n)
unfolding month_facts_at
month-given n h = passes (leb n 507599) 7 (is (month_facts n)) ((at_most n 507599).1 h)

pub quarter-given : (n q : ℕ) → MonthInRange n → q ≤ 3 → quarter_at n q ≡ is (quarter_of n q)
unfolding quarter_at
quarter-given n q h i = passes (leb n 507599) 7 _ ((at_most n 507599).1 h) ∙ passes (leb q 3) 15 (is (quarter_of n q)) ((at_most q 3).1 i)

pub term-given : (y k : ℕ) → SolsticeYearInRange y → k ≤ 23 → term_at y k ≡ is (term_of y k)
unfolding term_at
term-given y k h i = passes (within 1 41040 y) 1 _ ((within-true 1 41040 y).1 h) ∙ passes (leb k 23) 15 (is (term_of y k)) ((at_most k 23).1 i)
