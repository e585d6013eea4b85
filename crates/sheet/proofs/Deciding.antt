-- Where an answer comes from: the first fault of a row of questions, or none, and what each answers. Assumes nothing.
use Prim.Native.Nat.{ℕ}
use native.Mathlib.Omega.{arith}
use mathlib.Core.Path.{◌≡◌, refl, ap, sym, ◌∙◌, subst}
use mathlib.Core.Logic.{◌↔◌, ◌⊎◌, inl, inr, ⊎_elim}
use mathlib.Core.Bool.{Bool, true, false}
use Rattle.rule.specs.Reasons.{Answer, is, refused, refused-with, guard, and_then}
use Rattle.rule.proofs.Answers.{stops, passes, fails, given-not}
use Rattle.sheet.specs.Faults.{Row, First, here, later, NoFault}

-- the answer a is refused with the first fault's reason; where all is good it is x; and there is no third
pub record Decides {A : Type 0} (a : Answer A) (x : A) (Fault : ℕ → Type 0) (Good : Type 0) : Type 0 where
  pub told : (r : ℕ) → Fault r → a ≡ refused r
  pub given : Good → a ≡ is x
  pub decided : ((r : ℕ) × Fault r) ⊎ Good

-- nothing is asked
pub asks_nothing : {A : Type 0} (x : A) → Decides (is x) x NoFault (Unit {0})
asks_nothing x = record { told = λ r f. absurd f; given = λ g. refl; decided = inr tt }

-- a guard alone, and a guard before more
module _ {P : Type 0} (t : Bool) (k : ℕ) (e : (t ≡ true) ↔ P) where
  row-decided : (b : Bool) → t ≡ b → ((r : ℕ) × Row P k r) ⊎ P
  row-decided true h = inr (e.0 h)
  row-decided false h = inl (k, record { fails = (fails t e).0 h; reason = refl })

  row_told : {A : Type 0} (a : Answer A) (r : ℕ) → Row P k r → guard t k a ≡ refused r
  row_told a r f = stops t k a ((fails t e).1 f.fails) ∙ ap refused (sym f.reason)

  pub asks : {A : Type 0} (x : A) → Decides (guard t k (is x)) x (Row P k) P
  asks x = record { told = row_told (is x); given = λ p. passes t k (is x) (e.1 p); decided = row-decided t refl }

  pub asks-first : {A : Type 0} {a : Answer A} {x : A} {F : ℕ → Type 0} {G : Type 0} → Decides a x F G → Decides (guard t k a) x (First (Row P k) P F) (P × G)
  asks-first {A} {a} {x} {F} {G} d =
      record {
        told = told;
        given = λ g. passes t k a (e.1 g.0) ∙ d.given g.1;
        decided =
            ⊎_elim (λ (f : (r : ℕ) × Row P k r). inl (f.0, here f.1))
            (λ (p : P). ⊎_elim (λ (f : (r : ℕ) × F r). inl (f.0, later p f.1)) (λ (g : G). inr (p, g)) d.decided)
            (row-decided t refl);
      }
    where
      told : (r : ℕ) → First (Row P k) P F r → guard t k a ≡ refused r
      told r (here f) = row_told a r f
      told r (later p f) = passes t k a (e.1 p) ∙ d.told r f

module _ {A B : Type 0} {a : Answer A} {x : A} {F : ℕ → Type 0} {G : Type 0} (d : Decides a x F G) where
  -- what is asked further of an answer
  pub and-then : (f : A → Answer B) {y : B} {F' : ℕ → Type 0} {G' : Type 0} → Decides (f x) y F' G' → Decides (and_then a f) y (First F G F') (G × G')
  and-then f {y} {F'} {G'} e =
      record {
        told = told;
        given = λ g. goes g.0 ∙ e.given g.1;
        decided =
            ⊎_elim (λ (h : (r : ℕ) × F r). inl (h.0, here h.1))
            (λ (g : G). ⊎_elim (λ (h : (r : ℕ) × F' r). inl (h.0, later g h.1)) (λ (i : G'). inr (g, i)) e.decided)
            d.decided;
      }
    where
      goes : G → and_then a f ≡ f x
      goes g = ap (λ (c : Answer A). and_then c f) (d.given g)

      told : (r : ℕ) → First F G F' r → and_then a f ≡ refused r
      told r (here h) = ap (λ (c : Answer A). and_then c f) (d.told r h)
      told r (later g h) = goes g ∙ e.told r h

  -- what is made of an answer
  pub made-into : (f : A → B) → Decides (and_then a (λ z. is (f z))) (f x) F G
  made-into f =
      record {
        told = λ r h. ap (λ (c : Answer A). and_then c (λ z. is (f z))) (d.told r h);
        given = λ g. ap (λ (c : Answer A). and_then c (λ z. is (f z))) (d.given g);
        decided = d.decided;
      }

-- what an answer tells
module _ {A : Type 0} {a : Answer A} {x : A} {F : ℕ → Type 0} {G : Type 0} (d : Decides a x F G) where
  pub if-given : (z : A) → a ≡ is z → G × (x ≡ z)
  if-given z h =
      ⊎_elim (λ (f : (r : ℕ) × F r). absurd (given-not a z f.0 h (d.told f.0 f.1)))
      (λ (g : G). (g, same (d.given g))) d.decided
    where
      same : a ≡ is x → x ≡ z
      same e = let q : ◌≡◌ {A = Answer A} (is x) (is z) = sym e ∙ h in cc

  pub if-refused : (r : ℕ) → a ≡ refused r → F r
  if-refused r h =
      ⊎_elim (λ (f : (r : ℕ) × F r). subst F (same f.0 (sym (d.told f.0 f.1) ∙ h)) f.1)
      (λ (g : G). absurd (given-not a x r (d.given g) h)) d.decided
    where
      same : (q : ℕ) → ◌≡◌ {A = Answer A} (refused q) (refused r) → q ≡ r
      same q h = cc

  pub reason-iff : (r : ℕ) → (a ≡ refused r) ↔ F r
  reason-iff r = (if-refused r, d.told r)

-- an answer made of another answer: what it was made of
pub made_of : {A B : Type 0} (c : Answer A) (f : A → B) (y : B) → is y ≡ and_then c (λ z. is (f z)) → (z : A) × (c ≡ is z) × (y ≡ f z)
made_of {A} {B} (is z) f y h = (z, refl, (let e : ◌≡◌ {A = Answer B} (is y) (is (f z)) = h in cc))
made_of (refused r) f y h = absurd (let o : ◌≡◌ {A = ℕ} 0 1 = cc in omega arith)
made_of (refused-with r n) f y h = absurd (let o : ◌≡◌ {A = ℕ} 0 1 = cc in omega arith)

pub refused-of : {A B : Type 0} (c : Answer A) (f : A → B) (k : ℕ) → refused k ≡ and_then c (λ z. is (f z)) → c ≡ refused k
refused-of (is z) f k h = absurd (let o : ◌≡◌ {A = ℕ} 0 1 = cc in omega arith)
refused-of {A} {B} (refused r) f k h = let e : ◌≡◌ {A = Answer B} (refused k) (refused r) = h in cc
refused-of (refused-with r n) f k h = absurd (let o : ◌≡◌ {A = ℕ} 0 1 = cc in omega arith)

pub then-made : {A B C : Type 0} (a : Answer A) (f : A → B) (g : B → Answer C) → and_then (and_then a (λ z. is (f z))) g ≡ and_then a (λ z. g (f z))
then-made (is z) f g = refl
then-made (refused r) f g = refl
then-made (refused-with r n) f g = refl

-- one thing after the other, both given or not: where only that is asked, it is decided by the first that stops
module _ {A B C D : Type 0} (a : Answer A) (b : Answer B) (h : A → B → C) (n : ℕ) (z : D) where
  pub stops-there : (r : ℕ) → and_then a (λ x. is n) ≡ refused r → and_then (and_then a (λ x. and_then b (λ y. is (h x y)))) (λ l. is z) ≡ refused r
  stops-there r e = ap (λ (c : Answer A). and_then (and_then c (λ x. and_then b (λ y. is (h x y)))) (λ l. is z)) (refused-of a (λ x. n) r (sym e))

  pub goes_on : (m : ℕ) → and_then a (λ x. is n) ≡ is m → and_then (and_then a (λ x. and_then b (λ y. is (h x y)))) (λ l. is z) ≡ and_then b (λ y. is z)
  goes_on m e =
      let w = made_of a (λ x. n) m (sym e) in
      ap (λ (c : Answer A). and_then (and_then c (λ x. and_then b (λ y. is (h x y)))) (λ l. is z)) w.1 ∙ then-made b (h w.0) (λ l. is z)
