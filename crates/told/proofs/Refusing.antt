-- Laws of refusals as texts: a text tells the number, and no other line is one. Assumes nothing.
use Prim.Native.Nat.{ℕ}
use native.Mathlib.Omega.{arith}
use mathlib.Core.Path.{◌≡◌, refl, ap, sym, ◌∙◌}
use mathlib.Core.Logic.{◌↔◌}
use mathlib.Core.Bool.{Bool, true, false}
use mathlib.Core.List.{List, [], ◌∷◌, ◌++◌, append_assoc}
use lib.Dec.{eqb}
use lib.ListN.{get_or, drop}
use borrow.Author.Tests.{eqb-false}
use Rattle.rule.specs.Reasons.{Answer, is, refused, refused-with, guard, and_then}
use Rattle.fields.specs.Fields.{decimal, followed}
use Rattle.fields.proofs.Paper.{first-tells}
use Rattle.told.specs.Answers.{words_numbered, refused_text, told}

-- the text of a refusal tells its number
refused-once : (j k : ℕ) → refused_text j ≡ refused_text k → j ≡ k
unfolding refused_text followed
refused-once j k e = first-tells j k _ _ (sym (after j) ∙ ap (drop 8) e ∙ after k)
  where
    after : (i : ℕ) → drop 8 (refused_text i) ≡ decimal i ++ (32 ∷ (words_numbered i ++ (10 ∷ [])))
    after i = append_assoc (decimal i) (32 ∷ words_numbered i) (10 ∷ [])

-- an answer that is no refusal with a total
abbrev pub NeverWith : {A : Type 0} → Answer A → Type 0
NeverWith a = (j n : ℕ) → a ≡ refused-with j n → ⊥

module _ {A : Type 0} where
  pub never-is : (x : A) → NeverWith (is x)
  never-is x j n e = let g : ◌≡◌ {A = Answer A} (is x) (refused-with j n) = e in let o : ◌≡◌ {A = ℕ} 0 1 = cc in omega arith

  pub never-refused : (k : ℕ) → NeverWith {A = A} (refused k)
  never-refused k j n e = let g : ◌≡◌ {A = Answer A} (refused k) (refused-with j n) = e in let o : ◌≡◌ {A = ℕ} 0 1 = cc in omega arith

  pub never-guard : (t : Bool) (k : ℕ) (a : Answer A) → NeverWith a → NeverWith (guard t k a)
  never-guard true k a h = h
  never-guard false k a h = never-refused k

  pub never-one : (t : Bool) (k : ℕ) (x : A) → NeverWith (guard t k (is x))
  never-one t k x = never-guard t k (is x) (never-is x)

  pub never-two : (t : Bool) (k : ℕ) (s : Bool) (j : ℕ) (x : A) → NeverWith (guard t k (guard s j (is x)))
  never-two t k s j x = never-guard t k (guard s j (is x)) (never-one s j x)

-- a line that starts with another byte than `R` is no refusal
abbrev pub NoRefusal : List ℕ → Type 0
NoRefusal text = eqb (get_or text 0 0) 82 ≡ false

not-refusal : (text : List ℕ) (k : ℕ) → NoRefusal text → text ≡ refused_text k → ⊥
unfolding refused_text followed
not-refusal text k h e = eqb-false (get_or text 0 0) 82 h (ap (λ (s : List ℕ). get_or s 0 0) e)

pub never-then : {A B : Type 0} (a : Answer A) (f : A → Answer B) → NeverWith a → ((x : A) → NeverWith (f x)) → NeverWith (and_then a f)
never-then (is x) f h g = g x
never-then (refused k) f h g = never-refused k
never-then (refused-with k n) f h g = λ j i e. h k n refl

-- an answer's text is the refusal of number k exactly where the answer is
pub tells-refusal : {A : Type 0} (f : A → List ℕ) (a : Answer A) → ((x : A) → a ≡ is x → NoRefusal (f x)) → NeverWith a →
    (k : ℕ) → (told f a ≡ refused_text k) ↔ (a ≡ refused k)
tells-refusal f (is x) h n k = (λ e. absurd (not-refusal (f x) k (h x refl) e), λ e. ap (told f) e)
tells-refusal f (refused j) h n k = (λ e. ap refused (refused-once j k e), λ e. ap (told f) e)
tells-refusal f (refused-with j i) h n k = (λ e. absurd (n j i refl), λ e. ap (told f) e)
