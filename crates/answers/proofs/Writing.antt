-- Laws of a text to which an answer is written. Assumes nothing.
use Rattle.std.proofs.Common.{ℕ, ◌≡◌, List, [], ◌∷◌, ◌++◌, ◌≤◌, length, arith, ap, sym, append_assoc, ◌∙◌}
use Rattle.rule.specs.Reasons.{Answer}
use Rattle.fields.specs.Fields.{joined, lined}
use Rattle.fields.proofs.Paper.{joined-more}
use Rattle.told.specs.Answers.{told}

-- the text of what a call said is the text of what it promised to say
pub tells : {A R : Type 0} (f : A → List ℕ) (said : R → Answer A) {r s : R} {x : Answer A} → said r ≡ x → r ≡ s → told f (said s) ≡ told f x
tells {R = R} f said e g = sym (ap (λ (z : R). told f (said z)) g) ∙ ap (told f) e

-- fields, further fields after a space, and the line's end, behind a text
pub further : (t : List ℕ) (fs gs : List (List ℕ)) → 1 ≤ length fs → 1 ≤ length gs → ((t ++ joined fs) ++ (32 ∷ joined gs)) ++ (10 ∷ []) ≡ t ++ lined (fs ++ gs)
further t [] gs h i = absurd (omega arith)
further t (f ∷ fs) [] h i = absurd (omega arith)
further t (f ∷ fs) (g ∷ gs) h i = rw (joined-more f g fs gs) (simp append_assoc)

-- the further fields in three parts, and in four
module _ (t : List ℕ) (fs gs : List (List ℕ)) (h : 1 ≤ length fs) (i : 1 ≤ length gs) where
  pub in-three : (a b c : List ℕ) → a ++ (b ++ c) ≡ 32 ∷ joined gs → ((((t ++ joined fs) ++ a) ++ b) ++ c) ++ (10 ∷ []) ≡ t ++ lined (fs ++ gs)
  in-three a b c e =
      rw (append_assoc (t ++ joined fs) a b, append_assoc (t ++ joined fs) (a ++ b) c, append_assoc a b c, e) (further t fs gs h i)

  pub in-four : (a b c d : List ℕ) → a ++ (b ++ (c ++ d)) ≡ 32 ∷ joined gs → (((((t ++ joined fs) ++ a) ++ b) ++ c) ++ d) ++ (10 ∷ []) ≡ t ++ lined (fs ++ gs)
  in-four a b c d e = rw (append_assoc (t ++ joined fs) a b) (in-three (a ++ b) c d (append_assoc a b (c ++ d) ∙ e))
