-- Laws of the text of a list: of its front and one thing more. Assumes nothing.
use Prim.Native.Nat.{ℕ, ◌+◌, ◌<◌}
use native.Mathlib.Numerals.{add-one}
use mathlib.Core.Path.{◌≡◌, refl, ap, sym, ◌∙◌}
use mathlib.Core.List.{List, [], ◌∷◌, ◌++◌, append-nil, append_assoc}
use lib.ListN.{length, get_or, take}
use lib.Seq.{take-suc}
use mathlib.Core.Bool.{true}
use Rattle.rule.specs.Lists.{those}
use Rattle.fields.specs.Fields.{each}

-- the front of a list, and one thing more
pub front-next : (s : List ℕ) (i : ℕ) → i < length s → take (i + 1) s ≡ take i s ++ (get_or s i 0 ∷ [])
front-next s i h = ap (λ (j : ℕ). take j s) (add-one i) ∙ take-suc s i 0 h

-- a text for each thing of a list, and for one thing more: of a list's front, and of a run of counts
module _ (f : ℕ → List ℕ) where
  each_append : (ys zs : List ℕ) → each f (ys ++ zs) ≡ each f ys ++ each f zs
  unfolding each
  each_append [] zs = refl
  each_append (y ∷ ys) zs = ap (λ (l : List ℕ). f y ++ l) (each_append ys zs) ∙ sym (append_assoc (f y) (each f ys) (each f zs))

  each_last : (ys : List ℕ) (z : ℕ) → each f (ys ++ (z ∷ [])) ≡ each f ys ++ f z
  unfolding each
  each_last ys z = each_append ys (z ∷ []) ∙ ap (λ (l : List ℕ). each f ys ++ l) (append-nil (f z))

  pub each_next : (xs : List ℕ) (i : ℕ) → i < length xs → each f (take (i + 1) xs) ≡ each f (take i xs) ++ f (get_or xs i 0)
  each_next xs i h = ap (each f) (front-next xs i h) ∙ each_last (take i xs) (get_or xs i 0)

  pub each-count : (a i : ℕ) → each f (those (λ n. true) a (i + 1)) ≡ each f (those (λ n. true) a i) ++ f (a + i)
  unfolding those
  each-count a i = ap (λ (k : ℕ). each f (those (λ n. true) a k)) (add-one i) ∙ each_last (those (λ n. true) a i) (a + i)
