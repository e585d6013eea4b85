-- Laws of a list with a value for each number from 1 on: its places, a store into it, its sum. Assumes nothing.
use Prim.Native.Nat.{ℕ, zero, suc, ◌+◌, ◌-◌, ◌≤◌, ◌<◌}
use native.Mathlib.Nat.{eq-or-lt_of_le, le_of_suc-le-suc, not-suc-le-zero}
use native.Mathlib.Numerals.{add-one}
use native.Mathlib.Omega.{arith}
use mathlib.Core.Path.{◌≡◌, refl, ap, sym, ◌∙◌}
use mathlib.Core.Logic.{⊎_elim}
use mathlib.Core.Bool.{Bool, true, false, cond}
use mathlib.Core.List.{List, [], ◌∷◌, ◌++◌}
use lib.Dec.{eqb}
use lib.ListN.{length, get_or, set, drop, length-append, length-set, get_or-append}
use lib.Seq.{get_or-append_seam, get_or-set_same, get_or-set_other, ext_get_or, drop-cons, set_at, append_snoc}
use borrow.Author.Tests.{eqb-true, eqb-false}
use Rattle.yearbook.specs.Figures.{for_each}

pub each-length : (f : ℕ → ℕ) (w : ℕ) → length (for_each f w) ≡ w
unfolding for_each
each-length f zero = refl
each-length f (suc w) = omega (arith, length-append (for_each f w) (f (suc w) ∷ []), each-length f w)

-- what stands at place i
pub each_at : (f : ℕ → ℕ) (w i : ℕ) → i < w → get_or (for_each f w) i 0 ≡ f (i + 1)
unfolding for_each
each_at f zero i h = absurd (not-suc-le-zero h)
each_at f (suc w) i h =
    ⊎_elim last
    (λ l. get_or-append (for_each f w) (f (suc w) ∷ []) 0 i (omega (arith, each-length f w)) ∙ each_at f w i l)
    (eq-or-lt_of_le (le_of_suc-le-suc h))
  where
    last : i ≡ w → get_or (for_each f w ++ (f (suc w) ∷ [])) i 0 ≡ f (i + 1)
    last e =
        ap (λ (n : ℕ). get_or (for_each f w ++ (f (suc w) ∷ [])) n 0) (e ∙ sym (each-length f w))
        ∙ get_or-append_seam (for_each f w) (f (suc w)) [] 0 ∙ ap f (omega arith)

-- a list that has f's value at every place is that list
pub each-only : (f : ℕ → ℕ) (w : ℕ) (l : List ℕ) → length l ≡ w → ((i : ℕ) → i < w → get_or l i 0 ≡ f (i + 1)) → l ≡ for_each f w
each-only f w l e h =
    ext_get_or 0 l (for_each f w) (e ∙ sym (each-length f w)) (λ i g. h i (omega arith) ∙ sym (each_at f w i (omega arith)))

pub each_same : (f g : ℕ → ℕ) (w : ℕ) → ((k : ℕ) → 1 ≤ k → k ≤ w → f k ≡ g k) → for_each f w ≡ for_each g w
each_same f g w h = each-only g w (for_each f w) (each-length f w) (λ i l. each_at f w i l ∙ h (i + 1) (omega arith) (omega arith))

-- x added at the place of number j
pub each-added : (f g : ℕ → ℕ) (w j x : ℕ) → 1 ≤ j → j ≤ w → ((k : ℕ) → g k ≡ f k + cond (eqb j k) x 0) →
    set (for_each f w) (j - 1) (get_or (for_each f w) (j - 1) 0 + x) ≡ for_each g w
each-added f g w j x low high h =
    each-only g w (set l (j - 1) (get_or l (j - 1) 0 + x)) (length-set l (j - 1) (get_or l (j - 1) 0 + x) ∙ each-length f w) at
  where
    l : List ℕ
    l = for_each f w

    at : (i : ℕ) → i < w → get_or (set l (j - 1) (get_or l (j - 1) 0 + x)) i 0 ≡ g (i + 1)
    at i b = go (eqb j (i + 1)) refl
      where
        go : (t : Bool) → eqb j (i + 1) ≡ t → get_or (set l (j - 1) (get_or l (j - 1) 0 + x)) i 0 ≡ g (i + 1)
        go true e =
            let q : i ≡ j - 1 = omega (arith, eqb-true j (i + 1) e) in
            let r : g (i + 1) ≡ f (i + 1) + x = h (i + 1) ∙ ap (λ (c : Bool). f (i + 1) + cond c x 0) e in
            ap (λ (n : ℕ). get_or (set l (j - 1) (get_or l (j - 1) 0 + x)) n 0) q
            ∙ get_or-set_same l (j - 1) (get_or l (j - 1) 0 + x) 0 (omega (arith, each-length f w))
            ∙ omega (arith, r, each_at f w i b, ap (λ (n : ℕ). get_or l n 0) q)
        go false e =
            let no : ¬ (j ≡ i + 1) = eqb-false j (i + 1) e in
            let r : g (i + 1) ≡ f (i + 1) + 0 = h (i + 1) ∙ ap (λ (c : Bool). f (i + 1) + cond c x 0) e in
            get_or-set_other l (j - 1) i (get_or l (j - 1) 0 + x) 0 (λ q. no (omega (arith, q, low)))
            ∙ omega (arith, r, each_at f w i b)

-- one value more put behind those that stand there
pub each-stored : (f : ℕ → ℕ) (i : ℕ) (old : List ℕ) → i < length old →
    set (for_each f i ++ drop i old) i (f (i + 1)) ≡ for_each f (i + 1) ++ drop (i + 1) old
unfolding for_each
each-stored f i old h =
    ap (λ (l : List ℕ). set (for_each f i ++ l) i (f (i + 1))) (drop-cons old i 0 h)
    ∙ set_at (for_each f i) (get_or old i 0) (drop (suc i) old) (f (i + 1)) i (each-length f i)
    ∙ ap (λ (n : ℕ). for_each f i ++ f n ∷ drop (suc i) old) (add-one i)
    ∙ sym (append_snoc (for_each f i) (f (suc i)) (drop (suc i) old))
    ∙ sym (ap (λ (n : ℕ). for_each f n ++ drop n old) (add-one i))
