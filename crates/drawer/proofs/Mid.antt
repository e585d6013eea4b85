-- A list whose first places are filled, one by one, with the images of another list's elements: what a loop that fills has in its middle. It
-- says nothing of this crate.
--     mid g ds ys i    the first i places of ys hold the images of ds's first i elements
--     mid_at           what a filled place holds
--     mid-next         place i is filled too
--     mid-ends         all are filled
-- Assumes nothing.
use Rattle.std.proofs.Common.{◌≡◌, ℕ, zero, suc, ◌+◌, ◌<◌, ◌≤◌, List, [], ◌∷◌, map, length, get_or, set, sym, refl, ap, ◌∙◌, le_of_suc-le-suc, not-suc-le-zero, add-one}
use Rattle.rule.specs.Lists.{placed}

module _ {X Y : Type 0} (g : X → Y) where
  pub mid : List X → List Y → ℕ → List Y
  mid ds ys zero = ys
  mid [] ys (suc i) = ys
  mid (d ∷ ds) [] (suc i) = []
  mid (d ∷ ds) (y ∷ ys) (suc i) = g d ∷ mid ds ys i

  pub mid_none : (ds : List X) (ys : List Y) → mid ds ys 0 ≡ ys
  unfolding mid
  mid_none ds ys = refl

  pub mid_at : (ds : List X) (ys : List Y) (i j : ℕ) (e : X) (z : Y) → j < i → j < length ds → j < length ys → get_or (mid ds ys i) j z ≡ g (get_or ds j e)
  unfolding mid
  mid_at ds ys zero j e z b l m = absurd (not-suc-le-zero b)
  mid_at [] ys (suc i) j e z b l m = absurd (not-suc-le-zero l)
  mid_at (d ∷ ds) [] (suc i) j e z b l m = absurd (not-suc-le-zero m)
  mid_at (d ∷ ds) (y ∷ ys) (suc i) zero e z b l m = refl
  mid_at (d ∷ ds) (y ∷ ys) (suc i) (suc j) e z b l m = mid_at ds ys i j e z (le_of_suc-le-suc b) (le_of_suc-le-suc l) (le_of_suc-le-suc m)

  next : (ds : List X) (ys : List Y) (i : ℕ) (e : X) → i < length ds → i < length ys → set (mid ds ys i) i (g (get_or ds i e)) ≡ mid ds ys (suc i)
  unfolding mid
  next [] ys i e l m = absurd (not-suc-le-zero l)
  next (d ∷ ds) [] i e l m = absurd (not-suc-le-zero m)
  next (d ∷ ds) (y ∷ ys) zero e l m = refl
  next (d ∷ ds) (y ∷ ys) (suc i) e l m = ap (λ (zs : List Y). g d ∷ zs) (next ds ys i e (le_of_suc-le-suc l) (le_of_suc-le-suc m))

  pub mid-next : (ds : List X) (ys : List Y) (i : ℕ) (e : X) (y : Y) → y ≡ g (get_or ds i e) → i < length ds → i < length ys →
      set (mid ds ys i) i y ≡ mid ds ys (i + 1)
  mid-next ds ys i e y is l m = ap (set (mid ds ys i) i) is ∙ next ds ys i e l m ∙ ap (mid ds ys) (sym (add-one i))

  pub mid-ends : (ds : List X) (ys : List Y) → length ds ≤ length ys → mid ds ys (length ds) ≡ placed (map g ds) ys
  unfolding mid
  mid-ends [] ys l = refl
  mid-ends (d ∷ ds) [] l = absurd (not-suc-le-zero l)
  mid-ends (d ∷ ds) (y ∷ ys) l = ap (λ (zs : List Y). g d ∷ zs) (mid-ends ds ys (le_of_suc-le-suc l))
