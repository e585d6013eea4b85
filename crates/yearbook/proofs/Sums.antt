-- Laws of sums: the counts by kind make up the count of all. Assumes nothing.
use Prim.Native.Nat.{ℕ, zero, suc, ◌+◌, ◌≤◌, ◌<◌}
use native.Mathlib.Nat.{eq-or-lt_of_le}
use native.Mathlib.Omega.{arith}
use mathlib.Core.Path.{◌≡◌, refl, ap, sym, ◌∙◌}
use mathlib.Core.Logic.{⊎_elim}
use mathlib.Core.Bool.{Bool, true, false, ◌&&◌}
use mathlib.Core.List.{List, [], ◌∷◌, ◌++◌}
use lib.Dec.{eqb}
use lib.ListN.{length, get_or, get_or-eq_default}
use borrow.Author.Tests.{eq-eqb, ne_eqb}
use Rattle.rule.specs.Lists.{those}
use Rattle.rule.proofs.Lists.{bit, length_more}
use Rattle.rule.proofs.Pairs.{lt-or-le}
use Rattle.yearbook.specs.Figures.{for_each}
use Rattle.yearbook.specs.Paper.{sum_of}
use Rattle.yearbook.proofs.Passing.{none_yet}
use Rattle.yearbook.proofs.Each.{each-length, each_at, each_same}

sum-last : (xs : List ℕ) (x : ℕ) → sum_of (xs ++ (x ∷ [])) ≡ sum_of xs + x
unfolding sum_of
sum-last [] x = omega arith
sum-last (y ∷ xs) x = omega (arith, sum-last xs x)

sum_more : (f : ℕ → ℕ) (w : ℕ) → sum_of (for_each f (suc w)) ≡ sum_of (for_each f w) + f (suc w)
unfolding for_each
sum_more f w = sum-last (for_each f w) (f (suc w))

sum-none : (f : ℕ → ℕ) → sum_of (for_each f 0) ≡ 0
unfolding for_each sum_of
sum-none f = refl

sum-plus : (f g : ℕ → ℕ) (w : ℕ) → sum_of (for_each (λ k. f k + g k) w) ≡ sum_of (for_each f w) + sum_of (for_each g w)
sum-plus f g zero = omega (arith, sum-none f, sum-none g, sum-none (λ k. f k + g k))
sum-plus f g (suc w) = omega (arith, sum_more f w, sum_more g w, sum_more (λ k. f k + g k) w, sum-plus f g w)

sum-noughts : (f : ℕ → ℕ) (w : ℕ) → ((k : ℕ) → f k ≡ 0) → sum_of (for_each f w) ≡ 0
sum-noughts f zero h = sum-none f
sum-noughts f (suc w) h = omega (arith, sum_more f w, sum-noughts f w h, h (suc w))

-- one of the numbers from 1 to w is v, where v is one of them
module _ (v : ℕ) where
  abbrev is_it : ℕ → ℕ
  is_it k = bit (eqb v k)

  not_yet : (w : ℕ) → w < v → sum_of (for_each is_it w) ≡ 0
  not_yet zero h = sum-none is_it
  not_yet (suc w) h = omega (arith, sum_more is_it w, not_yet w (omega arith), ap bit (ne_eqb v (suc w) (λ e. omega (arith, e))))

  by-then : (w : ℕ) → 1 ≤ v → v ≤ w → sum_of (for_each is_it w) ≡ 1
  by-then zero low high = absurd (omega arith)
  by-then (suc w) low high =
      ⊎_elim
      (λ e. omega (arith, sum_more is_it w, not_yet w (omega (arith, e)), ap bit (eq-eqb v (suc w) e)))
      (λ h. omega (arith, sum_more is_it w, by-then w low (omega (arith, h)), ap bit (ne_eqb v (suc w) (λ e. omega (arith, e, h)))))
      (eq-or-lt_of_le high)

-- those that pass p, told apart by a kind from 1 to w, make up those that pass p
module _ (p : ℕ → Bool) (kind : ℕ → ℕ) (w : ℕ) (range : (n : ℕ) → (1 ≤ kind n) × (kind n ≤ w)) where
  abbrev of_kind : ℕ → ℕ → Bool
  of_kind k n = p n && eqb (kind n) k

  one-kind : (n : ℕ) → sum_of (for_each (λ k. bit (of_kind k n)) w) ≡ bit (p n)
  one-kind n = go (p n)
    where
      go : (b : Bool) → sum_of (for_each (λ k. bit (b && eqb (kind n) k)) w) ≡ bit b
      go true = by-then (kind n) w (range n).0 (range n).1
      go false = sum-noughts (λ k. 0) w (λ k. refl)

  pub by_kind : (a m : ℕ) → sum_of (for_each (λ k. length (those (of_kind k) a m)) w) ≡ length (those p a m)
  by_kind a zero = sum-noughts (λ k. length (those (of_kind k) a 0)) w (λ k. none_yet (of_kind k) a) ∙ sym (none_yet p a)
  by_kind a (suc m) =
      omega (
        arith,
        ap sum_of (each_same (λ k. length (those (of_kind k) a (suc m))) (λ k. length (those (of_kind k) a m) + bit (of_kind k (a + m))) w
            (λ k l h. length_more (of_kind k) a m)),
        sum-plus (λ k. length (those (of_kind k) a m)) (λ k. bit (of_kind k (a + m))) w,
        by_kind a m,
        one-kind (a + m),
        length_more p a m,
      )

-- counts added place by place
pub each-adds : (f g h : ℕ → ℕ) (w : ℕ) → ((k : ℕ) → f k + g k ≡ h k) → (i : ℕ) →
    get_or (for_each f w) i 0 + get_or (for_each g w) i 0 ≡ get_or (for_each h w) i 0
each-adds f g h w e i =
    ⊎_elim
    (λ l. omega (arith, each_at f w i l, each_at g w i l, each_at h w i l, e (i + 1)))
    (λ l.
    omega (
      arith,
      get_or-eq_default (for_each f w) 0 {n = i} (omega (arith, each-length f w)),
      get_or-eq_default (for_each g w) 0 {n = i} (omega (arith, each-length g w)),
      get_or-eq_default (for_each h w) 0 {n = i} (omega (arith, each-length h w)),
    ))
    (lt-or-le i w)
