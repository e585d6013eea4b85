-- Laws of the walk along the names. Assumes nothing.
use Prim.Native.Nat.{ℕ, ◌≤◌}
use native.Mathlib.Omega.{arith}
use mathlib.Core.Path.{◌≡◌, refl, ap, ◌∙◌}
use mathlib.Core.List.{◌++◌, append-nil}
use lib.ListN.{drop, replicate}
use Rattle.yearbook.specs.Figures.{passing, has_name, for_each, names_from}

-- before the first name
pub names-begin : (f : ℕ → ℕ) → replicate 60 0 ≡ for_each f 0 ++ drop 0 (replicate 60 0)
unfolding for_each
names-begin f = refl

-- behind the last
pub names-done : (from to i : ℕ) → i ≤ 60 → 60 ≤ i → for_each (λ k. passing (has_name k) from to) i ++ drop i (replicate 60 0) ≡ names_from from to
unfolding names_from
names-done from to i h g =
    ap (λ (n : ℕ). for_each (λ k. passing (has_name k) from to) n ++ drop n (replicate 60 0)) {y = 60} (omega arith)
    ∙ append-nil (for_each (λ k. passing (has_name k) from to) 60)
