-- Items of a good list are in their range. Assumes nothing.
use Prim.Native.Nat.{ℕ, zero, suc, ◌≤◌, ◌<◌}
use native.Mathlib.Omega.{arith}
use mathlib.Core.List.{List, [], ◌∷◌}
use lib.ListN.{length, get_or}
use Rattle.rule.proofs.Answers.{within-true}
use Rattle.sheet.specs.declared.Items.{Items}
use Rattle.sheet.specs.Sheet.{Section, ranged}
use Rattle.sheet.specs.Faults.{GoodValue, GoodValues, GoodList}

value-at : (k : Section) (xs : List ℕ) → GoodValues k xs → (j : ℕ) → j < length xs → GoodValue k (get_or xs j 0)
unfolding GoodValues
value-at k [] g j h = absurd (omega arith)
value-at k (x ∷ xs) g zero h = g.0
value-at k (x ∷ xs) g (suc j) h = value-at k xs g.1 j (omega arith)

pub in-range : (k : Items) (xs : List ℕ) → GoodList (ranged k) xs → (j : ℕ) → j < length xs → (k.least ≤ get_or xs j 0) × (get_or xs j 0 ≤ k.most)
in-range k xs g j h = (within-true k.least k.most (get_or xs j 0)).0 (value-at (ranged k) xs g.1 j h)
