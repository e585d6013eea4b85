-- Laws of the table's rows, and of a line's first byte. Assumes nothing.
use Prim.Native.Nat.{ℕ, zero, suc, ◌≤◌}
use native.Mathlib.Omega.{arith}
use mathlib.Core.Path.{◌≡◌, refl, ap₂, sym, ◌∙◌}
use mathlib.Core.List.{List, [], ◌∷◌}
use mathlib.Core.Bool.{false}
use lib.Dec.{eqb}
use lib.ListN.{length, get_or}
use Rattle.capped.specs.Capped.{capped}
use Rattle.asked.specs.declared.Places.{Places}
use Rattle.asked.specs.declared.Query.{Query}
use Rattle.asked.specs.Asked.{Row, slip_in, places_in, table, table_of, query_at, hashed}

pub beyond : (rs : List Row) (k : ℕ) → length rs ≤ k → query_at rs k ≡ Query.Unreadable
unfolding query_at
beyond [] k h = refl
beyond (r ∷ rs) zero h = absurd (omega arith)
beyond (r ∷ rs) (suc k) h = beyond rs k (omega arith)

-- an arm of a `match`: the query of the row with its number
pub arm : (fs : List (List ℕ)) {w : Places} {k i : ℕ} {q : Query} → w ≡ places_in capped fs → k ≡ i → query_at (table w (slip_in capped fs)) i ≡ q → q ≡ query_at (table_of capped fs) k
arm fs e h r = sym r ∙ ap₂ (λ (v : Places) (j : ℕ). query_at (table v (slip_in capped fs)) j) e (sym h)

-- whether a line is a note, by its first byte
pub no_byte : (s : List ℕ) → length s ≡ 0 → false ≡ hashed s
unfolding hashed
no_byte [] h = refl
no_byte (b ∷ s) h = absurd (omega arith)

pub first_byte : (s : List ℕ) → (length s ≡ 0 → ⊥) → eqb (get_or s 0 0) 35 ≡ hashed s
unfolding hashed
first_byte [] h = absurd (h refl)
first_byte (b ∷ s) h = refl
