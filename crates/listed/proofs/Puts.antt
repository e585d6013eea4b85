-- A loop that puts a text for each item of a list into a lent buffer, w bytes at most for each. Assumes nothing.
use Prim.Native.Nat.{ℕ, ◌+◌, ◌*◌, ◌≤◌, ◌<◌}
use native.Mathlib.Nat.{mul-suc, mul-le-mul_left}
use native.Mathlib.Numerals.{add-one}
use native.Mathlib.Omega.{arith}
use mathlib.Core.Path.{ap}
use mathlib.Core.List.{List}
use lib.ListN.{length, get_or, take}
use lib.Seq.{take_all}
use Rattle.fields.specs.Fields.{each, Put}
use Rattle.fields.proofs.Putting.{each_next}
use Rattle.fields.proofs.Puts.{put-kept, wide, put-none, put_as, turn}

-- the texts of the first i items are put
pub record ItemsPut (w : ℕ) (f : ℕ → List ℕ) (xs old : List ℕ) (at : ℕ) (out : List ℕ) (to i : ℕ) : Type 0 where
  pub inside : i ≤ length xs
  pub put : Put (w * i) old at (each f (take i xs)) out to

module _ (w : ℕ) (f : ℕ → List ℕ) (xs old : List ℕ) (at : ℕ) where
  pub no_item : ItemsPut w f xs old at old at 0
  unfolding each
  no_item = record { inside = omega arith; put = wide (omega arith) (put-none old at) }

module _ {w : ℕ} {f : ℕ → List ℕ} {xs old : List ℕ} {at : ℕ} {out : List ℕ} {to i : ℕ} (a : ItemsPut w f xs old at out to i) where
  pub room-for-item : i < length xs → at + w * length xs ≤ length old → to + w ≤ length out
  room-for-item l h =
      let e : w * (i + 1) ≤ w * length xs = mul-le-mul_left w (omega arith) in
      omega (arith, put-kept a.put, a.put.few, mul-suc w i, ap (λ (k : ℕ). w * k) (add-one i))

  pub next-item : i < length xs → {out' : List ℕ} {to' : ℕ} → Put w out to (f (get_or xs i 0)) out' to' → ItemsPut w f xs old at out' to' (i + 1)
  next-item l p = record { inside = omega arith; put = turn i (each_next f xs i l) a.put p }

  pub all-items : length xs ≤ i → Put (w * length xs) old at (each f xs) out to
  all-items l = wide (mul-le-mul_left w a.inside) (put_as (ap (each f) (take_all i xs l)) a.put)
