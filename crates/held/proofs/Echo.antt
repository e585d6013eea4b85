-- Laws of what is written before a line's answer. Assumes nothing.
use Prim.Native.Nat.{ℕ, ◌≤◌, ◌<◌}
use native.Mathlib.Omega.{arith}
use mathlib.Core.Path.{◌≡◌, refl, ap}
use mathlib.Core.Bool.{Bool, true, false, ◌&&◌}
use mathlib.Core.List.{List, [], ◌∷◌, ◌++◌}
use lib.Dec.{leb}
use lib.ListN.{length}
use lib.Seq.{take_all}
use borrow.Author.Tests.{le-leb, lt-leb}
use Rattle.asked.specs.Asked.{hashed}
use Rattle.held.specs.Held.{is_note, echoed}

-- whether a line is a note
beyond : (b : Bool) (n k : ℕ) → k < n → false ≡ (leb n k && b)
beyond b n k h = rw (lt-leb n k h) refl

up_to : (b : Bool) (n k : ℕ) → n ≤ k → b ≡ (leb n k && b)
up_to b n k h = rw (le-leb n k h) refl

pub long-line : (l : List ℕ) → 200 < length l → false ≡ is_note l
unfolding is_note
long-line l h = beyond (hashed l) (length l) _ (omega (arith, h))

pub short-line : (l : List ℕ) → length l ≤ 200 → hashed l ≡ is_note l
unfolding is_note
short-line l h = up_to (hashed l) (length l) _ (omega (arith, h))

pub echoed_note : (l : List ℕ) → is_note l ≡ true → echoed l ≡ []
unfolding echoed
echoed_note l h = rw (h) refl

pub echoed_line : (l : List ℕ) → is_note l ≡ false → length l ≤ 201 → echoed l ≡ l ++ (10 ∷ [])
unfolding echoed
echoed_line l h k = rw (h) (ap (λ (t : List ℕ). t ++ (10 ∷ [])) (take_all 201 l k))

pub ruleset echoes = (echoed_note, echoed_line)
