-- Numbers in bytes, over the width. Assumes nothing.
use Rattle.std.specs.Prelude.{◌≡◌, refl, ℕ, zero, suc, ◌+◌, ◌*◌, ◌/◌, ◌%◌, List, [], ◌∷◌, ◌++◌, length, get_or, drop}
use mathlib.Core.Path.{ap}

-- "Numbers are least byte first": the number in the first w bytes, and the w bytes of a number
unfoldable pub number : ℕ → List ℕ → ℕ
number zero s = 0
number (suc w) s = get_or s 0 0 + 256 * number w (drop 1 s)

unfoldable pub lay : ℕ → ℕ → List ℕ
lay zero x = []
lay (suc w) x = (x % 256) ∷ lay w (x / 256)

-- a number laid in w bytes has w of them
pub length-lay : (w x : ℕ) → length (lay w x) ≡ w
unfolding lay
length-lay zero x = refl
length-lay (suc w) x = ap suc (length-lay w (x / 256))

-- the first n of what is read from w bytes each, and the bytes of a list
unfoldable pub read_all : {A : Type 0} → (List ℕ → A) → ℕ → ℕ → List ℕ → List A
read_all r w zero s = []
read_all r w (suc n) s = r s ∷ read_all r w n (drop w s)

unfoldable pub lay_each : {A : Type 0} → (A → List ℕ) → List A → List ℕ
lay_each f [] = []
lay_each f (x ∷ xs) = f x ++ lay_each f xs

-- the first n numbers of w bytes each, and the bytes of a list of numbers
abbrev pub numbers : ℕ → ℕ → List ℕ → List ℕ
numbers w = read_all (number w) w

abbrev pub lay_all : ℕ → List ℕ → List ℕ
lay_all w = lay_each (lay w)
