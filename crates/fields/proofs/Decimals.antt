-- Laws of decimal numbers: the last digit and those in front of it, and how many there are. Assumes nothing.
use Prim.Native.Nat.{ℕ, zero, suc, ◌+◌, ◌*◌, ◌/◌, ◌%◌, ◌^◌, ◌≤◌, ◌<◌}
use native.Mathlib.Nat.{not-suc-le-zero, pow-suc}
use native.Mathlib.Omega.{arith}
use native.Mathlib.Decide.{dec_lt}
use mathlib.Core.Path.{◌≡◌, refl, ap, ◌∙◌}
use mathlib.Core.List.{List, [], ◌∷◌, ◌++◌}
use lib.Dec.{ltb}
use borrow.Author.Tests.{lt-ltb, le-ltb}
use lib.ListN.{length, length-append}
use Rattle.fields.specs.Fields.{in_front, digits, decimal}

-- as many digits at most as the number itself says are enough
enough : (k m n : ℕ) → n ≤ k → n ≤ m → digits k n ≡ digits m n
unfolding digits
enough zero zero n h i = refl
enough zero (suc m) n h i = let e : n ≡ 0 = omega arith in rw (e) refl
enough (suc k) zero n h i = let e : n ≡ 0 = omega arith in rw (e) refl
enough (suc k) (suc m) n h i =
    ap (λ (ds : List ℕ). in_front (ltb n 10) ds ++ ((48 + n % 10) ∷ [])) (enough k m (n / 10) (omega arith) (omega arith))

-- a number below ten is one digit
pub decimal-one : (n : ℕ) → n < 10 → decimal n ≡ (48 + n) ∷ []
unfolding decimal digits
decimal-one zero h = refl
decimal-one (suc j) h = rw (lt-ltb (suc j) 10 h) (ap (λ (d : ℕ). (48 + d) ∷ []) (omega arith))

-- any other is the digits of its tenth part, and the last
pub decimal-more : (n : ℕ) → 10 ≤ n → decimal n ≡ decimal (n / 10) ++ ((48 + n % 10) ∷ [])
unfolding decimal digits
decimal-more zero h = absurd (not-suc-le-zero h)
decimal-more (suc j) h =
    rw (le-ltb (suc j) 10 h)
    (ap (λ (ds : List ℕ). ds ++ ((48 + suc j % 10) ∷ [])) (enough j (suc j / 10) (suc j / 10) (omega arith) (omega arith)))

pub length_more : (n : ℕ) → 10 ≤ n → length (decimal n) ≡ length (decimal (n / 10)) + 1
length_more n h = ap length (decimal-more n h) ∙ length-append (decimal (n / 10)) ((48 + n % 10) ∷ [])

-- every number has a digit
pub decimal-some : (n : ℕ) → 1 ≤ length (decimal n)
decimal-some n = go (dec_lt n 10)
  where
    go : Dec (n < 10) → 1 ≤ length (decimal n)
    go (yes l) = omega (arith, ap length (decimal-one n l))
    go (no g) = omega (arith, length_more n (omega (arith, g)))

-- a number below the w-th power of ten after the first has so many digits at most
pub decimal-short : (w n : ℕ) → n < 10 ^ suc w → length (decimal n) ≤ suc w
decimal-short zero n h = omega (arith, ap length (decimal-one n h))
decimal-short (suc w) n h =
    let e : 10 ^ suc (suc w) ≡ 10 ^ suc w * 10 = pow-suc 10 (suc w) in
    go (decimal-short w (n / 10) (omega (arith, e, h))) (dec_lt n 10)
  where
    go : length (decimal (n / 10)) ≤ suc w → Dec (n < 10) → length (decimal n) ≤ suc (suc w)
    go s (yes l) = omega (arith, ap length (decimal-one n l))
    go s (no g) = omega (arith, length_more n (omega (arith, g)))
