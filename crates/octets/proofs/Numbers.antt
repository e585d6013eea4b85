-- Laws of numbers in bytes, over the width. Assumes nothing.
use Prim.Native.Nat.{ℕ, zero, suc, ◌+◌, ◌-◌, ◌*◌, ◌^◌, ◌≤◌, ◌<◌}
use native.Mathlib.Nat.{pow-suc, add-zero}
use native.Mathlib.Omega.{arith}
use mathlib.Core.Path.{◌≡◌, refl, ap}
use mathlib.Core.List.{List, [], ◌∷◌, ◌++◌}
use lib.ListN.{length, get_or, drop}
use lib.Seq.{get_or-drop, drop-drop}
use Rattle.octets.specs.Bytes.{number}

-- one byte more in front
number_more : (w i : ℕ) (s : List ℕ) → number (suc w) (drop i s) ≡ get_or s i 0 + 256 * number w (drop (i + 1) s)
unfolding number
number_more w i s = rw (get_or-drop i s 0 0, drop-drop 1 i s, add-zero i)

-- a number does not look past its bytes
pub number_append : (w : ℕ) (p q : List ℕ) → w ≤ length p → number w (p ++ q) ≡ number w p
unfolding number
number_append zero p q h = refl
number_append (suc w) [] q h = absurd (omega arith)
number_append (suc w) (x ∷ p) q h = ap (λ (n : ℕ). x + 256 * n) (number_append w p q (omega arith))

-- up to three bytes
up-to-three : (n : ℕ) → n ≤ 3 → 256 ^ n ≤ 16777216
up-to-three zero h = omega arith
up-to-three (suc zero) h = omega arith
up-to-three (suc (suc zero)) h = omega arith
up-to-three (suc (suc (suc zero))) h = omega arith
up-to-three (suc (suc (suc (suc n)))) h = absurd (omega arith)

-- a loop that reads the number in w bytes of s from its last byte: x is the number in those from i on
pub record FromByte (w : ℕ) (s : List ℕ) (x i : ℕ) : Type 0 where
  pub within : i ≤ w
  pub value : x ≡ number (w - i) (drop i s)
  pub low : x < 256 ^ (w - i)

pub none_read : (w : ℕ) (s : List ℕ) → FromByte w s 0 w
unfolding number
none_read w s =
    let e : w - w ≡ 0 = omega arith in
    record { within = omega arith; value = rw (e); low = rw (e) (omega arith) }

module _ {w : ℕ} {s : List ℕ} {x i : ℕ} (a : FromByte w s x i) where
  -- one byte more of at most four
  pub room-for-byte : 0 < i → w ≤ 4 → x < 16777216
  room-for-byte l h = omega (arith, a.low, up-to-three (w - i) (omega (arith, l, h)))

  pub byte-read : 0 < i → get_or s (i - 1) 0 < 256 → FromByte w s (x * 256 + get_or s (i - 1) 0) (i - 1)
  byte-read l b =
      let h = a.within in
      let v = a.value in
      let q = a.low in
      let e : w - (i - 1) ≡ suc (w - i) = omega arith in
      let g : i - 1 + 1 ≡ i = omega arith in
      let f : drop (i - 1 + 1) s ≡ drop i s = ap (λ (j : ℕ). drop j s) g in
      record {
        within = omega arith;
        value = rw (e, number_more (w - i) (i - 1) s, f, v) (omega arith);
        low = rw (e, pow-suc 256 (w - i)) (omega arith);
      }
