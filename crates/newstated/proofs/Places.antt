-- Laws of where the numbers of readings stand: in the fourth list, and in the bytes. Assumes nothing.
use Prim.Native.Nat.{ℕ, zero, suc, ◌+◌, ◌*◌, ◌≤◌, ◌<◌}
use native.Mathlib.Omega.{arith}
use mathlib.Core.Path.{◌≡◌, refl, ap, sym, ◌∙◌}
use mathlib.Core.List.{List, [], ◌∷◌, ◌++◌}
use lib.ListN.{length, get_or, drop, length-drop, get_or-append}
use lib.Seq.{get_or-append-add, get_or-drop, drop-drop}
use Rattle.rule.specs.Lists.{placed}
use Rattle.octets.specs.Bytes.{number, numbers}
use Rattle.sheet.specs.Sheet.{count_of, items_of}
use Rattle.sheet.proofs.Places.{number_at}
use Rattle.sheet.proofs.Sheets.{length-numbers}
use Rattle.stated.specs.Paper.{AreBytes}
use Rattle.stated.proofs.RoundTrip.{bytes_drop}
use Rattle.newsheet.specs.New.{eight_in, eight_of, eights, reading_section}
use Rattle.newsheet.proofs.Eights.{eight-read, length-eight, length-eights}

-- number i of reading j of the fourth list
eights_at : (xs : List ℕ) (j i : ℕ) → j < length xs → i < 8 → get_or (eights xs) (8 * j + i) 0 ≡ get_or (eight_of (get_or xs j 0)) i 0
unfolding eights
eights_at [] j i h l = absurd (omega arith)
eights_at (x ∷ xs) zero i h l =
    let e : 8 * 0 + i ≡ i = omega arith in
    ap (λ (k : ℕ). get_or (eight_of x ++ eights xs) k 0) e ∙ get_or-append (eight_of x) (eights xs) 0 i (omega (arith, l, length-eight x))
eights_at (x ∷ xs) (suc j) i h l =
    let e : 8 * suc j + i ≡ length (eight_of x) + (8 * j + i) = omega (arith, length-eight x) in
    ap (λ (k : ℕ). get_or (eight_of x ++ eights xs) k 0) e
    ∙ get_or-append-add (eight_of x) (eights xs) (8 * j + i) 0
    ∙ eights_at xs j i (omega arith) l

-- number i of the eight at the front of s, for each i
eight-fields : (s : List ℕ) (i : ℕ) → i < 6 → get_or (eight_in s) i 0 ≡ get_or s i 0
unfolding eight_in
eight-fields s zero h = refl
eight-fields s (suc zero) h = refl
eight-fields s (suc (suc zero)) h = refl
eight-fields s (suc (suc (suc zero))) h = refl
eight-fields s (suc (suc (suc (suc zero)))) h = refl
eight-fields s (suc (suc (suc (suc (suc zero))))) h = refl
eight-fields s (suc (suc (suc (suc (suc (suc i)))))) h = absurd (omega arith)

eight-first : (s : List ℕ) → get_or (eight_in s) 6 0 ≡ number 4 (drop 6 s)
unfolding eight_in
eight-first s = refl

eight-last : (s : List ℕ) → get_or (eight_in s) 7 0 ≡ number 4 (drop 10 s)
unfolding eight_in
eight-last s = refl

-- the readings of a section that starts at a place of the bytes s, in a list that holds their numbers at its front
module _ (s t old new : List ℕ) (from n : ℕ) (b : AreBytes s) (e : t ≡ drop from s) (c : n ≡ count_of t) (l : 2 + 14 * n ≤ length t)
    (f : new ≡ placed (eights (items_of reading_section t)) old) where
  -- the eight numbers of reading j
  eight-at : (j i : ℕ) → j < n → i < 8 → get_or new (8 * j + i) 0 ≡ get_or (eight_in (drop (from + 2 + 14 * j) s)) i 0
  unfolding items_of
  eight-at j i h k =
      let xs : List ℕ = numbers 14 (count_of t) (drop 2 t) in
      let m : length xs ≡ n = length-numbers 14 (count_of t) (drop 2 t) ∙ sym c in
      let p : from + (2 + 14 * j) ≡ from + 2 + 14 * j = omega arith in
      let u : List ℕ = drop (from + 2 + 14 * j) s in
      let w : drop (14 * j) (drop 2 t) ≡ u =
      drop-drop (14 * j) 2 t ∙ ap (drop (2 + 14 * j)) e ∙ drop-drop (2 + 14 * j) from s ∙ ap (λ (i : ℕ). drop i s) p
      in
      let q : get_or xs j 0 ≡ number 14 u = number_at 14 (count_of t) j (drop 2 t) (omega (arith, h, c)) ∙ ap (number 14) w in
      let r : 14 ≤ length u = omega (arith, h, l, ap length w, length-drop (14 * j) (drop 2 t), length-drop 2 t) in
      ap (λ (x : List ℕ). get_or x (8 * j + i) 0) f
      ∙ get_or-append (eights xs) (drop (length (eights xs)) old) 0 (8 * j + i) (omega (arith, h, k, m, length-eights xs))
      ∙ eights_at xs j i (omega (arith, h, m)) k
      ∙ ap (λ (x : ℕ). get_or (eight_of x) i 0) q
      ∙ ap (λ (v : List ℕ). get_or v i 0) (eight-read u r (bytes_drop (from + 2 + 14 * j) s b))

  pub field_at : (j i : ℕ) → j < n → i < 6 → get_or new (8 * j + i) 0 ≡ get_or s (from + 2 + 14 * j + i) 0
  field_at j i h k = eight-at j i h (omega (arith, k)) ∙ eight-fields (drop (from + 2 + 14 * j) s) i k ∙ get_or-drop (from + 2 + 14 * j) s i 0

  pub first-at : (j : ℕ) → j < n → get_or new (8 * j + 6) 0 ≡ number 4 (drop (from + 2 + 14 * j + 6) s)
  first-at j h = eight-at j 6 h (omega arith) ∙ eight-first (drop (from + 2 + 14 * j) s) ∙ ap (number 4) (drop-drop 6 (from + 2 + 14 * j) s)

  pub last-at : (j : ℕ) → j < n → get_or new (8 * j + 7) 0 ≡ number 4 (drop (from + 2 + 14 * j + 10) s)
  last-at j h = eight-at j 7 h (omega arith) ∙ eight-last (drop (from + 2 + 14 * j) s) ∙ ap (number 4) (drop-drop 10 (from + 2 + 14 * j) s)
