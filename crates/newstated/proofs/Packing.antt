-- Laws of the eight numbers of a reading back and forth: the item that has them, and that no other has. Assumes nothing.
use Prim.Native.Nat.{ℕ, zero, suc, ◌^◌, ◌≤◌, ◌<◌}
use native.Mathlib.Nat.{pow-suc}
use native.Mathlib.Omega.{arith}
use mathlib.Core.Path.{◌≡◌, refl, ap, sym, ◌∙◌, subst}
use mathlib.Core.Bool.{true}
use mathlib.Core.List.{List, [], ◌∷◌, ◌++◌, append-nil}
use lib.ListN.{length, get_or, take, drop, length-append, length-drop, drop_of_length-le, take-append-drop}
use lib.Seq.{drop-cons, drop-drop, take_at, drop_at, take_all, length-take-le}
use Rattle.octets.specs.Bytes.{number, numbers, lay, length-lay, read_all}
use Rattle.sheet.specs.Faults.{GoodValues}
use Rattle.stated.specs.Paper.{AreBytes}
use Rattle.stated.proofs.RoundTrip.{number-lay, lay-number, bytes-lay, bytes_drop, bytes-append, SmallItems}
use Rattle.newsheet.specs.New.{eight_in, eight_of, eights, reading_section}
use Rattle.newsheet.specs.Faults.{GoodReading, GoodEights}
use Rattle.newsheet.proofs.Eights.{eight-read, length-eight, first-eight}
use Rattle.newstated.proofs.Testing.{good-iff}

-- the 14 bytes of eight numbers
unfoldable bytes_of : List ℕ → List ℕ
bytes_of v =
    get_or v 0 0 ∷ get_or v 1 0 ∷ get_or v 2 0 ∷ get_or v 3 0 ∷ get_or v 4 0 ∷ get_or v 5 0 ∷ (lay 4 (get_or v 6 0) ++ lay 4 (get_or v 7 0))

-- a list of at least so many is its first ones and the rest
first-six : (e : List ℕ) → 6 ≤ length e → e ≡ get_or e 0 0 ∷ get_or e 1 0 ∷ get_or e 2 0 ∷ get_or e 3 0 ∷ get_or e 4 0 ∷ get_or e 5 0 ∷ drop 6 e
first-six e h =
    drop-cons e 0 0 (omega (arith, h))
    ∙ ap (λ (t : List ℕ). get_or e 0 0 ∷ t)
    (drop-cons e 1 0 (omega (arith, h))
    ∙ ap (λ (t : List ℕ). get_or e 1 0 ∷ t)
    (drop-cons e 2 0 (omega (arith, h))
    ∙ ap (λ (t : List ℕ). get_or e 2 0 ∷ t)
    (drop-cons e 3 0 (omega (arith, h))
    ∙ ap (λ (t : List ℕ). get_or e 3 0 ∷ t)
    (drop-cons e 4 0 (omega (arith, h)) ∙ ap (λ (t : List ℕ). get_or e 4 0 ∷ t) (drop-cons e 5 0 (omega (arith, h)))))))

list-of-eight : (v : List ℕ) → length v ≡ 8 →
    v ≡ get_or v 0 0 ∷ get_or v 1 0 ∷ get_or v 2 0 ∷ get_or v 3 0 ∷ get_or v 4 0 ∷ get_or v 5 0 ∷ get_or v 6 0 ∷ get_or v 7 0 ∷ []
list-of-eight v h = sym (take_all 8 v (omega (arith, h))) ∙ first-eight v (omega (arith, h))

-- 14 bytes are those of their eight numbers
bytes-again : (s : List ℕ) → length s ≡ 14 → AreBytes s → bytes_of (eight_in s) ≡ s
unfolding bytes_of eight_in
bytes-again s h b =
    let p : lay 4 (number 4 (drop 10 s)) ++ drop 4 (drop 10 s) ≡ drop 10 s = lay-number 4 (drop 10 s) (omega (arith, h, length-drop 10 s)) (bytes_drop 10 s b) in
    let q : lay 4 (number 4 (drop 6 s)) ++ drop 4 (drop 6 s) ≡ drop 6 s = lay-number 4 (drop 6 s) (omega (arith, h, length-drop 6 s)) (bytes_drop 6 s b) in
    let e : drop 4 (drop 10 s) ≡ [] = drop_of_length-le (drop 10 s) {i = 4} (omega (arith, h, length-drop 10 s)) in
    let l : lay 4 (number 4 (drop 10 s)) ≡ drop 10 s = sym (append-nil (lay 4 (number 4 (drop 10 s)))) ∙ ap (λ (t : List ℕ). lay 4 (number 4 (drop 10 s)) ++ t) (sym e) ∙ p in
    ap (λ (t : List ℕ). get_or s 0 0 ∷ get_or s 1 0 ∷ get_or s 2 0 ∷ get_or s 3 0 ∷ get_or s 4 0 ∷ get_or s 5 0 ∷ t)
    (ap (λ (t : List ℕ). lay 4 (number 4 (drop 6 s)) ++ t) (l ∙ sym (drop-drop 4 6 s)) ∙ q)
    ∙ sym (first-six s (omega (arith, h)))

-- an item that fits its bytes is the number in the bytes of its eight numbers
item-again : (x : ℕ) → x < 256 ^ 14 → number 14 (bytes_of (eight_of x)) ≡ x
unfolding eight_of
item-again x h =
    ap (number 14) (bytes-again (lay 14 x) (length-lay 14 x) (bytes-lay 14 x) ∙ sym (append-nil (lay 14 x))) ∙ number-lay 14 x [] h

pub items-once : (xs ys : List ℕ) → SmallItems reading_section xs → SmallItems reading_section ys → eights xs ≡ eights ys → xs ≡ ys
unfolding SmallItems eights
items-once [] [] f g e = refl
items-once [] (y ∷ ys) f g e = absurd (omega (arith, ap length e, length-append (eight_of y) (eights ys), length-eight y))
items-once (x ∷ xs) [] f g e = absurd (omega (arith, ap length e, length-append (eight_of x) (eights xs), length-eight x))
items-once (x ∷ xs) (y ∷ ys) f g e =
    let h : eight_of x ≡ eight_of y =
    sym (take_at (eight_of x) (eights xs) 8 (length-eight x)) ∙ ap (take 8) e ∙ take_at (eight_of y) (eights ys) 8 (length-eight y)
    in
    let t : eights xs ≡ eights ys =
    sym (drop_at (eight_of x) (eights xs) 8 (length-eight x)) ∙ ap (drop 8) e ∙ drop_at (eight_of y) (eights ys) 8 (length-eight y)
    in
    let i : x ≡ y = sym (item-again x f.0) ∙ ap (λ (v : List ℕ). number 14 (bytes_of v)) h ∙ item-again y g.0 in
    rw (i, items-once xs ys f.1 g.1 t)

-- the number in bytes fits them
number-low : (w : ℕ) (s : List ℕ) → AreBytes s → number w s < 256 ^ w
unfolding number
number-low zero s b = omega arith
number-low (suc w) s b = omega (arith, number-low w (drop 1 s) (bytes_drop 1 s b), b 0, pow-suc 256 w)

pub small-numbers : (n : ℕ) (s : List ℕ) → AreBytes s → SmallItems reading_section (numbers 14 n s)
unfolding SmallItems read_all
small-numbers zero s b = tt
small-numbers (suc n) s b = (number-low 14 s b, small-numbers n (drop 14 s) (bytes_drop 14 s b))

-- the bytes of eight numbers of a good reading
module _ (v : List ℕ) (h : length v ≡ 8) (g : GoodReading v) where
  are-bytes : AreBytes (bytes_of v)
  unfolding bytes_of
  are-bytes zero = omega (arith, g.1.1.year-name)
  are-bytes (suc zero) = omega (arith, g.1.1.month-number)
  are-bytes (suc (suc zero)) = omega (arith, g.1.1.leap-mark)
  are-bytes (suc (suc (suc zero))) = omega (arith, g.1.1.day-of-month)
  are-bytes (suc (suc (suc (suc zero)))) = omega (arith, g.1.1.day-name)
  are-bytes (suc (suc (suc (suc (suc zero))))) = omega (arith, g.1.1.first-name)
  are-bytes (suc (suc (suc (suc (suc (suc i)))))) =
      bytes-append (lay 4 (get_or v 6 0)) (lay 4 (get_or v 7 0)) (bytes-lay 4 (get_or v 6 0)) (bytes-lay 4 (get_or v 7 0)) i

  many : length (bytes_of v) ≡ 14
  unfolding bytes_of lay
  many = refl

  numbers-back : eight_in (bytes_of v) ≡ v
  unfolding bytes_of eight_in lay
  numbers-back =
      let p : number 4 (lay 4 (get_or v 6 0) ++ lay 4 (get_or v 7 0)) ≡ get_or v 6 0 =
      number-lay 4 (get_or v 6 0) (lay 4 (get_or v 7 0)) (omega (arith, g.0.0))
      in
      let q : number 4 (lay 4 (get_or v 7 0) ++ []) ≡ get_or v 7 0 = number-lay 4 (get_or v 7 0) [] (omega (arith, g.0.1)) in
      rw (p, q) (sym (list-of-eight v h))

  -- the item that has these eight numbers
  packed : (x : ℕ) × (eight_of x ≡ v) × (reading_section.good x ≡ true) × (x < 256 ^ 14)
  packed =
      let e : eight_of (number 14 (bytes_of v)) ≡ v = eight-read (bytes_of v) (omega (arith, many)) are-bytes ∙ numbers-back in
      (number 14 (bytes_of v), e, (good-iff (eight_of (number 14 (bytes_of v)))).1 (subst GoodReading (sym e) g), number-low 14 (bytes_of v) are-bytes)

-- the items of a good list of eight numbers each
pub record Packed (n : ℕ) (e : List ℕ) : Type 0 where
  pub items : List ℕ
  pub many : length items ≡ n
  pub same : eights items ≡ e
  pub good : GoodValues reading_section items
  pub small : SmallItems reading_section items

pub pack : (n : ℕ) (e : List ℕ) → GoodEights n e → Packed n e
unfolding GoodEights eights GoodValues SmallItems
pack zero e g = record { items = []; many = refl; same = sym (drop_of_length-le e g); good = tt; small = tt }
pack (suc n) e g =
    let r = pack n (drop 8 e) g.1.1 in
    let x = packed (take 8 e) (length-take-le 8 e g.0) g.1.0 in
    record {
      items = x.0 ∷ r.items;
      many = ap suc r.many;
      same = rw (x.1, r.same) (take-append-drop 8 e);
      good = (x.2, r.good);
      small = (x.3, r.small);
    }
