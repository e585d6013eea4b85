-- Laws of the eight numbers of a reading: from the bytes of its item, stored in a list, and tested. Assumes nothing.
use Prim.Native.Nat.{ℕ, zero, suc, ◌+◌, ◌-◌, ◌*◌, ◌≤◌, ◌<◌}
use native.Mathlib.Omega.{arith}
use mathlib.Core.Path.{◌≡◌, refl, ap, sym, ◌∙◌}
use mathlib.Core.List.{List, [], ◌∷◌, ◌++◌, append_assoc}
use lib.ListN.{length, get_or, take, drop, set, length-append, length-drop, get_or-append}
use lib.Seq.{sets, drop-append-le, drop-cons, drop-drop, take_at, drop_at}
use Rattle.std.specs.Prelude.{Result, Ok, Err}
use Rattle.rule.specs.declared.Reason.{Reason}
use Rattle.rule.specs.Reasons.{is, guard, said}
use Rattle.rule.proofs.Stores.{part-all, sets-append}
use Rattle.octets.specs.Bytes.{number, numbers, lay, length-lay, read_all}
use Rattle.octets.proofs.Numbers.{number_append}
use Rattle.stated.specs.Paper.{AreBytes}
use Rattle.stated.proofs.RoundTrip.{lay-number}
use Rattle.newsheet.specs.New.{eight_in, eight_of, eights, is_given, reason_in}

-- the eight numbers do not look past 14 bytes
eight-front : (p q : List ℕ) → 14 ≤ length p → eight_in (p ++ q) ≡ eight_in p
unfolding eight_in
eight-front p q h =
    rw (
      get_or-append p q 0 0 (omega (arith, h)),
      get_or-append p q 0 1 (omega (arith, h)),
      get_or-append p q 0 2 (omega (arith, h)),
      get_or-append p q 0 3 (omega (arith, h)),
      get_or-append p q 0 4 (omega (arith, h)),
      get_or-append p q 0 5 (omega (arith, h)),
      drop-append-le 6 p q (omega (arith, h)),
      drop-append-le 10 p q (omega (arith, h)),
      number_append 4 (drop 6 p) q (omega (arith, h, length-drop 6 p)),
      number_append 4 (drop 10 p) q (omega (arith, h, length-drop 10 p)),
    )

-- the eight numbers of an item stand in its bytes
pub eight-read : (s : List ℕ) → 14 ≤ length s → AreBytes s → eight_of (number 14 s) ≡ eight_in s
unfolding eight_of
eight-read s h b =
    let l = lay 14 (number 14 s) in
    sym (eight-front l (drop 14 s) (omega (arith, length-lay 14 (number 14 s)))) ∙ ap eight_in (lay-number 14 s h b)

-- eight stores in a row are a run of eight
module _ (out : List ℕ) (at a b c d e f g h : ℕ) where
  pub eight-put :
      set (set (set (set (set (set (set (set out at a) (at + 1) b) (at + 2) c) (at + 3) d) (at + 4) e) (at + 5) f) (at + 6) g) (at + 7) h
      ≡ sets out at (a ∷ b ∷ c ∷ d ∷ e ∷ f ∷ g ∷ h ∷ [])
  eight-put =
      let e1 : at + 1 ≡ suc at = omega arith in
      let e2 : at + 2 ≡ suc (suc at) = omega arith in
      let e3 : at + 3 ≡ suc (suc (suc at)) = omega arith in
      let e4 : at + 4 ≡ suc (suc (suc (suc at))) = omega arith in
      let e5 : at + 5 ≡ suc (suc (suc (suc (suc at)))) = omega arith in
      let e6 : at + 6 ≡ suc (suc (suc (suc (suc (suc at))))) = omega arith in
      let e7 : at + 7 ≡ suc (suc (suc (suc (suc (suc (suc at)))))) = omega arith in
      rw (e1, e2, e3, e4, e5, e6, e7)

pub length-eight : (x : ℕ) → length (eight_of x) ≡ 8
unfolding eight_of eight_in
length-eight x = refl

pub length-eights : (xs : List ℕ) → length (eights xs) ≡ 8 * length xs
unfolding eights
length-eights [] = refl
length-eights (x ∷ xs) = length-append (eight_of x) (eights xs) ∙ omega (arith, length-eight x, length-eights xs)

-- what a test says, by whether it is given and by its reason
pub told-again : (r : Result (Unit {0}) Reason) → said r ≡ guard (is_given (said r)) (reason_in (said r)) (is (tt {0}))
told-again (Ok u) = refl
told-again (Err why) = refl

-- a loop that stores the numbers of the n items of 14 bytes in s: i are stored, t is what is left
pub record StoringEights (s old : List ℕ) (n : ℕ) (out t : List ℕ) (i : ℕ) : Type 0 where
  pub whole : 14 * (n - i) ≤ length t
  pub rest : sets out (8 * i) (eights (numbers 14 (n - i) t)) ≡ sets old 0 (eights (numbers 14 n s))

module _ {s old : List ℕ} {n : ℕ} {out t : List ℕ} {i : ℕ} (a : StoringEights s old n out t i) where
  pub next-stored : i < n → (out' : List ℕ) → out' ≡ sets out (8 * i) (eight_of (number 14 t)) →
      StoringEights s old n out' (take (length t - 14) (drop 14 t)) (i + 1)
  unfolding eights read_all
  next-stored l out' h =
      let e : n - i ≡ suc (n - (i + 1)) = omega arith in
      let x = eight_of (number 14 t) in
      let ys = eights (numbers 14 (n - (i + 1)) (drop 14 t)) in
      let f : 8 * i + length x ≡ 8 * (i + 1) = omega (arith, length-eight (number 14 t)) in
      let r : sets out (8 * i) (x ++ ys) ≡ sets old 0 (eights (numbers 14 n s)) = rw (e) at a.rest in
      record {
        whole = rw (part-all 14 t) (omega (arith, length-drop 14 t, a.whole));
        rest = rw (part-all 14 t, h, ← f) (sym (sets-append x ys out (8 * i)) ∙ r);
      }

  pub all-stored : n ≤ i → out ≡ sets old 0 (eights (numbers 14 n s))
  unfolding eights read_all
  all-stored l = let e : n - i ≡ 0 = omega arith in rw (e) at a.rest

-- the eight numbers read from the bytes s are those of the item at their front
pub eight-given : (s : List ℕ) (first last : ℕ) → 14 ≤ length s → AreBytes s → first ≡ number 4 (drop 6 s) → last ≡ number 4 (drop 10 s) →
    get_or s 0 0 ∷ get_or s 1 0 ∷ get_or s 2 0 ∷ get_or s 3 0 ∷ get_or s 4 0 ∷ get_or s 5 0 ∷ first ∷ last ∷ [] ≡ eight_of (number 14 s)
unfolding eight_in
eight-given s first last h b e f = rw (e, f) (sym (eight-read s h b))

-- the first eight of a list
pub first-eight : (e : List ℕ) → 8 ≤ length e →
    take 8 e ≡ get_or e 0 0 ∷ get_or e 1 0 ∷ get_or e 2 0 ∷ get_or e 3 0 ∷ get_or e 4 0 ∷ get_or e 5 0 ∷ get_or e 6 0 ∷ get_or e 7 0 ∷ []
first-eight e h =
    ap (take 8) (drop-cons e 0 0 (omega (arith, h)))
    ∙ ap (λ (t : List ℕ). get_or e 0 0 ∷ take 7 t) (drop-cons e 1 0 (omega (arith, h)))
    ∙ ap (λ (t : List ℕ). get_or e 0 0 ∷ get_or e 1 0 ∷ take 6 t) (drop-cons e 2 0 (omega (arith, h)))
    ∙ ap (λ (t : List ℕ). get_or e 0 0 ∷ get_or e 1 0 ∷ get_or e 2 0 ∷ take 5 t) (drop-cons e 3 0 (omega (arith, h)))
    ∙ ap (λ (t : List ℕ). get_or e 0 0 ∷ get_or e 1 0 ∷ get_or e 2 0 ∷ get_or e 3 0 ∷ take 4 t) (drop-cons e 4 0 (omega (arith, h)))
    ∙ ap (λ (t : List ℕ). get_or e 0 0 ∷ get_or e 1 0 ∷ get_or e 2 0 ∷ get_or e 3 0 ∷ get_or e 4 0 ∷ take 3 t) (drop-cons e 5 0 (omega (arith, h)))
    ∙ ap (λ (t : List ℕ). get_or e 0 0 ∷ get_or e 1 0 ∷ get_or e 2 0 ∷ get_or e 3 0 ∷ get_or e 4 0 ∷ get_or e 5 0 ∷ take 2 t) (drop-cons e 6 0 (omega (arith, h)))
    ∙ ap (λ (t : List ℕ). get_or e 0 0 ∷ get_or e 1 0 ∷ get_or e 2 0 ∷ get_or e 3 0 ∷ get_or e 4 0 ∷ get_or e 5 0 ∷ get_or e 6 0 ∷ take 1 t) (drop-cons e 7 0 (omega (arith, h)))

-- the eight numbers of item j, in a list that starts with those of all items
pub eights-slice : (xs rest : List ℕ) (j : ℕ) → j < length xs → take 8 (drop (8 * j) (eights xs ++ rest)) ≡ eight_of (get_or xs j 0)
unfolding eights
eights-slice [] rest j h = absurd (omega arith)
eights-slice (x ∷ xs) rest zero h =
    ap (take 8) (append_assoc (eight_of x) (eights xs) rest) ∙ take_at (eight_of x) (eights xs ++ rest) 8 (length-eight x)
eights-slice (x ∷ xs) rest (suc j) h =
    let e : 8 * suc j ≡ 8 + 8 * j = omega arith in
    let l = (eight_of x ++ eights xs) ++ rest in
    let d : drop 8 l ≡ eights xs ++ rest = ap (drop 8) (append_assoc (eight_of x) (eights xs) rest) ∙ drop_at (eight_of x) (eights xs ++ rest) 8 (length-eight x) in
    ap (λ (k : ℕ). take 8 (drop k l)) e
    ∙ ap (take 8) (sym (drop-drop (8 * j) 8 l) ∙ ap (drop (8 * j)) d)
    ∙ eights-slice xs rest j (omega arith)
