-- Laws of items in their places: where each stands in the bytes, read and laid. Assumes nothing.
use Prim.Native.Nat.{ℕ, zero, suc, ◌+◌, ◌*◌, ◌<◌}
use native.Mathlib.Nat.{mul-suc, mul-zero}
use native.Mathlib.Omega.{arith}
use mathlib.Core.Path.{◌≡◌, ap, sym, ◌∙◌}
use mathlib.Core.List.{List, [], ◌∷◌, ◌++◌, append_assoc}
use lib.ListN.{length, get_or, take, drop}
use lib.Seq.{take_at, drop_at, drop-drop}
use Rattle.octets.specs.Bytes.{number, lay, lay_all, lay_each, length-lay}
use Rattle.sheet.specs.Sheet.{Section, count_of, items_of, lay_section}
use Rattle.sheet.proofs.Places.{InFront, item-in-front, number_at}
use Rattle.stated.specs.Paper.{StandsAt, LaidAt}

-- a section that is read from a place on into a lent list
pub stands_at : (k : Section) (s t old new : List ℕ) (from n : ℕ) → t ≡ drop from s → n ≡ count_of t → InFront n (items_of k t) old new →
    StandsAt s from k.width n new
unfolding items_of
stands_at k s t old new from n e c a =
    record {
      count = ap (number 2) (sym e) ∙ sym c;
      item = λ j h.
          let f : from + (2 + k.width * j) ≡ from + 2 + k.width * j = omega arith in
          item-in-front a j h
          ∙ number_at k.width (count_of t) j (drop 2 t) (omega (arith, h, c))
          ∙ ap (number k.width)
          (drop-drop (k.width * j) 2 t
          ∙ ap (drop (2 + k.width * j)) e
          ∙ drop-drop (2 + k.width * j) from s
          ∙ ap (λ (i : ℕ). drop i s) f);
    }

-- item j of a list that is laid before t
all-laid-at : (w : ℕ) (xs t : List ℕ) (j : ℕ) → j < length xs → take w (drop (w * j) (lay_all w xs ++ t)) ≡ lay w (get_or xs j 0)
unfolding lay_each
all-laid-at w [] t j h = absurd (omega arith)
all-laid-at w (x ∷ xs) t zero h = rw (mul-zero w, append_assoc (lay w x) (lay_all w xs) t) (take_at (lay w x) (lay_all w xs ++ t) w (length-lay w x))
all-laid-at w (x ∷ xs) t (suc j) h =
    let e : w * suc j ≡ w + w * j = omega (arith, mul-suc w j) in
    rw (
      e,
      ← drop-drop (w * j) w ((lay w x ++ lay_all w xs) ++ t),
      append_assoc (lay w x) (lay_all w xs) t,
      drop_at (lay w x) (lay_all w xs ++ t) w (length-lay w x),
    )
    (all-laid-at w xs t j (omega arith))

-- a section that is laid from a place on
pub laid-at : (k : Section) (xs t o : List ℕ) (from : ℕ) → drop from o ≡ lay_section k xs ++ t → LaidAt o from k.width xs
unfolding lay_section
laid-at k xs t o from e =
    let n : List ℕ = lay 2 (length xs) in
    let f : drop from o ≡ n ++ (lay_all k.width xs ++ t) = e ∙ append_assoc n (lay_all k.width xs) t in
    record {
      count = ap (take 2) f ∙ take_at n (lay_all k.width xs ++ t) 2 (length-lay 2 (length xs));
      item = λ j h.
          let g : from + 2 + k.width * j ≡ from + (2 + k.width * j) = omega arith in
          ap (take k.width)
          (ap (λ (i : ℕ). drop i o) g
          ∙ sym (drop-drop (2 + k.width * j) from o)
          ∙ ap (drop (2 + k.width * j)) f
          ∙ sym (drop-drop (k.width * j) 2 (n ++ (lay_all k.width xs ++ t)))
          ∙ ap (drop (k.width * j)) (drop_at n (lay_all k.width xs ++ t) 2 (length-lay 2 (length xs))))
          ∙ all-laid-at k.width xs t j h;
    }
