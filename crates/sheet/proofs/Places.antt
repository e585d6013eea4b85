-- Laws of lent lists: what stands at their front, and items in their places; and an answer is what it says. Assumes nothing.
use Prim.Native.Nat.{ℕ, zero, suc, ◌+◌, ◌*◌, ◌≤◌, ◌<◌}
use native.Mathlib.Nat.{mul-suc, mul-zero}
use native.Mathlib.Omega.{arith}
use mathlib.Core.Path.{◌≡◌, ap, sym, ◌∙◌}
use mathlib.Core.List.{List}
use lib.ListN.{length, get_or, take, drop, length-append, length-drop, get_or-append}
use lib.Seq.{take_at, drop_at, drop-drop}
use Rattle.rule.specs.Lists.{placed}
use Rattle.octets.specs.Bytes.{number, numbers, read_all}
use Rattle.sheet.specs.Promises.{RestKept}

-- two lists that differ at a place
pub unlike : {xs ys : List ℕ} (i a b : ℕ) → xs ≡ ys → get_or xs i 0 ≡ a → get_or ys i 0 ≡ b → a < b → ⊥
unlike i a b e f g l = omega (arith, f, g, l, ap (λ (xs : List ℕ). get_or xs i 0) e)

-- a lent list that holds the n items xs at its front
pub record InFront (n : ℕ) (xs old new : List ℕ) : Type 0 where
  pub room : length xs ≤ length old
  pub count : n ≡ length xs
  pub list : new ≡ placed xs old

module _ {n : ℕ} {xs old new : List ℕ} (a : InFront n xs old new) where
  pub rest-kept : RestKept n old new
  rest-kept =
      record {
        places = ap length a.list ∙ omega (arith, a.room, length-append xs (drop (length xs) old), length-drop (length xs) old);
        rest = ap (drop n) a.list ∙ drop_at xs (drop (length xs) old) n (sym a.count) ∙ ap (λ (i : ℕ). drop i old) (sym a.count);
      }

  pub item-in-front : (j : ℕ) → j < n → get_or new j 0 ≡ get_or xs j 0
  item-in-front j h = ap (λ (l : List ℕ). get_or l j 0) a.list ∙ get_or-append xs (drop (length xs) old) 0 j (omega (arith, h, a.count))

-- the front of a filled list is what it was filled with
pub front : (xs old : List ℕ) (n : ℕ) (new : List ℕ) → new ≡ placed xs old → n ≡ length xs → take n new ≡ xs
front xs old n new e h = ap (take n) e ∙ take_at xs (drop (length xs) old) n (sym h)

-- item j of the numbers in s
pub number_at : (w n j : ℕ) (s : List ℕ) → j < n → get_or (numbers w n s) j 0 ≡ number w (drop (w * j) s)
unfolding read_all
number_at w zero j s h = absurd (omega arith)
number_at w (suc n) zero s h = ap (λ (i : ℕ). number w (drop i s)) (sym (mul-zero w))
number_at w (suc n) (suc j) s h =
    let e : w + w * j ≡ w * suc j = omega (arith, mul-suc w j) in
    number_at w n j (drop w s) (omega arith) ∙ ap (number w) (drop-drop (w * j) w s ∙ ap (λ (i : ℕ). drop i s) e)
