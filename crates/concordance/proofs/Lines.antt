-- Laws of a text's lines. Assumes nothing.
use Rattle.std.proofs.Common.{◌≡◌, ℕ, suc, ◌+◌, ◌<◌, ◌≤◌, Bool, true, false, cond, eqb, List, [], ◌∷◌, length, get_or, take, drop, refl, ap, add-one, arith, drop-cons}
use Rattle.concordance.specs.Text.{longer, lines_of, line_length, advance}

pub len-le : (s : List ℕ) → line_length s ≤ length s
unfolding line_length
len-le [] = omega arith
len-le (b ∷ s) = go (eqb b 10) (len-le s) where
  go : (t : Bool) → line_length s ≤ length s → cond t 0 (suc (line_length s)) ≤ suc (length s)
  go true h = omega arith
  go false h = omega arith

-- with its newline, a line has one byte more, unless the text ends before one
pub adv-in : (s : List ℕ) → line_length s < length s → advance s ≡ line_length s + 1
unfolding line_length advance
adv-in [] h = absurd (omega arith)
adv-in (b ∷ s) h = go (eqb b 10) h (adv-in s) where
  go : (t : Bool) → cond t 0 (suc (line_length s)) < suc (length s) → (line_length s < length s → advance s ≡ line_length s + 1) → cond t 1 (suc (advance s)) ≡ cond t 0 (suc (line_length s)) + 1
  go true h k = refl
  go false h k = let e : advance s ≡ line_length s + 1 = k (omega arith) in omega arith

pub adv-out : (s : List ℕ) → length s ≤ line_length s → advance s ≡ line_length s
unfolding line_length advance
adv-out [] h = refl
adv-out (b ∷ s) h = go (eqb b 10) h (adv-out s) where
  go : (t : Bool) → suc (length s) ≤ cond t 0 (suc (line_length s)) → (length s ≤ line_length s → advance s ≡ line_length s) → cond t 1 (suc (advance s)) ≡ cond t 0 (suc (line_length s))
  go true h k = absurd (omega arith)
  go false h k = let e : advance s ≡ line_length s = k (omega arith) in omega arith

-- the first line, and the lines of what follows it
pub lines_next : (s : List ℕ) → 0 < length s → lines_of s ≡ take (line_length s) s ∷ lines_of (drop (advance s) s)
unfolding lines_of line_length advance
lines_next [] h = absurd (omega arith)
lines_next (b ∷ []) h = go (eqb b 10) where
  go : (t : Bool) → cond t ([] ∷ []) ((b ∷ []) ∷ []) ≡ take (cond t 0 1) (b ∷ []) ∷ lines_of (drop (cond t 1 1) (b ∷ []))
  go true = refl
  go false = refl
lines_next (b ∷ (d ∷ s)) h = go (eqb b 10) (lines_next (d ∷ s) (omega arith)) where
  go : (t : Bool) → lines_of (d ∷ s) ≡ take (line_length (d ∷ s)) (d ∷ s) ∷ lines_of (drop (advance (d ∷ s)) (d ∷ s))
      → cond t ([] ∷ lines_of (d ∷ s)) (longer b (lines_of (d ∷ s))) ≡ take (cond t 0 (suc (line_length (d ∷ s)))) (b ∷ (d ∷ s)) ∷ lines_of (drop (cond t 1 (suc (advance (d ∷ s)))) (b ∷ (d ∷ s)))
  go true e = refl
  go false e = ap (longer b) e

-- for the walk along a line: a byte that is no newline is passed, a newline ends it
pub len-pass : (s : List ℕ) (i : ℕ) → i < length s → eqb (get_or s i 0) 10 ≡ false → line_length (drop i s) ≡ suc (line_length (drop (i + 1) s))
unfolding line_length
len-pass s i h e = rw (add-one, drop-cons s i 0, e)

pub len-stop : (s : List ℕ) (i : ℕ) → i < length s → eqb (get_or s i 0) 10 ≡ true → line_length (drop i s) ≡ 0
unfolding line_length
len-stop s i h e = rw (drop-cons s i 0, e)
