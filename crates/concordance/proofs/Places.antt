-- Where lines_of start, and what a step does to a reader. Assumes nothing.
use Rattle.std.proofs.Common.{◌≡◌, ℕ, zero, suc, ◌+◌, ◌-◌, ◌<◌, ◌≤◌, Bool, true, false, cond, eqb, List, [], ◌∷◌, length, get_or, take, drop, sym, refl, ap, ◌∙◌, add-one, arith, length-drop, drop_of_length-le, get_or-drop, drop-drop, ne_eqb}
use Rattle.forms.proofs.Scanning.{rest}
use Rattle.concordance.specs.Text.{longer, lines_of, line_length, advance, place_of, newline_in, newlines}
use Rattle.concordance.proofs.Lines.{lines_next}

pub lines-le : (s : List ℕ) → length (lines_of s) ≤ length s
unfolding lines_of
lines-le [] = omega arith
lines-le (b ∷ s) = go (eqb b 10) (lines_of s) (lines-le s) where
  go : (t : Bool) (ls : List (List ℕ)) → length ls ≤ length s → length (cond t ([] ∷ ls) (longer b ls)) ≤ suc (length s)
  go true ls h = omega arith
  go false [] h = omega arith
  go false (l ∷ ls) h = omega arith

lines-tail : (t : List ℕ) → drop 1 (lines_of t) ≡ lines_of (drop (advance t) t)
unfolding lines_of advance
lines-tail [] = refl
lines-tail (b ∷ t) = rw (lines_next (b ∷ t) (omega arith))

-- the lines of what is left are the lines that are left
lines_at : (s : List ℕ) (i : ℕ) → lines_of (drop (place_of s i) s) ≡ drop i (lines_of s)
unfolding place_of
lines_at s zero = refl
lines_at s (suc i) =
    let e : lines_of (drop (place_of s i) s) ≡ drop i (lines_of s) = lines_at s i in
    ap lines_of (sym (drop-drop (advance (drop (place_of s i) s)) (place_of s i) s)) ∙ (sym (lines-tail (drop (place_of s i) s)) ∙ (ap (drop 1) e ∙ (drop-drop 1 i (lines_of s) ∙ ap (λ
    (n : ℕ). drop n (lines_of s)) (add-one i))))

none : (t : List ℕ) → length t ≤ 0 → length (lines_of t) ≡ 0
unfolding lines_of
none [] h = refl
none (b ∷ t) h = absurd (omega arith)

some : (t : List ℕ) → 0 < length t → 0 < length (lines_of t)
some t h = rw (lines_next t h) (omega arith)

module _ (s : List ℕ) (i : ℕ) where
  left-length : length (lines_of (drop (place_of s i) s)) ≡ length (lines_of s) - i
  left-length = ap length (lines_at s i) ∙ length-drop i (lines_of s)

  -- a place before the end is the start of a line, and the end is none
  pub more_yes : place_of s i < length s → i < length (lines_of s)
  more_yes h = omega (arith, some (drop (place_of s i) s) (omega (arith, length-drop (place_of s i) s)), left-length)

  pub more_no : length s ≤ place_of s i → length (lines_of s) ≤ i
  more_no h = omega (arith, none (drop (place_of s i) s) (omega (arith, length-drop (place_of s i) s)), left-length)

  -- the line that starts there is line i
  pub line-is : place_of s i < length s → take (line_length (drop (place_of s i) s)) (drop (place_of s i) s) ≡ get_or (lines_of s) i []
  line-is h =
      let z : i + 0 ≡ i = omega arith in
      sym (ap (λ (ls : List (List ℕ)). get_or ls 0 []) (lines_next (drop (place_of s i) s) (omega (arith, length-drop (place_of s i) s))))
      ∙ (ap (λ (ls : List (List ℕ)). get_or ls 0 []) (lines_at s i) ∙ (get_or-drop i (lines_of s) 0 [] ∙ ap (λ (n : ℕ). get_or (lines_of s) n []) z))

-- HOW MANY LINES: one a newline, and one more where the text does not end with one
unfoldable open-end : List ℕ → ℕ
open-end [] = 0
open-end (b ∷ []) = cond (eqb b 10) 0 1
open-end (b ∷ c ∷ s) = open-end (c ∷ s)

as_many : (b : ℕ) (ls : List (List ℕ)) → 0 < length ls → length (longer b ls) ≡ length ls
as_many b [] h = absurd (omega (arith, h))
as_many b (l ∷ ls) h = refl

lines-many : (s : List ℕ) → length (lines_of s) ≡ newlines s + open-end s
unfolding lines_of newlines open-end
lines-many [] = refl
lines-many (b ∷ []) = go (eqb b 10)
  where
    go : (t : Bool) → length (cond t ([] ∷ []) ((b ∷ []) ∷ [])) ≡ cond t 1 0 + 0 + cond t 0 1
    go true = refl
    go false = refl
lines-many (b ∷ c ∷ s) = go (eqb b 10) (lines-many (c ∷ s)) (some (c ∷ s) (omega arith))
  where
    go : (t : Bool) → length (lines_of (c ∷ s)) ≡ newlines (c ∷ s) + open-end (c ∷ s) → 0 < length (lines_of (c ∷ s)) →
        length (cond t ([] ∷ lines_of (c ∷ s)) (longer b (lines_of (c ∷ s)))) ≡ cond t 1 0 + newlines (c ∷ s) + open-end (c ∷ s)
    go true e h = omega (arith, e)
    go false e h = as_many b (lines_of (c ∷ s)) h ∙ omega (arith, e)

last_byte : (s : List ℕ) → 0 < length s → open-end s ≡ cond (eqb (get_or s (length s - 1) 0) 10) 0 1
unfolding open-end
last_byte [] h = absurd (omega (arith, h))
last_byte (b ∷ []) h = refl
last_byte (b ∷ c ∷ s) h = last_byte (c ∷ s) (omega arith) ∙ ap (λ (k : ℕ). cond (eqb (get_or (b ∷ c ∷ s) k 0) 10) 0 1) {x = suc (length (c ∷ s) - 1)} {y = length (b ∷ c ∷ s) - 1} (omega arith)

pub some_byte : (n : ℕ) → (n ≡ 0 → ⊥) → 0 < n
some_byte n h = omega (arith, h)

pub lines_none : (s : List ℕ) → length s ≡ 0 → 0 ≡ length (lines_of s)
lines_none s h = sym (none s (omega (arith, h)))

module _ (s : List ℕ) (n : ℕ) (h : 0 < length s) (e : n ≡ newlines s) where
  pub lines-ended : get_or s (length s - 1) 0 ≡ 10 → n ≡ length (lines_of s)
  lines-ended l = let o : open-end s ≡ 0 = last_byte s h ∙ rw (l) refl in omega (arith, lines-many s, o, e)

  pub lines-open : (get_or s (length s - 1) 0 ≡ 10 → ⊥) → n + 1 ≡ length (lines_of s)
  lines-open l = let o : open-end s ≡ 1 = last_byte s h ∙ rw (ne_eqb (get_or s (length s - 1) 0) 10 l) refl in omega (arith, lines-many s, o, e)

-- counting newlines, byte by byte
pub newline-next : (s : List ℕ) (i : ℕ) → i < length s → newlines (drop i s) ≡ newline_in (get_or s i 0) + newlines (drop (i + 1) s)
unfolding newlines
newline-next s i h = ap newlines (rest s i h)

pub newline-none : (s : List ℕ) (i : ℕ) → length s ≤ i → newlines (drop i s) ≡ 0
unfolding newlines
newline-none s i h = ap newlines (drop_of_length-le s h)

pub newlines-few : (s : List ℕ) → newlines s ≤ length s
unfolding newlines
newlines-few [] = omega arith
newlines-few (b ∷ s) = go (eqb b 10) (newlines-few s)
  where
    go : (t : Bool) → newlines s ≤ length s → cond t 1 0 + newlines s ≤ suc (length s)
    go true h = omega (arith, h)
    go false h = omega (arith, h)
