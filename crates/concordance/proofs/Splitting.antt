-- The lines of a text are what splitting at newlines gives. Assumes nothing.
use Rattle.std.proofs.Common.{◌≡◌, ℕ, Bool, true, false, cond, eqb, List, [], ◌∷◌, ◌++◌, sym, refl, ap, ◌∙◌, subst, ap₂, append_assoc, arith, ne_eqb, eqb-true}
use borrow.Author.Tests.{eqb-false}
use Rattle.penned.specs.Paper.{in_lines}
use Rattle.concordance.specs.Text.{longer, lines_of}
use Rattle.concordance.specs.Paper.{NoNewline, no_byte, byte_more, NoNewlines, no_line, line-more, MadeOf, ended, left_open}

-- no line has a newline in it
one-longer : (b : ℕ) → (b ≡ 10 → ⊥) → (ls : List (List ℕ)) → NoNewlines ls → NoNewlines (longer b ls)
one-longer b n [] h = line-more (byte_more {b = b} n no_byte) no_line
one-longer b n (l ∷ ls) (line-more h k) = line-more (byte_more {b = b} n h) k

pub without-newlines : (s : List ℕ) → NoNewlines (lines_of s)
unfolding lines_of
without-newlines [] = no_line
without-newlines (b ∷ s) = go (eqb b 10) refl (without-newlines s)
  where
    go : (t : Bool) → eqb b 10 ≡ t → NoNewlines (lines_of s) → NoNewlines (cond t ([] ∷ lines_of s) (longer b (lines_of s)))
    go true e h = line-more no_byte h
    go false e h = one-longer b (eqb-false b 10 e) (lines_of s) h

some_byte : (b : ℕ) (l : List ℕ) → b ∷ l ≡ [] → ⊥
some_byte b l e = let o : ◌≡◌ {A = ℕ} 0 1 = cc in omega arith

none_is : (hs : List (List ℕ)) (l : List ℕ) → [] ≡ hs ++ (l ∷ []) → ⊥
none_is [] l e = let o : ◌≡◌ {A = ℕ} 0 1 = cc in omega arith
none_is (h ∷ hs) l e = let o : ◌≡◌ {A = ℕ} 0 1 = cc in omega arith

-- a newline in front, and another byte
newline-front : {s : List ℕ} {ls : List (List ℕ)} → MadeOf s ls → MadeOf (10 ∷ s) ([] ∷ ls)
unfolding in_lines
newline-front (ended e) = ended (ap (λ (t : List ℕ). 10 ∷ t) e)
newline-front (left_open hs l e i n) = left_open ([] ∷ hs) l (ap (λ (t : List ℕ). 10 ∷ t) e) (ap (λ (t : List (List ℕ)). [] ∷ t) i) n

byte-front : (b : ℕ) {s : List ℕ} (ls : List (List ℕ)) → MadeOf s ls → MadeOf (b ∷ s) (longer b ls)
unfolding in_lines
byte-front b [] (ended e) = left_open [] (b ∷ []) (ap (λ (t : List ℕ). b ∷ t) e) refl (some_byte b [])
byte-front b [] (left_open hs l e i n) = absurd (none_is hs l i)
byte-front b (m ∷ ms) (ended e) = ended (ap (λ (t : List ℕ). b ∷ t) e)
byte-front b (m ∷ ms) (left_open [] l e i n) =
    left_open [] (b ∷ l) (ap (λ (t : List ℕ). b ∷ t) e) (ap₂ (λ (x : List ℕ) (y : List (List ℕ)). (b ∷ x) ∷ y) (let f : m ≡ l = cc in f) (let f : ms ≡ [] = cc in f)) (some_byte b l)
byte-front b (m ∷ ms) (left_open (h ∷ hs) l e i n) =
    left_open ((b ∷ h) ∷ hs) l (ap (λ (t : List ℕ). b ∷ t) e)
    (ap₂ (λ (x : List ℕ) (y : List (List ℕ)). (b ∷ x) ∷ y) (let f : m ≡ h = cc in f) (let f : ms ≡ hs ++ (l ∷ []) = cc in f)) n

pub made_of : (s : List ℕ) → MadeOf s (lines_of s)
unfolding lines_of in_lines
made_of [] = ended refl
made_of (b ∷ s) = go (eqb b 10) refl (made_of s)
  where
    go : (t : Bool) → eqb b 10 ≡ t → MadeOf s (lines_of s) → MadeOf (b ∷ s) (cond t ([] ∷ lines_of s) (longer b (lines_of s)))
    go true e h = rw (eqb-true b 10 e) (newline-front h)
    go false e h = byte-front b (lines_of s) h

-- a line with its newline, and a last one without
line_first : (u : List ℕ) {l : List ℕ} → NoNewline l → lines_of (l ++ (10 ∷ u)) ≡ l ∷ lines_of u
unfolding lines_of
line_first u no_byte = refl
line_first u (byte_more {b} n h) = rw (ne_eqb b 10 n) (ap (longer b) (line_first u h))

line-last : (l : List ℕ) → NoNewline l → (l ≡ [] → ⊥) → lines_of l ≡ l ∷ []
unfolding lines_of
line-last [] h n = absurd (n refl)
line-last (b ∷ []) (byte_more m h) n = rw (ne_eqb b 10 m) refl
line-last (b ∷ d ∷ l) (byte_more m h) n = rw (ne_eqb b 10 m) (ap (longer b) (line-last (d ∷ l) h (some_byte d l)))

-- no other lines make the text
all-ended : (ls : List (List ℕ)) → NoNewlines ls → lines_of (in_lines ls) ≡ ls
unfolding lines_of in_lines
all-ended [] h = refl
all-ended (l ∷ ls) (line-more h k) = line_first (in_lines ls) h ∙ ap (λ (t : List (List ℕ)). l ∷ t) (all-ended ls k)

one-open : (hs : List (List ℕ)) (l : List ℕ) → NoNewlines (hs ++ (l ∷ [])) → (l ≡ [] → ⊥) → lines_of (in_lines hs ++ l) ≡ hs ++ (l ∷ [])
unfolding in_lines
one-open [] l (line-more h k) n = line-last l h n
one-open (m ∷ hs) l (line-more h k) n =
    ap lines_of (append_assoc m (10 ∷ in_lines hs) l) ∙ (line_first (in_lines hs ++ l) h ∙ ap (λ (t : List (List ℕ)). m ∷ t) (one-open hs l k n))

pub only-lines : (s : List ℕ) (ls : List (List ℕ)) → NoNewlines ls → MadeOf s ls → lines_of s ≡ ls
only-lines s ls h (ended e) = ap lines_of e ∙ all-ended ls h
only-lines s ls h (left_open hs l e i n) = ap lines_of e ∙ (one-open hs l (subst NoNewlines i h) n ∙ sym i)
