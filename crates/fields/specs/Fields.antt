-- What printed lines are made of: words, decimal numbers, marks, fields with single spaces between, lines. All are lists of bytes. Assumes
-- nothing.
use Rattle.std.specs.Prelude.{ℕ, zero, suc, ◌≡◌, ◌≤◌, ◌+◌, ◌/◌, ◌%◌, Bool, true, false, List, [], ◌∷◌, ◌++◌, ltb, length}
use Rattle.std.proofs.lemmas.List.Edits.{sets}
use Prim.Native.Char.{code}
use Prim.Native.String.{String, [] as no_text, ◌∷◌ as ◌then◌}

-- the bytes of a word
abbrev pub word : String → List ℕ
word no_text = []
word (c then s) = code c ∷ word s

-- the digits in front of the last one: none where the number has one digit alone
abbrev pub in_front : Bool → List ℕ → List ℕ
in_front true ds = []
in_front false ds = ds

-- the last of a number's digits after those in front of it, at most k
unfoldable pub digits : ℕ → ℕ → List ℕ
digits zero n = (48 + n % 10) ∷ []
digits (suc k) n = in_front (ltb n 10) (digits k (n / 10)) ++ ((48 + n % 10) ∷ [])

-- a decimal number without leading zeros (Paper, DecimalReadsBack and OneDecimal)
unfoldable pub decimal : ℕ → List ℕ
decimal n = digits n n

-- "`-` stands where the mark is absent"
abbrev pub mark : Bool → ℕ → ℕ
mark true letter = letter
mark false letter = 45

-- the letters of the two marks: "`L` for leap", "`E` for eclipse month"
abbrev pub letter_l : ℕ
letter_l = 76

abbrev pub letter_e : ℕ
letter_e = 69

-- the text of a leap mark
abbrev pub leap_text : Bool → List ℕ
leap_text l = mark l letter_l ∷ []

-- "Single spaces": fields, a space between two of them
unfoldable pub followed : List ℕ → List (List ℕ) → List ℕ
followed f [] = f
followed f (g ∷ fs) = f ++ (32 ∷ followed g fs)

abbrev pub joined : List (List ℕ) → List ℕ
joined [] = []
joined (f ∷ fs) = followed f fs

-- "one newline a line"
abbrev pub lined : List (List ℕ) → List ℕ
lined fs = joined fs ++ (10 ∷ [])

-- the text of each thing of a list, one after the other
unfoldable pub each : (ℕ → List ℕ) → List ℕ → List ℕ
each f [] = []
each f (x ∷ xs) = f x ++ each f xs

-- the bytes xs put into a buffer that held o, from place a on: what it holds then, the next place, and that they are w at most
pub record Put (w : ℕ) (o : List ℕ) (a : ℕ) (xs : List ℕ) (o' : List ℕ) (b : ℕ) : Type 0 where
  pub stored : o' ≡ sets o a xs
  pub next : b ≡ a + length xs
  pub few : b ≤ a + w
