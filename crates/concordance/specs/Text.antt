-- The lines of a text, and the place at which each starts. All are lists of bytes. Assumes nothing.
use Rattle.std.specs.Prelude.{ℕ, zero, suc, ◌+◌, cond, List, [], ◌∷◌, drop, ◌==◌}

-- one byte more at the front of the first line
abbrev pub longer : ℕ → List (List ℕ) → List (List ℕ)
longer b [] = (b ∷ []) ∷ []
longer b (l ∷ ls) = (b ∷ l) ∷ ls

-- the lines: a newline (10) ends one; "a final line without a newline counts, a newline at the end opens no further line, .. an empty
-- text has no lines"
unfoldable pub lines_of : List ℕ → List (List ℕ)
lines_of [] = []
lines_of (b ∷ s) = cond (b == 10) ([] ∷ lines_of s) (longer b (lines_of s))

-- how many bytes the first line has, without and with its newline
unfoldable pub line_length : List ℕ → ℕ
line_length [] = 0
line_length (b ∷ s) = cond (b == 10) 0 (suc (line_length s))

unfoldable pub advance : List ℕ → ℕ
advance [] = 0
advance (b ∷ s) = cond (b == 10) 1 (suc (advance s))

-- where line i starts, counted from 0
unfoldable pub place_of : List ℕ → ℕ → ℕ
place_of s zero = 0
place_of s (suc i) = place_of s i + advance (drop (place_of s i) s)

-- how many newlines there are
abbrev pub newline_in : ℕ → ℕ
newline_in b = cond (b == 10) 1 0

unfoldable pub newlines : List ℕ → ℕ
newlines [] = 0
newlines (b ∷ s) = newline_in b + newlines s
