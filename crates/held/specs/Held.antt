-- The line that is being read, what is said at each byte of an input, and what is held of a line. A line is a list of
-- bytes. Assumes nothing.
use Rattle.std.specs.Prelude.{ℕ, ◌≤◌, ◌≡◌, Bool, cond, ◌&&◌, List, [], ◌∷◌, ◌++◌, eqb, leb, length, take}
use Rattle.asked.specs.Asked.{hashed}
use Rattle.queries.specs.Queries.{answer_to}

-- "one query a line": a line so far, after a byte more of the input. A newline ends it, and the next line begins
unfoldable pub line_after : List ℕ → ℕ → List ℕ
line_after l b = cond (eqb b 10) [] (l ++ (b ∷ []))

-- after many bytes more
unfoldable pub line_after_all : List ℕ → List ℕ → List ℕ
line_after_all l [] = l
line_after_all l (b ∷ s) = line_after_all (line_after l b) s

-- "A line that begins with `#` and has at most 200 bytes is a note"
unfoldable pub is_note : List ℕ → Bool
is_note l = leb (length l) 200 && hashed l

-- "With echo, each line held (201 bytes at most) is printed before its answer"; a note is printed "once"
unfoldable pub echoed : List ℕ → List ℕ
echoed l = cond (is_note l) [] (take 201 l ++ (10 ∷ []))

-- what is said to a line: its answer, behind the line itself where there is echo
unfoldable pub reply : Bool → List ℕ → List ℕ
reply e l = cond e (echoed l) [] ++ answer_to l

module _ (e : Bool) where
  -- at a byte: at a line's end what is said to the line
  unfoldable pub said_at : List ℕ → ℕ → List ℕ
  said_at l b = cond (eqb b 10) (reply e l) []

  -- at the input's end: "A final line without a newline counts", where there is one
  unfoldable pub said_at_end : List ℕ → List ℕ
  said_at_end [] = []
  said_at_end (b ∷ l) = reply e (b ∷ l)

  -- to the rest of an input, behind a line so far
  unfoldable pub said_to : List ℕ → List ℕ → List ℕ
  said_to l [] = said_at_end l
  said_to l (b ∷ s) = said_at l b ++ said_to (line_after l b) s

-- the first n bytes of a room are those that are held of a line: its first 201
abbrev pub Holds : (room : List ℕ) (n : ℕ) (l : List ℕ) → Type 0
Holds room n l = take n room ≡ take 201 l

-- whatever line was held, what became of it is held
pub record Becomes (f : List ℕ → List ℕ) (room : List ℕ) (n : ℕ) (room' : List ℕ) (r : ℕ) : Type 0 where
  pub few : r ≤ 201
  pub holds : (l : List ℕ) → Holds room n l → Holds room' r (f l)

-- whatever line is held, the text is what is said to it, to the whole of it
pub record Answers (f : List ℕ → List ℕ) (room : List ℕ) (n : ℕ) (text : List ℕ) : Type 0 where
  pub said : (l : List ℕ) → Holds room n l → text ≡ f l
