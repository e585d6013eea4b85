-- How much of an input the listing program needs, as a statement, and what it writes of a room into which an input was read.
-- proofs/Paper.antt proves the statement under the same name in small letters. Assumes nothing.
use Rattle.std.specs.Prelude.{ℕ, ◌+◌, ◌≤◌, ◌≡◌, List, ◌++◌, length, take}
use Rattle.penned.specs.Lines.{listing}

-- so many bytes of an input the listing program holds
abbrev pub input_held : ℕ
input_held = 10007

-- a longer input "is refused by its first fault in byte order, and with 11 only if it has none before": the bytes that are held
-- have the listing of the whole
abbrev pub FrontIsEnough : Type 0
FrontIsEnough = (s : List ℕ) → listing (take input_held s) ≡ listing s

-- n bytes at the front of a room are what it takes of an input: all of it, or as much as there is room for
abbrev pub TakenInto : (room : List ℕ) (n : ℕ) (s : List ℕ) → Type 0
TakenInto room n s = take n room ≡ take (length room) s

-- whatever input the room has taken, what is written after a text is the listing of the whole of it, in so many bytes at most
abbrev pub InputListed : (room : List ℕ) (n : ℕ) (text text' : List ℕ) → Type 0
InputListed room n text text' = (s : List ℕ) → TakenInto room n s → (text' ≡ text ++ listing s) × (length text' ≤ length text + 789000)
