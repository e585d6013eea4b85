-- What holds of lines and of what is held of them, as statements. proofs/Paper.antt proves each under the same name in small letters.
-- Assumes nothing.
use Rattle.std.specs.Prelude.{ℕ, ◌≤◌, ◌<◌, ◌≡◌, Bool, true, false, List, [], ◌∷◌, ◌++◌, length, get_or, take}
use Rattle.queries.specs.Queries.{answer_to}
use Rattle.fields.specs.Fields.{word}
use Rattle.held.specs.Held.{line_after, line_after_all, reply, said_at, said_to, Holds, Becomes, Answers}

-- no newline stands in it
abbrev pub OneLine : List ℕ → Type 0
OneLine s = (i : ℕ) → i < length s → get_or s i 0 ≡ 10 → ⊥

-- to what is held of a line the same is said as to the whole
abbrev pub HeldIsEnough : Type 0
HeldIsEnough = (e : Bool) (room : List ℕ) (n : ℕ) (l : List ℕ) → Holds room n l → reply e (take n room) ≡ reply e l

-- without echo a line's answer alone is said; with echo "each line held (201 bytes at most) is printed before its answer", and a note
-- "as it stands", "once"
pub record EchoLiterally : Type 0 where
  pub without : (l : List ℕ) → reply false l ≡ answer_to l
  pub line_first : (l : List ℕ) → (length l ≤ 200 → (t : List ℕ) → l ≡ 35 ∷ t → ⊥) → reply true l ≡ take 201 l ++ (10 ∷ answer_to l)
  pub note-once : (t : List ℕ) → length (35 ∷ t) ≤ 200 → reply true (35 ∷ t) ≡ (35 ∷ t) ++ (10 ∷ [])

-- the line so far is what came since the last newline, or all that came, where there was none
pub record SinceLastNewline : Type 0 where
  pub some : (l p s : List ℕ) → OneLine s → line_after_all l (p ++ (10 ∷ s)) ≡ s
  pub none : (l s : List ℕ) → OneLine s → line_after_all l s ≡ l ++ s

-- "one query a line", answered in input order; "A final line without a newline counts"; and nothing else is said
pub record LineByLine (e : Bool) : Type 0 where
  pub line : (l s : List ℕ) → OneLine l → said_to e [] (l ++ (10 ∷ s)) ≡ reply e l ++ said_to e [] s
  pub final : (b : ℕ) (l : List ℕ) → OneLine (b ∷ l) → said_to e [] (b ∷ l) ≡ reply e (b ∷ l)
  pub nothing : said_to e [] [] ≡ []

-- a room of 201 places holds a line in one way
abbrev pub OneHolding : Type 0
OneHolding =
    (a b : List ℕ) (m n : ℕ) (l : List ℕ) → length a ≡ 201 → length b ≡ 201 → m ≤ 201 → n ≤ 201 → Holds a m l → Holds b n l →
    (m ≡ n) × (take m a ≡ take n b)

-- wrong versions: a byte that is lost, a line of which 200 bytes are held, a newline that ends nothing, a line that is not answered, one that
-- is answered as if its numbers were exchanged (19 for 6), one that is unreadable; with echo a note that is printed twice, and a line that
-- is not printed
pub record WrongHoldings : Type 0 where
  pub byte-lost : (room room' : List ℕ) → Becomes (λ l. line_after l 65) room 0 (0 ∷ room') 1 → ⊥
  pub two-hundred : (room room' : List ℕ) → length room ≡ 201 → Becomes (λ l. line_after l 65) room 200 room' 200 → ⊥
  pub never-ending : (room : List ℕ) → Becomes (λ l. line_after l 10) (65 ∷ room) 1 (65 ∷ room) 1 → ⊥
  pub unanswered : (room : List ℕ) → length room ≡ 201 → Answers (λ l. said_at false l 10) room 201 [] → ⊥
  pub note-twice : (room rest : List ℕ) → Answers (λ l. said_at true l 10) (35 ∷ room) 1 (35 ∷ 10 ∷ 35 ∷ 10 ∷ rest) → ⊥
  pub numbers-exchanged : (rest : List ℕ) → Answers (λ l. said_at false l 10) (word "NEXT 1 99999999999") 18 (word "REFUSED 1" ++ rest) → ⊥
  pub all-unreadable : (rest : List ℕ) → Answers (λ l. said_at false l 10) (word "NEXT 1 99999999999") 18 (word "UNREADABL" ++ rest) → ⊥
  pub not-echoed : (room rest : List ℕ) → Answers (λ l. said_at true l 10) (65 ∷ room) 1 (85 ∷ rest) → ⊥
