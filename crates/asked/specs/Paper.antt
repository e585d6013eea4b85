-- How each query is written, literally, and that nothing else is read. No proofs here: proofs/Paper.antt has each under its own name.
use Rattle.std.specs.Prelude.{ℕ, ◌≡◌, List, [], ◌∷◌}
use Rattle.forms.specs.Texts.{Text, w, n, m, s, f, g, line}
use Rattle.asked.specs.declared.Slip.{Slip}
use Rattle.asked.specs.declared.Query.{Query}
use Rattle.asked.specs.Asked.{read_by}

-- a slip's six fields in front of others
abbrev pub slip : Slip → List Text → List Text
slip r ts =
    f r.year_name ∷ f r.month_number ∷ g r.leap_mark
    ∷ f r.day_of_month ∷ f r.day_name ∷ f r.first_name ∷ ts

-- each query, as README's table shows it: `w` a word, `n` a number of any size, `m` a mark, `s` a number that may start with `-`. A line
-- with nothing in it asks nothing, and the shortest note is `#`
abbrev pub texts : Query → List Text
texts Query.Unreadable = []
texts Query.Note = w "#" ∷ []
texts (Query.Place y) = w "PLACE" ∷ n y ∷ []
texts (Query.Year y) = w "YEAR" ∷ n y ∷ []
texts (Query.Month k) = w "MONTH" ∷ n k ∷ []
texts (Query.Quarter k q) = w "QUARTER" ∷ n k ∷ n q ∷ []
texts (Query.Term y k) = w "TERM" ∷ n y ∷ n k ∷ []
texts (Query.Conjunction p k) = w "CONJUNCTION" ∷ n p ∷ n k ∷ []
texts (Query.Next p d) = w "NEXT" ∷ n p ∷ n d ∷ []
texts (Query.Pair p) = w "PAIR" ∷ n p ∷ []
texts (Query.Day d) = w "DAY" ∷ n d ∷ []
texts (Query.Date y k l d) = w "DATE" ∷ n y ∷ n k ∷ m l ∷ n d ∷ []
texts (Query.Move y k l d z) = w "MOVE" ∷ n y ∷ n k ∷ m l ∷ n d ∷ s z ∷ []
texts (Query.Search r a b) = w "SEARCH" ∷ slip r (n a ∷ n b ∷ [])
texts (Query.Emend r a b) = w "EMEND" ∷ slip r (n a ∷ n b ∷ [])
texts (Query.Clerk b k) = w "CLERK" ∷ n b ∷ n k ∷ []
texts (Query.Figures a b) = w "FIGURES" ∷ n a ∷ n b ∷ []

unfoldable pub written : Query → List ℕ
written q = line (texts q)

-- what a line asks, with numbers of any size
abbrev pub read : List ℕ → Query
read = read_by (λ k. k)

-- every query is read as it is written
abbrev pub WrittenIsRead : Type 0
WrittenIsRead = (q : Query) → read (written q) ≡ q

-- a line that begins with `#` is read as a note, whatever follows
abbrev pub NoteIsRead : Type 0
NoteIsRead = (t : List ℕ) → read (35 ∷ t) ≡ Query.Note

-- any other line that is no query is unreadable
abbrev pub ElseUnreadable : Type 0
ElseUnreadable =
    (t : List ℕ) → ((u : List ℕ) → t ≡ 35 ∷ u → ⊥) → ((q : Query) → t ≡ written q → ⊥) → read t ≡ Query.Unreadable

-- a line is one query alone
abbrev pub OneQuery : Type 0
OneQuery = (p q : Query) → written p ≡ written q → p ≡ q
