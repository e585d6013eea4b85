-- What the verdicts program prints, at an example, and how much of an input it needs, as statements. proofs/Paper.antt proves each under the
-- same name in small letters. Assumes nothing.
use Rattle.std.specs.Prelude.{ℕ, ◌+◌, ◌≤◌, ◌≡◌, List, [], ◌∷◌, ◌++◌, length, take}
use Rattle.fields.specs.Fields.{word}
use Rattle.penned.specs.Paper.{in_lines}
use Rattle.listed.specs.Paper.{TakenInto}
use Rattle.concordance.specs.Text.{lines_of}
use Rattle.concordance.specs.Verdicts.{verdicts_of}
use Rattle.judging.specs.Report.{how_many, report}

-- a publisher's text with a fault in each field, one line that is right, one that is cut, an empty one
abbrev pub example_text : List ℕ
example_text =
    in_lines
    (word "129 5 - 30 30 E"
    ∷ word "507600 5 - 30 30 E"
    ∷ word "129 6 - 30 30 E"
    ∷ word "129 5 L 30 30 E"
    ∷ word "129 5 - 31 30 E"
    ∷ word "129 5 - 30 29 E"
    ∷ word "129 5 - 30 30 -"
    ∷ word "129 5 - 30"
    ∷ []
    ∷ [])

abbrev pub ExampleReported : Type 0
ExampleReported =
    report example_text
    ≡ in_lines
    (word "1 RIGHT"
    ∷ word "2 WRONG 1 month count"
    ∷ word "3 WRONG 2 number"
    ∷ word "4 WRONG 3 leap mark"
    ∷ word "5 WRONG 4 first day's name"
    ∷ word "6 WRONG 5 length"
    ∷ word "7 WRONG 6 eclipse mark"
    ∷ word "8 UNREADABLE"
    ∷ word "9 UNREADABLE"
    ∷ word "TOTAL 1 6 2"
    ∷ [])

-- the totals "also for an empty text"
abbrev pub EmptyReported : Type 0
EmptyReported = report [] ≡ in_lines (word "TOTAL 0 0 0" ∷ [])

-- "`REFUSED 18` and its words alone for a longer text"
abbrev pub LongRefused : Type 0
LongRefused = (s : List ℕ) → (length s ≤ 65536 → ⊥) → report s ≡ in_lines (word "REFUSED 18 text too long" ∷ [])

-- the three counts make up the lines
abbrev pub TotalsMakeUpTheLines : Type 0
TotalsMakeUpTheLines =
    (s : List ℕ) → how_many 0 0 (verdicts_of s) + how_many 1 6 (verdicts_of s) + how_many 7 7 (verdicts_of s) ≡ length (lines_of s)

-- so many bytes of an input the program holds
abbrev pub text_held : ℕ
text_held = 65537

-- and they have the report of the whole
abbrev pub FrontIsEnough : Type 0
FrontIsEnough = (s : List ℕ) → report (take text_held s) ≡ report s

-- whatever input the room has taken, what is written after a text is the report of the whole of it, in so many bytes at most
abbrev pub TextReported : (room : List ℕ) (n : ℕ) (text text' : List ℕ) → Type 0
TextReported room n text text' = (s : List ℕ) → TakenInto room n s → (text' ≡ text ++ report s) × (length text' ≤ length text + 2949159)
