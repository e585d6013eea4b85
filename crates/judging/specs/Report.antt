-- "a line each, `1 RIGHT`, `2 WRONG 4 first day's name` (the field and its words ..), `3 UNREADABLE`, and a last line `TOTAL right wrong
-- unreadable` with the three counts": the report of a text. Assumes nothing.
use Rattle.std.specs.Prelude.{ℕ, suc, cond, List, [], ◌∷◌, ◌++◌, eqb, leb, ltb, length}
use Rattle.std.specs.List.{count_by}
use Rattle.rule.specs.Reasons.{reason_number, within}
use Rattle.rule.specs.declared.Reason.{Reason}
use Rattle.rule.specs.declared.Reason.TheVariants.{TextTooLong}
use Rattle.fields.specs.Fields.{word, decimal, lined}
use Rattle.penned.specs.Lines.{words_of}
use Rattle.concordance.specs.Verdicts.{verdicts_of}

-- the words of the six fields
abbrev pub field_words : ℕ → List ℕ
field_words k =
    cond (eqb k 1) (word "month count")
    (cond (eqb k 2) (word "number")
    (cond (eqb k 3) (word "leap mark")
    (cond (eqb k 4) (word "first day's name")
    (cond (eqb k 5) (word "length")
    (word "eclipse mark")))))

-- what is said of a verdict, behind its line number
abbrev pub wrong_text : ℕ → List ℕ
wrong_text k = word " WRONG" ++ (32 ∷ (decimal k ++ (32 ∷ field_words k)))

abbrev pub said_of : ℕ → List ℕ
said_of v = cond (eqb v 0) (word " RIGHT") (cond (ltb 6 v) (word " UNREADABLE") (wrong_text v))

-- the line of line i's verdict
unfoldable pub verdict_line : ℕ → ℕ → List ℕ
verdict_line i v = decimal i ++ (said_of v ++ (10 ∷ []))

-- the lines of verdicts, numbered from i
unfoldable pub verdict_lines : ℕ → List ℕ → List ℕ
verdict_lines i [] = []
verdict_lines i (v ∷ vs) = verdict_line i v ++ verdict_lines (suc i) vs

-- how many verdicts are one of those from `least` to `most`
abbrev pub how_many : ℕ → ℕ → List ℕ → ℕ
how_many least most vs = count_by (within least most) vs

-- "a last line `TOTAL right wrong unreadable`"
unfoldable pub total_line : List ℕ → List ℕ
total_line vs = lined (word "TOTAL" ∷ decimal (how_many 0 0 vs) ∷ decimal (how_many 1 6 vs) ∷ decimal (how_many 7 7 vs) ∷ [])

-- "`REFUSED 18` and its words alone for a longer text"
unfoldable pub refusal_line : Reason → List ℕ
refusal_line why = lined (word "REFUSED" ∷ decimal (reason_number why) ∷ words_of why ∷ [])

-- the report of a text
unfoldable pub report : List ℕ → List ℕ
report s = cond (leb (length s) 65536) (verdict_lines 1 (verdicts_of s) ++ total_line (verdicts_of s)) (refusal_line TextTooLong)
