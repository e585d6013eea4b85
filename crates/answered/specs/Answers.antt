-- What the answering program prints of a sheet of the new form: "the listing of the first three sections, then for each reading `READING` with its
-- six fields (`?` unread, marks `-` and `L`), first and last, and the search's answer". Assumes nothing.
use Rattle.std.specs.Prelude.{ℕ, cond, List, [], ◌∷◌, ◌++◌, eqb, get_or}
use Rattle.rule.specs.Reasons.{Answer, is, refused, refused-with}
use Rattle.fields.specs.Fields.{word, decimal, leap_text, joined, lined, each}
use Rattle.penned.specs.Lines.{refused_line, listing_of}
use Rattle.told.specs.Answers.{search_text}
use Rattle.newsheet.specs.New.{eight_of, reading_in, first_in, last_in, Four, read_new}

-- a number that was read, or `?`; a mark that was read, or `?`
abbrev pub field_shown : ℕ → List ℕ
field_shown k = cond (eqb k 0) (word "?") (decimal k)

abbrev pub mark_shown : ℕ → List ℕ
mark_shown k = cond (eqb k 0) (word "?") (leap_text (eqb k 2))

-- the line of a reading, by its eight numbers
unfoldable pub reading_line : List ℕ → List ℕ
reading_line v =
    lined
    (word "READING"
    ∷ field_shown (get_or v 0 0)
    ∷ field_shown (get_or v 1 0)
    ∷ mark_shown (get_or v 2 0)
    ∷ field_shown (get_or v 3 0)
    ∷ field_shown (get_or v 4 0)
    ∷ field_shown (get_or v 5 0)
    ∷ decimal (first_in v)
    ∷ decimal (last_in v)
    ∷ [])

-- what a line has from the day of the month on
abbrev pub rest_text : List ℕ → List ℕ
rest_text v = joined (field_shown (get_or v 3 0) ∷ field_shown (get_or v 4 0) ∷ field_shown (get_or v 5 0) ∷ decimal (first_in v) ∷ decimal (last_in v) ∷ [])

-- with the search's answer, "`FOUND total` and the desk's `DAY` lines"
unfoldable pub answer_to_reading : List ℕ → List ℕ
answer_to_reading v = reading_line v ++ search_text (reading_in v) (first_in v) (last_in v)

-- what comes before the readings: the listing of the three lists, or "`REFUSED` and the number and nothing else for a sheet that is not good"
abbrev pub head_text : Answer Four → List ℕ
head_text (is l) = listing_of l.three
head_text (refused k) = refused_line k
head_text (refused-with k n) = refused_line k

-- the readings that follow
abbrev pub readings_after : Answer Four → List ℕ
readings_after (is l) = l.readings
readings_after (refused k) = []
readings_after (refused-with k n) = []

-- all of it
unfoldable pub answers_text : List ℕ → List ℕ
answers_text s = head_text (read_new s) ++ each (λ x. answer_to_reading (eight_of x)) (readings_after (read_new s))
