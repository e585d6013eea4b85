-- The answer to each query and to each line. All are lists of bytes. Assumes nothing.
use Rattle.std.specs.Prelude.{Option, Some, None, ℕ, Bool, cond, List, [], ◌∷◌, ◌++◌, leb, length}
use Rattle.reading.specs.declared.Field.{Field}
use Rattle.reading.specs.declared.Field.TheVariants.{Known, Unread}
use Rattle.reading.specs.declared.Reading.{Reading}
use Rattle.reading.specs.Readings.{mark_number}
use Rattle.fields.specs.Fields.{word, lined}
use Rattle.asked.specs.declared.Slip.{Slip}
use Rattle.asked.specs.declared.Query.{Query}
use Rattle.asked.specs.Paper.{read}
use Rattle.told.specs.Answers.{
  place_text,
  year_text,
  month_text,
  quarter_text,
  term_text,
  conjunction_text,
  next_text,
  pair_text,
  day_text,
  date_text,
  move_text,
  search_text,
  emend_text,
  clerk_text,
}
use Rattle.told.specs.Yearbook.{figures_text}

-- "A line that is no query is `UNREADABLE`"
unfoldable pub unreadable : List ℕ
unreadable = lined (word "UNREADABLE" ∷ [])

-- a mark as a field of a reading: 1 for ordinary and 2 for leap
abbrev pub mark_field : Option Bool → Field
mark_field (Some l) = Known (mark_number l)
mark_field None = Unread

abbrev pub reading_of : Slip → Reading
reading_of s =
    record {
      year_name = s.year_name;
      month_number = s.month_number;
      leap_mark = mark_field s.leap_mark;
      day_of_month = s.day_of_month;
      day_name = s.day_name;
      first_name = s.first_name;
    }

-- the answer to each query, of the line that asks it: a note is printed "as it stands"
abbrev pub answered : List ℕ → Query → List ℕ
answered s Query.Unreadable = unreadable
answered s Query.Note = s ++ (10 ∷ [])
answered s (Query.Place y) = place_text y
answered s (Query.Year y) = year_text y
answered s (Query.Month k) = month_text k
answered s (Query.Quarter k q) = quarter_text k q
answered s (Query.Term y k) = term_text y k
answered s (Query.Conjunction p k) = conjunction_text p k
answered s (Query.Next p d) = next_text p d
answered s (Query.Pair p) = pair_text p
answered s (Query.Day d) = day_text d
answered s (Query.Date y k l d) = date_text y k l d
answered s (Query.Move y k l d n) = move_text y k l d n
answered s (Query.Search r a b) = search_text (reading_of r) a b
answered s (Query.Emend r a b) = emend_text (reading_of r) a b
answered s (Query.Clerk b k) = clerk_text b k
answered s (Query.Figures a b) = figures_text a b

-- the answer to a line: "each at most 200 bytes without its newline"
unfoldable pub answer_to : List ℕ → List ℕ
answer_to s = cond (leb (length s) 200) (answered s (read s)) unreadable
