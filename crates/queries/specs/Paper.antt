-- What a line may be, literally, and its answer. No proofs here: proofs/Paper.antt has each under its own name.
use Rattle.std.specs.Prelude.{ℕ, suc, ◌≤◌, ◌<◌, ◌≡◌, true, false, List, [], ◌∷◌, ◌++◌, pos, negsuc, length, take}
use Rattle.reading.specs.declared.Field.{Field}
use Rattle.reading.specs.declared.Field.TheVariants.{Known, Unread}
use Rattle.reading.specs.declared.Reading.{Reading}
use Rattle.fields.specs.Fields.{word, decimal}
use Rattle.told.specs.Answers.{
  place_text,
  year_text,
  month_text,
  quarter_text,
  term_text,
  conjunction_text,
  next_text,
  pair_text,
  day_text,
  date_text,
  move_text,
  search_text,
  emend_text,
  clerk_text,
}
use Rattle.told.specs.Yearbook.{figures_text, spaced}
use Rattle.asked.specs.declared.Query.{Query}
use Rattle.asked.specs.Paper.{written}
use Rattle.queries.specs.Queries.{unreadable, answered, answer_to}

-- README's table, row by row: a line of these bytes, 200 at most, has this text. So a query's numbers are in their order
abbrev pub Line : List ℕ → List ℕ → Type 0
Line s text = length s ≤ 200 → answer_to s ≡ text

-- a reading of six fields, in the paper's order; of a known mark 1 is ordinary and 2 leap
abbrev pub slip_read : Field → Field → Field → Field → Field → Field → Reading
slip_read a b l c d e =
    record {
      year_name = a;
      month_number = b;
      leap_mark = l;
      day_of_month = c;
      day_name = d;
      first_name = e;
    }

pub record EachQueryLiterally : Type 0 where
  pub place : (y : ℕ) → Line (word "PLACE" ++ spaced y) (place_text y)
  pub year : (y : ℕ) → Line (word "YEAR" ++ spaced y) (year_text y)
  pub month : (n : ℕ) → Line (word "MONTH" ++ spaced n) (month_text n)
  pub quarter : (n q : ℕ) → Line (word "QUARTER" ++ (spaced n ++ spaced q)) (quarter_text n q)
  pub term : (y k : ℕ) → Line (word "TERM" ++ (spaced y ++ spaced k)) (term_text y k)
  pub conjunction : (p k : ℕ) → Line (word "CONJUNCTION" ++ (spaced p ++ spaced k)) (conjunction_text p k)
  pub next : (p d : ℕ) → Line (word "NEXT" ++ (spaced p ++ spaced d)) (next_text p d)
  pub pair : (p : ℕ) → Line (word "PAIR" ++ spaced p) (pair_text p)
  pub day : (d : ℕ) → Line (word "DAY" ++ spaced d) (day_text d)
  pub date : (y k m : ℕ) → Line (word "DATE" ++ (spaced y ++ (spaced k ++ (word " -" ++ spaced m)))) (date_text y k false m)
  pub leap-date : (y k m : ℕ) → Line (word "DATE" ++ (spaced y ++ (spaced k ++ (word " L" ++ spaced m)))) (date_text y k true m)
  pub move : (y k m n : ℕ) → Line (word "MOVE" ++ (spaced y ++ (spaced k ++ (word " -" ++ (spaced m ++ spaced n))))) (move_text y k false m (pos n))
  pub move-back : (y k m n : ℕ) →
      Line (word "MOVE" ++ (spaced y ++ (spaced k ++ (word " L" ++ (spaced m ++ (word " -" ++ decimal (suc n))))))) (move_text y k true m (negsuc n))
  pub search : (a b c d e first last : ℕ) →
      Line
      (word "SEARCH" ++ (spaced a ++ (spaced b ++ (word " L" ++ (spaced c ++ (spaced d ++ (spaced e ++ (spaced first ++ spaced last))))))))
      (search_text (slip_read (Known a) (Known b) (Known 2) (Known c) (Known d) (Known e)) first last)
  pub ordinary-search : (a first last : ℕ) →
      Line
      (word "SEARCH" ++ (spaced a ++ (word " ? - ? ? ?" ++ (spaced first ++ spaced last))))
      (search_text (slip_read (Known a) Unread (Known 1) Unread Unread Unread) first last)
  pub unread-search : (first last : ℕ) →
      Line (word "SEARCH ? ? ? ? ? ?" ++ (spaced first ++ spaced last)) (search_text (slip_read Unread Unread Unread Unread Unread Unread) first last)
  pub emend : (a b c d e first last : ℕ) →
      Line
      (word "EMEND" ++ (spaced a ++ (spaced b ++ (word " L" ++ (spaced c ++ (spaced d ++ (spaced e ++ (spaced first ++ spaced last))))))))
      (emend_text (slip_read (Known a) (Known b) (Known 2) (Known c) (Known d) (Known e)) first last)
  pub ordinary-emend : (a first last : ℕ) →
      Line
      (word "EMEND" ++ (spaced a ++ (word " ? - ? ? ?" ++ (spaced first ++ spaced last))))
      (emend_text (slip_read (Known a) Unread (Known 1) Unread Unread Unread) first last)
  pub unread-emend : (first last : ℕ) →
      Line (word "EMEND ? ? ? ? ? ?" ++ (spaced first ++ spaced last)) (emend_text (slip_read Unread Unread Unread Unread Unread Unread) first last)
  pub clerk : (b k : ℕ) → Line (word "CLERK" ++ (spaced b ++ spaced k)) (clerk_text b k)
  pub figures : (first last : ℕ) → Line (word "FIGURES" ++ (spaced first ++ spaced last)) (figures_text first last)

-- every query that is written in "at most 200 bytes without its newline" has its answer
abbrev pub WrittenIsAnswered : Type 0
WrittenIsAnswered = (q : Query) → length (written q) ≤ 200 → answer_to (written q) ≡ answered (written q) q

-- "A line that begins with `#` and has at most 200 bytes is a note": it is printed "as it stands", once
abbrev pub NoteAsItStands : Type 0
NoteAsItStands = (t : List ℕ) → length (35 ∷ t) ≤ 200 → answer_to (35 ∷ t) ≡ (35 ∷ t) ++ (10 ∷ [])

-- "A line that is no query (..) is `UNREADABLE`"
abbrev pub ElseUnreadable : Type 0
ElseUnreadable =
    (s : List ℕ) → ((t : List ℕ) → s ≡ 35 ∷ t → ⊥) → ((q : Query) → s ≡ written q → ⊥) → answer_to s ≡ unreadable

-- so is one "over 200 bytes", one that begins with `#` among them
abbrev pub TooLong : Type 0
TooLong = (s : List ℕ) → 200 < length s → answer_to s ≡ unreadable

-- the first 201 bytes tell the answer: a program need hold no more of a line
abbrev pub FrontIsEnough : Type 0
FrontIsEnough = (s : List ℕ) → answer_to (take 201 s) ≡ answer_to s
