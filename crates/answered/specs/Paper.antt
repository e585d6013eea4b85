-- How much of an input the answering program needs, as a statement; the line of a reading, literally; and what the program makes of a room into which an
-- input was read. proofs/Paper.antt proves each statement under the same name in small letters. Assumes nothing.
use Rattle.std.specs.Prelude.{ℕ, suc, ◌+◌, ◌*◌, ◌≤◌, ◌≡◌, Option, Result, IfOk, OnOk, List, [], ◌∷◌, ◌++◌, length, get_or, take}
use Rattle.std.specs.Io.KnownBytes.{Appends}
use Rattle.rule.specs.Reasons.{is, refused}
use Rattle.fields.specs.Fields.{word, decimal, each}
use Rattle.penned.specs.Lines.{refused_line, listing_of}
use Rattle.listed.specs.Paper.{TakenInto}
use Rattle.newsheet.specs.New.{eight_of, eights, Four, read_new}
use Rattle.answered.specs.Answers.{field_shown, mark_shown, reading_line, answer_to_reading, head_text, readings_after, answers_text}

-- so many bytes of an input the answering program holds: one more than the longest sheet
abbrev pub answers_held : ℕ
answers_held = 17009

-- a longer input is refused by its first fault in byte order: the bytes that are held are answered as the whole
abbrev pub FrontIsEnough : Type 0
FrontIsEnough = (s : List ℕ) → answers_text (take answers_held s) ≡ answers_text s

-- what is printed, for each thing that a sheet may say
pub record AnswersLiterally : Type 0 where
  pub refused-sheet : (s : List ℕ) (k : ℕ) → read_new s ≡ refused k → answers_text s ≡ refused_line k
  pub good-sheet :
      (s : List ℕ) (l : Four) → read_new s ≡ is l → answers_text s ≡ listing_of l.three ++ each (λ x. answer_to_reading (eight_of x)) l.readings

-- "(`?` unread, marks `-` and `L`)": the fields' texts, and a line with every kind of them
pub record ReadingLineLiterally : Type 0 where
  pub unread : field_shown 0 ≡ word "?"
  pub known : (k : ℕ) → field_shown (suc k) ≡ decimal (suc k)
  pub mark-unread : mark_shown 0 ≡ word "?"
  pub ordinary : mark_shown 1 ≡ word "-"
  pub leap : mark_shown 2 ≡ word "L"
  pub line : reading_line (22 ∷ 0 ∷ 2 ∷ 9 ∷ 60 ∷ 0 ∷ 258 ∷ 515 ∷ []) ≡ word "READING 22 ? L 9 60 ? 258 515" ++ (10 ∷ [])

-- the n readings xs stand in a list, eight numbers each, from its front
pub record HoldsReadings (list : List ℕ) (n : ℕ) (xs : List ℕ) : Type 0 where
  pub many : length xs ≡ n
  pub numbers : take (8 * n) list ≡ eights xs

-- after a text the head of what the bytes s are answered with is written, in so many bytes at most, and the n readings that follow stand in the list
pub record HeadWritten (s list text text' : List ℕ) (n : ℕ) : Type 0 where
  pub head : text' ≡ text ++ head_text (read_new s)
  pub room : length text' ≤ length text + 789000
  pub few : n ≤ 500
  pub readings : HoldsReadings list n (readings_after (read_new s))

-- whatever input the room has taken, it is the head of the whole of it
abbrev pub InputHeaded : (room : List ℕ) (n : ℕ) (list text text' : List ℕ) (k : ℕ) → Type 0
InputHeaded room n list text text' k = (s : List ℕ) → TakenInto room n s → HeadWritten s list text text' k

-- whatever readings the list holds, the answer to reading j is written after a text
abbrev pub ReadingAnswered : (list : List ℕ) (n j : ℕ) (text text' : List ℕ) → Type 0
ReadingAnswered list n j text text' = (xs : List ℕ) → HoldsReadings list n xs → text' ≡ text ++ answer_to_reading (eight_of (get_or xs j 0))

-- whatever readings the list holds, the output has been given the answers to all of them, where nothing failed
abbrev pub ReadingsAnswered : {E : Type 0} (list : List ℕ) (n : ℕ) (r : Result (Unit {0}) E) (to to' : Option (List ℕ)) → Type 0
ReadingsAnswered list n r to to' =
    (xs : List ℕ) → HoldsReadings list n xs → OnOk r (Appends to to' (each (λ x. answer_to_reading (eight_of x)) xs))

-- whatever input the room has taken, the output has been given the head of the whole of it, and the readings that follow stand in the list, where
-- nothing failed
abbrev pub InputHeadAnswered : {E : Type 0} (room : List ℕ) (n : ℕ) (list : List ℕ) (r : Result ℕ E) (to to' : Option (List ℕ)) → Type 0
InputHeadAnswered room n list r to to' =
    (s : List ℕ) → TakenInto room n s →
    IfOk r (λ k. (k ≤ 500) × HoldsReadings list k (readings_after (read_new s)) × Appends to to' (head_text (read_new s)))

-- whatever input the room has taken, the output has been given the answers to the whole of it, where nothing failed
abbrev pub InputAnswered : {E : Type 0} (room : List ℕ) (n : ℕ) (r : Result (Unit {0}) E) (to to' : Option (List ℕ)) → Type 0
InputAnswered room n r to to' = (s : List ℕ) → TakenInto room n s → OnOk r (Appends to to' (answers_text s))
