-- "A reader over the text keeps its place and line number between lines": statements over the promises. proofs/Paper.antt proves each under
-- the same name in small letters. Assumes nothing.
use Rattle.std.specs.Prelude.{Ok, Err, Some, None, ℕ, ◌+◌, ◌≤◌, ◌<◌, ◌≡◌, List, [], ◌∷◌, ◌++◌, length, get_or}
use Rattle.std.specs.Borrow.{Bor}
use Rattle.rule.specs.declared.Reason.{Reason}
use Rattle.rule.specs.declared.Reason.TheVariants.{TextTooLong}
use Rattle.fields.specs.Fields.{word}
use Rattle.concordance.specs.declared.LineField.{LineField}
use Rattle.concordance.specs.declared.Verdict.{Verdict}
use Rattle.concordance.specs.declared.Verdict.TheVariants.{Wrong, Unreadable}
use Rattle.concordance.specs.Text.{lines_of, place_of}
use Rattle.concordance.specs.Verdicts.{LineTold, field_number, verdict_number, line_at}
use Rattle.concordance.specs.Promises.{JudgeText}
use Rattle.reader.specs.declared.Reader.{Reader}
use Rattle.reader.specs.Readers.{opened, NextLine}

-- month 129's line, the second of two big months, and an empty one
abbrev pub two_lines : List ℕ
two_lines = word "129 5 - 30 30 E" ++ (10 ∷ 10 ∷ [])

-- a reader that starts at the text t and makes step after step: the reader before step i, and what step i says
pub record Steps (t : Bor (List ℕ)) (reader : ℕ → Reader) (says : ℕ → LineTold) : Type 0 where
  pub start : reader 0 ≡ opened t
  pub step : (i : ℕ) → NextLine (reader i) (reader (i + 1)) (says i)

-- the reader's i-th verdict and line number are the call's: where the call answers n, the first n steps give its n verdicts, in order, and
-- the line numbers 1 to n, each from the place where its line starts; and every further step that none is left, and leaves the reader as it was
pub record AsTheCall (t : Bor (List ℕ)) (n : ℕ) (out : List ℕ) (reader : ℕ → Reader) (says : ℕ → LineTold) : Type 0 where
  pub verdicts : (i : ℕ) → i < n → (v : Verdict) × (says i ≡ Ok (Some v)) × (verdict_number v ≡ get_or out i 0)
  pub numbers : (i : ℕ) → i ≤ n → (reader i).line ≡ i
  pub places : (i : ℕ) → i ≤ n → (reader i).place ≡ place_of t.now i
  pub lines : (i : ℕ) → i < n → line_at t.now (reader i).place ≡ get_or (lines_of t.now) i []
  pub to_the_end : length t.now ≤ (reader n).place
  pub over : (i : ℕ) → n ≤ i → says i ≡ Ok None
  pub stays : (i : ℕ) → n ≤ i → reader (i + 1) ≡ reader i

abbrev pub ReaderIsTheCall : Type 0
ReaderIsTheCall =
    (t : Bor (List ℕ)) (reader : ℕ → Reader) (says : ℕ → LineTold) → Steps t reader says →
    (o out : List ℕ) (n : ℕ) → JudgeText t.now o (Ok n) out → AsTheCall t n out reader says

-- "text too long is 18": at every step exactly where the text is too long, and the reader stays as it was
pub record ReaderRefuses : Type 0 where
  pub long : (a b : Reader) (v : LineTold) → NextLine a b v → (length a.text.now ≤ 65536 → ⊥) →
      (v ≡ Err TextTooLong) × (b ≡ a)
  pub only : (a b : Reader) (v : LineTold) (why : Reason) → NextLine a b v → length a.text.now ≤ 65536 →
      (v ≡ Err why → ⊥)
  pub no_other : (a b : Reader) (why : Reason) → NextLine a b (Err why) → why ≡ TextTooLong

-- "wrong with the first wrong field (1 to 6)"
abbrev pub WrongInSix : Type 0
WrongInSix =
    (a b : Reader) (field : LineField) → NextLine a b (Ok (Some (Wrong field))) →
    (1 ≤ field_number field) × (field_number field ≤ 6)

-- and no two verdicts have one number, so that a number never stands for two things
abbrev pub OneVerdictANumber : Type 0
OneVerdictANumber = (u v : Verdict) → verdict_number u ≡ verdict_number v → u ≡ v

-- a step leaves one reader and says one thing
abbrev pub UniqueStep : Type 0
UniqueStep = (a b c : Reader) (v w : LineTold) → NextLine a b v → NextLine a c w → (v ≡ w) × (b ≡ c)

-- wrong versions, each shut out at a named text, month 129's line and an empty one, from its start: the reader that stays, in place or in
-- line number; that goes too far; that ends at once; that refuses; that calls the line unreadable, or wrong
pub record WrongSteps : Type 0 where
  pub stays : (t : Bor (List ℕ)) → t.now ≡ two_lines → (b : Reader) (v : LineTold) → NextLine (opened t) b v → b.place < 16 → ⊥
  pub too_far : (t : Bor (List ℕ)) → t.now ≡ two_lines → (b : Reader) (v : LineTold) → NextLine (opened t) b v → 16 < b.place → ⊥
  pub unnumbered : (t : Bor (List ℕ)) → t.now ≡ two_lines → (b : Reader) (v : LineTold) → NextLine (opened t) b v → b.line ≡ 0 → ⊥
  pub ends : (t : Bor (List ℕ)) → t.now ≡ two_lines → (b : Reader) → NextLine (opened t) b (Ok None) → ⊥
  pub refuses : (t : Bor (List ℕ)) → t.now ≡ two_lines → (b : Reader) (why : Reason) →
      NextLine (opened t) b (Err why) → ⊥
  pub unreadable : (t : Bor (List ℕ)) → t.now ≡ two_lines → (b : Reader) →
      NextLine (opened t) b (Ok (Some Unreadable)) → ⊥
  pub struck-out : (t : Bor (List ℕ)) → t.now ≡ two_lines → (b : Reader) (field : LineField) →
      NextLine (opened t) b (Ok (Some (Wrong field))) → ⊥
