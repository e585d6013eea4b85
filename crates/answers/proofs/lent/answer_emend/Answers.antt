-- `answers::lent::answer_emend` meets its contract: what `emending::emend` says, told, and the lines of the emendations. Assumes nothing.
use Rattle.std.specs.Prelude.{Result, Ok, Err}
use Rattle.std.proofs.Common.{ℕ, ◌≤◌, ◌≡◌, List, ◌++◌, length, arith, ap, ◌∙◌}
use Rattle.emending.specs.declared.Emended.{Emended}
use Rattle.reading.specs.declared.SearchError.{SearchError}
use Rattle.reading.specs.Search.{said_found}
use Rattle.reading.specs.declared.Reading.{Reading}
use Rattle.reading.specs.Readings.{window_days}
use Rattle.emending.specs.Faults.{emendations}
use Rattle.emending.specs.Emended.{emend_at}
use Rattle.fields.proofs.Puts.{put-kept, wide, then, put_as}
use Rattle.told.specs.Answers.{told, places, fits_line, emended_line, emendation_lines, outcome_text, emend_text}
use Rattle.told.proofs.Emending.{emended-alike, emended-list, emended-most, emended-inside}
use Rattle.answers.proofs.Writing.{tells}
use Rattle.answers.proofs.lent.answer_emend.Goals as goal

-- the text of an outcome
abbrev text_of : Reading → ℕ → ℕ → Emended → List ℕ
text_of r first last = outcome_text (emendations r first (window_days first last))

-- the text of the emendation, by what it said
says : (r : Reading) (first last : ℕ) (list : List ℕ) {x y : Result Emended SearchError} → places ≤ length list → said_found x ≡ emend_at r first last (length list) →
    x ≡ y →
    told (text_of r first last) (said_found y) ≡ emend_text r first last
unfolding emend_text
says r first last list h e g = tells (text_of r first last) said_found (e ∙ emended-alike r first last (length list) h) g

pub put_emendations-requires : goal.put_emendations-requires
put_emendations-requires c =
    let s = c.emend.ensures in
    let e = c.in-Ok-Are.is ∙ ap Ok c.in-Ok-Are.field-0-is in (
      emended-most s e,
      emended-inside s e,
      omega (arith, emended-most s e, put-kept c.put_total-to.ensures, c.put_total-to.ensures.few, c.requires.1),
    )

pub returns-in-Ok-Fits : goal.returns-in-Ok-Fits
unfolding fits_line
returns-in-Ok-Fits c =
    let a = c.args in
    put_as (says a.r a.first a.last a.list.now c.requires.0 c.emend.ensures.answered (c.in-Ok-Fits.is ∙ ap Ok c.in-Ok-Fits.field-0-is))
    (wide (omega arith) c.put_total.ensures)

pub returns-in-Ok-Are : goal.returns-in-Ok-Are
unfolding emended_line
returns-in-Ok-Are c =
    let a = c.args in
    let s = c.emend.ensures in
    let e = c.in-Ok-Are.is ∙ ap Ok c.in-Ok-Are.field-0-is in
    put_as (ap (λ (l : List ℕ). emended_line c.in-Ok-Are.n ++ emendation_lines l) (emended-list s e) ∙ says a.r a.first a.last a.list.now c.requires.0 s.answered e)
    (wide (omega (arith, emended-most s e)) (then c.put_total-to.ensures c.put_emendations.ensures))

pub returns-in-Err-TooShort : goal.returns-in-Err-TooShort
returns-in-Err-TooShort c =
    let a = c.args in
    put_as (says a.r a.first a.last a.list.now c.requires.0 c.emend.ensures.answered (c.in-Err-TooShort.is ∙ ap Err c.in-Err-TooShort.field-0-is))
    (wide (omega arith) c.put_refusal.ensures)

pub returns-in-Err-Refused : goal.returns-in-Err-Refused
returns-in-Err-Refused c =
    let a = c.args in
    put_as (says a.r a.first a.last a.list.now c.requires.0 c.emend.ensures.answered (c.in-Err-Refused.is ∙ ap Err c.in-Err-Refused.field-0-is))
    (wide (omega arith) c.put_refusal-in-Err-Refused.ensures)
