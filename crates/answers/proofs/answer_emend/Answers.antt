-- `answers::answer_emend` meets its contract: what `emending::emend` says, told, and the lines of the emendations. Assumes nothing.
use Rattle.std.specs.Prelude.{Result, Ok, Err}
use Rattle.std.proofs.Common.{ℕ, ◌≤◌, ◌≡◌, List, ◌++◌, length, rules, arith, ap, append_assoc, ◌∙◌}
use Rattle.emending.specs.declared.Emended.{Emended}
use Rattle.reading.specs.declared.SearchError.{SearchError}
use Rattle.reading.specs.Search.{said_found}
use Rattle.reading.specs.declared.Reading.{Reading}
use Rattle.reading.specs.Readings.{window_days}
use Rattle.emending.specs.Faults.{emendations}
use Rattle.emending.specs.Emended.{emend_at}
use Rattle.told.specs.Answers.{told, places, fits_line, emended_line, outcome_text, emend_text}
use Rattle.told.proofs.Emending.{emended-alike, emended-list, emended-most, emended-inside}
use Rattle.answers.proofs.Writing.{tells}
use Rattle.answers.proofs.answer_emend.Goals as goal

-- the text of an outcome
abbrev text_of : Reading → ℕ → ℕ → Emended → List ℕ
text_of r first last = outcome_text (emendations r first (window_days first last))

-- the text of the emendation, by what it said
says : (r : Reading) (first last : ℕ) (list : List ℕ) {x y : Result Emended SearchError} → places ≤ length list → said_found x ≡ emend_at r first last (length list) →
    x ≡ y →
    told (text_of r first last) (said_found y) ≡ emend_text r first last
unfolding emend_text
says r first last list h e g = tells (text_of r first last) said_found (e ∙ emended-alike r first last (length list) h) g

pub write_emendations-requires : goal.write_emendations-requires
write_emendations-requires g c =
    let s = c.emend.ensures in
    let e = c.in-Ok-Are.is ∙ ap Ok c.in-Ok-Are.field-0-is in
    (search rules, (emended-most s e, emended-inside s e, omega (arith, emended-most s e, c.write_total-in-Ok-Are.ensures.few, c.requires.1)))

pub returns-in-Ok-Fits-clause-text : goal.returns-in-Ok-Fits-clause-text
unfolding fits_line
returns-in-Ok-Fits-clause-text g c =
    let a = c.args in
    c.write_total.ensures.text
    ∙ ap (λ (l : List ℕ). a.text.now ++ l)
    (says a.r a.first a.last a.list.now c.requires.0 c.emend.ensures.answered (c.in-Ok-Fits.is ∙ ap Ok c.in-Ok-Fits.field-0-is))

pub returns-in-Ok-Are-clause-text : goal.returns-in-Ok-Are-clause-text
unfolding emended_line
returns-in-Ok-Are-clause-text g c =
    let a = c.args in
    let s = c.emend.ensures in
    let e = c.in-Ok-Are.is ∙ ap Ok c.in-Ok-Are.field-0-is in
    rw (
      c.write_emendations.ensures.text,
      c.write_total-in-Ok-Are.ensures.text,
      ← says a.r a.first a.last a.list.now c.requires.0 s.answered e,
      emended-list s e,
    ) (simp append_assoc)

pub returns-in-Ok-Are-clause-few : goal.returns-in-Ok-Are-clause-few
returns-in-Ok-Are-clause-few g c =
    omega (arith, emended-most c.emend.ensures (c.in-Ok-Are.is ∙ ap Ok c.in-Ok-Are.field-0-is))

pub returns-in-Err-TooShort-clause-text : goal.returns-in-Err-TooShort-clause-text
returns-in-Err-TooShort-clause-text g c =
    let a = c.args in
    c.write_refusal.ensures.text
    ∙ ap (λ (l : List ℕ). a.text.now ++ l)
    (says a.r a.first a.last a.list.now c.requires.0 c.emend.ensures.answered (c.in-Err-TooShort.is ∙ ap Err c.in-Err-TooShort.field-0-is))

pub returns-in-Err-Refused-clause-text : goal.returns-in-Err-Refused-clause-text
returns-in-Err-Refused-clause-text g c =
    let a = c.args in
    c.write_refusal-in-Err-Refused.ensures.text
    ∙ ap (λ (l : List ℕ). a.text.now ++ l)
    (says a.r a.first a.last a.list.now c.requires.0 c.emend.ensures.answered (c.in-Err-Refused.is ∙ ap Err c.in-Err-Refused.field-0-is))
