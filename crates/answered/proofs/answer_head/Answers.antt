-- `answered::answer_head` meets its contract: the head is what the output is given. Assumes nothing.
use Rattle.std.proofs.Common.{List, ℕ, ◌≡◌, ◌∙◌, ◌++◌, ap, subst}
use Rattle.std.proofs.lemmas.Result.{err_from_is_err_and}
use Rattle.std.specs.Io.KnownBytes.{Appends}
use Rattle.newsheet.specs.New.{read_new}
use Rattle.answered.specs.Answers.{head_text}
use Rattle.answered.proofs.answer_head.Goals as goal

pub returns-in_err-write_all : goal.returns-in_err-write_all
returns-in_err-write_all g c = λ s e.
    let p = err_from_is_err_and c.from_residual.result c.from_residual.ensures.1 in rw (p.1) tt

pub returns : goal.returns
returns g c = λ s e.
    let p = c.head_taken-readings.ensures s e in
    let head = head_text (read_new s) in
    let bytes : c.as_slice.result.now ≡ head = c.as_slice.ensures ∙ p.head ∙ ap (λ (t : List ℕ). t ++ head) c.new-text.ensures in
    (p.few, p.readings, subst (Appends _ _) bytes c.in_ok-write_all.ensures.bytes)
