-- `answered::answer_taken` meets its contract: the head, and then the readings. Assumes nothing.
use Rattle.std.proofs.Common.{arith}
use Rattle.std.proofs.lemmas.Result.{on_ok_weaker, err_from_is_err_and}
use Rattle.std.proofs.KnownBytes.{Appends-trans}
use Rattle.std.specs.Io.KnownBytes.{Appends}
use Rattle.fields.specs.Fields.{each}
use Rattle.listed.proofs.Paper.{taken-itself}
use Rattle.newsheet.specs.New.{eight_of, read_new}
use Rattle.answered.specs.Answers.{answer_to_reading, answers_text, head_text, readings_after}
use Rattle.answered.proofs.answer_taken.Goals as goal

pub answer_readings-requires : goal.answer_readings-requires
answer_readings-requires g c =
    let p = c.in_ok-readings.ensures _ (taken-itself _ c.args.n (omega arith)) in (p.0, omega (arith, p.0))

pub returns-in_err-readings : goal.returns-in_err-readings
returns-in_err-readings g c = λ s e.
    let p = err_from_is_err_and c.from_residual.result c.from_residual.ensures.1 in rw (p.1) tt

pub returns : goal.returns
unfolding answers_text
returns g c = λ s e.
    let p = c.in_ok-readings.ensures s e in
    let readings = each (λ x. answer_to_reading (eight_of x)) (readings_after (read_new s)) in
    on_ok_weaker c.answer_readings.result
    (λ (h : Appends (g.W.Write.contents c.answer_head.new.to) (g.W.Write.contents c.answer_readings.new.to) readings).
    Appends-trans (g.W.Write.contents c.args.to.now) _ _ (head_text (read_new s)) readings p.2 h) (c.answer_readings.ensures _ p.1)
