-- `answered::answer_readings` meets its contract: one answer more at each turn. Assumes nothing.
use Rattle.std.proofs.Common.{ℕ, List, ◌≡◌, ◌∙◌, ◌++◌, ap, sym, subst, arith, get_or}
use lib.Seq.{take_all}
use Rattle.std.proofs.KnownBytes.{Appends-nil, Appends-trans}
use Rattle.std.proofs.lemmas.Result.{err_from_is_err_and}
use Rattle.std.specs.Io.KnownBytes.{Appends}
use Rattle.fields.specs.Fields.{each}
use Rattle.fields.proofs.Putting.{each_next}
use Rattle.newsheet.specs.New.{eight_of}
use Rattle.answered.specs.Answers.{answer_to_reading}
use Rattle.answered.proofs.answer_readings.Goals as goal

abbrev answered : ℕ → List ℕ
answered x = answer_to_reading (eight_of x)

pub loop-j-init : goal.loop-j-init
unfolding each
loop-j-init g c = λ xs h. Appends-nil _

pub loop-j-preserved : goal.loop-j-preserved
loop-j-preserved g c = λ xs h.
    let j = c.loop-j.j in
    let one = answered (get_or xs j 0) in
    let bytes : c.as_slice.result.now ≡ one = c.as_slice.ensures ∙ c.answer_reading.ensures.text xs h ∙ ap (λ (t : List ℕ). t ++ one) c.clear.ensures in
    subst (Appends _ _) (sym (each_next answered xs j (omega (arith, h.many))))
    (Appends-trans _ _ _ _ _ (c.loop-j.invariant xs h) (subst (Appends _ _) bytes c.in_ok-write_all.ensures.bytes))

pub returns-in_err-write_all : goal.returns-in_err-write_all
returns-in_err-write_all g c = λ xs h.
    let p = err_from_is_err_and c.from_residual.result c.from_residual.ensures.1 in rw (p.1) tt

pub returns : goal.returns
returns g c = λ xs h. subst (λ l. Appends (g.W.Write.contents c.args.to.now) (g.W.Write.contents c.loop-j.to) (each answered l)) (take_all c.loop-j.j xs (omega (arith, h.many))) (c.loop-j.invariant xs h)
