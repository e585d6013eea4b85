-- `forms::is_like` meets its contract. The invariant: what is left of both says what the whole does. Assumes nothing.
use native.Mathlib.Omega.{arith}
use mathlib.Core.Path.{◌∙◌}
use Rattle.forms.proofs.Fields.{end-in}
use Rattle.forms.proofs.Likeness.{refused, line-ends, form-longer, both-next}
use mathlib.Core.Path.{sym}
use Rattle.forms.proofs.is_like.Goals as goal

pub slice_bounds-admits-end : goal.slice_bounds-admits-end
slice_bounds-admits-end c =
    end-in c.args.form.now c.loop-i.i c.end_of-a.result c.loop-i.invariant.0 c.end_of-a.ensures

pub slice_bounds-admits-end-in-loop-i : goal.slice_bounds-admits-end-in-loop-i
slice_bounds-admits-end-in-loop-i c =
    end-in c.args.line.now c.loop-i.j c.end_of-b.result c.loop-i.invariant.1 c.end_of-b.ensures

pub returns-then-not-admits : goal.returns-then-not-admits
returns-then-not-admits c =
    refused c.args.form.now c.args.line.now c.loop-i.i c.end_of-a.result c.loop-i.j c.end_of-b.result c.loop-i.invariant.0 c.loop-i.invariant.1 c.end_of-a.ensures c.end_of-b.ensures (sym c.admits.ensures ∙ c.if-not-admits.true) ∙ c.loop-i.invariant.2

pub returns-then-a-form : goal.returns-then-a-form
returns-then-a-form c =
    line-ends c.args.form.now c.args.line.now c.loop-i.i c.end_of-a.result c.loop-i.j c.end_of-b.result c.loop-i.invariant.0 c.loop-i.invariant.1 c.end_of-a.ensures c.end_of-b.ensures (sym c.admits.ensures ∙ c.if-not-admits.false) c.if-a-form.true ∙ c.loop-i.invariant.2

pub returns-then-b-line : goal.returns-then-b-line
returns-then-b-line c =
    form-longer c.args.form.now c.args.line.now c.loop-i.i c.end_of-a.result c.loop-i.j c.end_of-b.result c.loop-i.invariant.0 c.loop-i.invariant.1 c.end_of-a.ensures c.end_of-b.ensures (sym c.admits.ensures ∙ c.if-not-admits.false) c.if-a-form.false c.if-b-line.true ∙ c.loop-i.invariant.2

pub loop-i-preserved : goal.loop-i-preserved
loop-i-preserved c =
    (omega (arith, c.if-a-form.false, end-in c.args.form.now c.loop-i.i c.end_of-a.result c.loop-i.invariant.0 c.end_of-a.ensures), omega (arith, c.if-b-line.false, end-in c.args.line.now c.loop-i.j c.end_of-b.result c.loop-i.invariant.1 c.end_of-b.ensures), both-next c.args.form.now c.args.line.now c.loop-i.i c.end_of-a.result c.loop-i.j c.end_of-b.result c.loop-i.invariant.0 c.loop-i.invariant.1 c.end_of-a.ensures c.end_of-b.ensures (sym c.admits.ensures ∙ c.if-not-admits.false) c.if-a-form.false c.if-b-line.false ∙ c.loop-i.invariant.2)
