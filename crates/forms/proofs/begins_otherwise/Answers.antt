-- `forms::begins_otherwise` meets its contract. Assumes nothing.
use Rattle.forms.proofs.Likeness.{no-form, no_line, first-letters}
use Rattle.forms.proofs.begins_otherwise.Goals as goal

pub returns-then-form-eq0 : goal.returns-then-form-eq0
returns-then-form-eq0 c = no-form _ _ c.if-form-eq0.true

pub returns-then-line-eq0 : goal.returns-then-line-eq0
returns-then-line-eq0 c = no_line _ _ c.if-line-eq0.true

pub returns : goal.returns
returns c = first-letters c.args.form.now c.args.line.now c.if-form-eq0.false c.if-line-eq0.false
