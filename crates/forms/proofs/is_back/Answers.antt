-- `forms::is_back` meets its contract. Assumes nothing.
use mathlib.Core.Path.{ap, ◌∙◌}
use Rattle.fields.specs.Fields.{word}
use Rattle.forms.specs.Forms.{is_decimal, same}
use Rattle.forms.proofs.Scanning.{to_the_end, empty_back, back-made}
use Rattle.forms.proofs.is_back.Goals as goal

pub returns-then-s-eq0 : goal.returns-then-s-eq0
returns-then-s-eq0 c = empty_back c.args.s.now c.if-s-eq0.true

pub returns : goal.returns
returns c =
    let s = c.args.s.now in
    back-made s c.if-s-eq0.false c.same.result c.is_decimal.result
    (c.same.ensures ∙ ap (same (word "0")) (to_the_end 1 s))
    (c.is_decimal.ensures ∙ ap is_decimal (to_the_end 1 s))
