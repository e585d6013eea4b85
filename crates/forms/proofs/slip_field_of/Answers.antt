-- `forms::slip_field_of` meets its contract. Assumes nothing.
use mathlib.Core.Path.{refl, ap}
use Rattle.forms.specs.Forms.{slip_field_of}
use Rattle.reading.specs.declared.Field.TheVariants.{Known}
use Rattle.forms.proofs.slip_field_of.Goals as goal

pub returns-then-same : goal.returns-then-same
unfolding slip_field_of
returns-then-same c = rw (← c.same.ensures, c.if-same.true) refl

pub returns : goal.returns
unfolding slip_field_of
returns c = rw (← c.same.ensures, c.if-same.false) (ap Known c.value_of.ensures)
