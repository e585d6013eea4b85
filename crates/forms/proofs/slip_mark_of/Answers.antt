-- `forms::slip_mark_of` meets its contract. Assumes nothing.
use Rattle.std.specs.Prelude.{Some}
use mathlib.Core.Path.{refl, ap}
use Rattle.forms.specs.Forms.{slip_mark_of}
use Rattle.forms.proofs.slip_mark_of.Goals as goal

pub returns-then-same : goal.returns-then-same
unfolding slip_mark_of
returns-then-same c = rw (← c.same.ensures, c.if-same.true) refl

pub returns : goal.returns
unfolding slip_mark_of
returns c = rw (← c.same.ensures, c.if-same.false) (ap Some c.same-2.ensures)
