-- `forms::is_mark` meets its contract. Assumes nothing.
use mathlib.Core.Path.{ap₂}
use mathlib.Core.Bool.{Bool, ◌||◌}
use Rattle.forms.specs.Forms.{is_mark}
use Rattle.forms.proofs.is_mark.Goals as goal

pub returns : goal.returns
unfolding is_mark
returns c = ap₂ (λ (a b : Bool). a || b) c.same.ensures c.same-2.ensures
