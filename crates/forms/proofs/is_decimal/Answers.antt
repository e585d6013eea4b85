-- `forms::is_decimal` meets its contract. Assumes nothing.
use mathlib.Core.Path.{ap₂}
use mathlib.Core.Bool.{Bool, ◌&&◌}
use Rattle.forms.specs.Forms.{is_decimal}
use Rattle.forms.proofs.is_decimal.Goals as goal

pub returns : goal.returns
unfolding is_decimal
returns c = ap₂ (λ (a b : Bool). a && b) c.leads_well.ensures c.all_digits.ensures
