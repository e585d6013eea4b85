-- `fields::lent::put_mark` meets its contract. Assumes nothing.
use mathlib.Core.Path.{ap}
use mathlib.Core.List.{[], ◌∷◌}
use Rattle.fields.proofs.Puts.{then, put_as}
use Rattle.fields.proofs.lent.put_mark.Goals as goal

pub returns : goal.returns
returns c =
    put_as (ap (λ b. 32 ∷ b ∷ []) c.mark_of.ensures) (then c.put_byte-to.ensures c.put_byte.ensures)
