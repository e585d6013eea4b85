-- `forms::number` meets its contract. The invariant: what is left of the field makes of the number so far what the whole is. Assumes nothing.
use Prim.Native.Nat.{◌≤◌}
use mathlib.Core.Path.{◌≡◌}
use lib.ListN.{drop}
use Rattle.fields.specs.Paper.{value_from}
use Rattle.capped.specs.Capped.{capped}
use Rattle.forms.specs.Forms.{first_field}
use Rattle.forms.proofs.number.Given as goal

abbrev pub invariant-loop-b : goal.invariant-loop-b
invariant-loop-b l = (l.v ≤ 4294967295) × (capped (value_from l.v (first_field (drop l.b-index l.s))) ≡ capped (value_from 0 (first_field l.s)))
