-- `forms::end_of` meets its contract. The invariant: no space so far. Assumes nothing.
use Prim.Native.Nat.{◌+◌}
use mathlib.Core.Path.{◌≡◌}
use lib.ListN.{length, drop}
use Rattle.forms.specs.Forms.{first_field}
use Rattle.forms.proofs.end_of.Given as goal

abbrev pub invariant-loop-to : goal.invariant-loop-to
invariant-loop-to l = l.to + length (first_field (drop l.to l.s)) ≡ l.from + length (first_field (drop l.from l.s))
