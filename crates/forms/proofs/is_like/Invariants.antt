-- `forms::is_like` meets its contract. The invariant: what is left of both says what the whole does. Assumes nothing.
use Prim.Native.Nat.{◌-◌, ◌≤◌}
use mathlib.Core.Path.{◌≡◌}
use lib.ListN.{length, drop}
use Rattle.forms.specs.Forms.{fields_in, like}
use Rattle.forms.proofs.is_like.Given as goal

abbrev pub invariant-loop-i : goal.invariant-loop-i
invariant-loop-i l =
    (l.i ≤ length l.form) × (l.j ≤ length l.line)
    × (like (fields_in (drop l.i l.form)) (fields_in (drop l.j l.line)) ≡ like (fields_in l.form) (fields_in l.line))

abbrev pub decreases-loop-i : goal.decreases-loop-i
decreases-loop-i l = length l.form - l.i
