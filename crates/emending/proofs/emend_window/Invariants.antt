-- `emending::emend_window` meets its contract. The invariant: the emendations of the days passed are put to the front, or counted. Assumes
-- nothing.
use Prim.Native.Nat.{◌-◌}
use mathlib.Core.Path.{◌≡◌}
use mathlib.Core.Bool.{cond}
use lib.ListN.{length}
use lib.Seq.{sets}
use Rattle.reading.proofs.Runs.{Walk}
use Rattle.emending.specs.Faults.{emendations}
use Rattle.emending.proofs.emend_window.Given as goal

abbrev pub invariant-loop-day : goal.invariant-loop-day
invariant-loop-day l =
    Walk l.first l.end l.day l.n
    × (l.k ≡ length (emendations l.r l.first (l.day - l.first)))
    × (length l.out ≡ length l.initial.out)
    × (l.out ≡ cond l.write (sets l.initial.out 0 (emendations l.r l.first (l.day - l.first))) l.initial.out)

abbrev pub decreases-loop-day : goal.decreases-loop-day
decreases-loop-day l = l.end - l.day
