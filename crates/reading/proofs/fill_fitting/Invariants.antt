-- `reading::fill_fitting` meets its contract. The invariant: the fitting days passed stand at the front of the list, k of them. Assumes
-- nothing.
use Prim.Native.Nat.{◌-◌}
use mathlib.Core.Path.{◌≡◌}
use lib.ListN.{length}
use lib.Seq.{sets}
use Rattle.reading.specs.Readings.{fitting}
use Rattle.reading.proofs.Runs.{Walk}
use Rattle.reading.proofs.fill_fitting.Given as goal

abbrev pub invariant-loop-day : goal.invariant-loop-day
invariant-loop-day l =
    Walk l.first l.end l.day l.n
    × (l.k ≡ length (fitting l.r l.first (l.day - l.first)))
    × (length l.out ≡ length l.initial.out)
    × (l.out ≡ sets l.initial.out 0 (fitting l.r l.first (l.day - l.first)))

abbrev pub decreases-loop-day : goal.decreases-loop-day
decreases-loop-day l = l.end - l.day
