-- `reading::count_window` meets its contract. The invariant: k of the days passed fit. Assumes nothing.
use Prim.Native.Nat.{◌-◌}
use mathlib.Core.Path.{◌≡◌}
use lib.ListN.{length}
use Rattle.reading.specs.Readings.{fitting}
use Rattle.reading.proofs.Runs.{Walk}
use Rattle.reading.proofs.count_window.Given as goal

abbrev pub invariant-loop-day : goal.invariant-loop-day
invariant-loop-day l = Walk l.first l.end l.day l.n × (l.k ≡ length (fitting l.r l.first (l.day - l.first)))

abbrev pub decreases-loop-day : goal.decreases-loop-day
decreases-loop-day l = l.end - l.day
