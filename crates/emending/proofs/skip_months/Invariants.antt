-- `emending::skip_months` meets its contract. The invariant: no emendation in the months passed over. Assumes nothing.
use Prim.Native.Nat.{◌-◌, ◌≤◌}
use mathlib.Core.Path.{◌≡◌}
use Rattle.rule.specs.Rule.{month_start}
use Rattle.emending.specs.Faults.{NoneBetween}
use Rattle.emending.proofs.skip_months.Given as goal

abbrev pub invariant-loop-start : goal.invariant-loop-start
invariant-loop-start l =
    (l.n ≤ l.m) × (l.m ≤ 507600) × (l.start ≡ month_start l.m) × NoneBetween l.r l.end l.n l.m

abbrev pub decreases-loop-start : goal.decreases-loop-start
decreases-loop-start l = 507600 - l.m
