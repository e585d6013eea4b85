-- `drawer::all_in_range` meets its contract: what was found of the days before, and the days that are left, decide. Assumes nothing.
use Rattle.std.proofs.Common.{◌≡◌, ◌&&◌, drop}
use Rattle.drawer.specs.Drawer.{all_in_range}
use Rattle.drawer.proofs.all_in_range.Given as goal

abbrev pub invariant-loop-day : goal.invariant-loop-day
invariant-loop-day l = all_in_range l.days ≡ (l.good && all_in_range (drop l.day-index l.days))
