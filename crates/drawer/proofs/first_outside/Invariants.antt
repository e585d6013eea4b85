-- `drawer::first_outside` meets its contract: the days that are left decide. Assumes nothing.
use Rattle.std.proofs.Common.{◌≡◌, drop}
use Rattle.drawer.specs.Drawer.{days_from}
use Rattle.drawer.proofs.first_outside.Given as goal

abbrev pub invariant-loop-i : goal.invariant-loop-i
invariant-loop-i l = days_from l.days 0 ≡ days_from (drop l.i l.days) l.i
