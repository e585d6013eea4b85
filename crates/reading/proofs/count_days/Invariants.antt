-- `reading::count_days` meets its contract. The invariant: k of the days passed fit. Assumes nothing.
use Prim.Native.Nat.{◌-◌}
use mathlib.Core.Path.{◌≡◌}
use lib.ListN.{length}
use Rattle.rule.specs.Lists.{those}
use Rattle.rule.specs.Rule.{month_start}
use Rattle.reading.specs.Readings.{day_fits}
use Rattle.reading.proofs.count_days.Given as goal

abbrev pub invariant-loop-day : goal.invariant-loop-day
invariant-loop-day l = l.k ≡ length (those (day_fits l.r (month_start l.fn.part.month)) l.fn.part.from (l.day - l.fn.part.from))
