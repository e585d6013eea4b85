-- `reading::fill_days` meets its contract. The invariant: the fitting days passed stand in the list from the place on. Assumes nothing.
use Prim.Native.Nat.{◌+◌, ◌-◌}
use mathlib.Core.Path.{◌≡◌}
use lib.ListN.{length}
use lib.Seq.{sets}
use Rattle.rule.specs.Lists.{those}
use Rattle.rule.specs.Rule.{month_start}
use Rattle.reading.specs.Readings.{day_fits}
use Rattle.reading.proofs.fill_days.Given as goal

abbrev pub invariant-loop-day : goal.invariant-loop-day
invariant-loop-day l =
    record {
      filled : l.k ≡ l.at + length (those (day_fits l.r (month_start l.fn.part.month)) l.fn.part.from (l.day - l.fn.part.from));
      as_long : length l.out ≡ length l.initial.out;
      list : l.out ≡ sets l.initial.out l.at (those (day_fits l.r (month_start l.fn.part.month)) l.fn.part.from (l.day - l.fn.part.from));
    }
