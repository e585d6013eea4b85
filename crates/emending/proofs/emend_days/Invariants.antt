-- `emending::emend_days` meets its contract. The invariant: the emendations of the days passed are put from the place on, or counted. Assumes
-- nothing.
use Prim.Native.Nat.{◌+◌, ◌-◌}
use mathlib.Core.Path.{◌≡◌}
use mathlib.Core.Bool.{cond}
use lib.ListN.{length}
use lib.Seq.{sets}
use Rattle.rule.specs.Rule.{month_start}
use Rattle.emending.specs.Faults.{days_out}
use Rattle.emending.proofs.emend_days.Given as goal

abbrev pub invariant-loop-day : goal.invariant-loop-day
invariant-loop-day l =
    record {
      put : l.k ≡ l.at + length (days_out l.r l.shared (month_start l.fn.part.month) l.fn.part.from (l.day - l.fn.part.from));
      as_long : length l.out ≡ length l.initial.out;
      list : l.out ≡ cond l.write (sets l.initial.out l.at (days_out l.r l.shared (month_start l.fn.part.month) l.fn.part.from (l.day - l.fn.part.from))) l.initial.out;
    }
