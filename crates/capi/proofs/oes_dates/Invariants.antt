-- `capi::oes_dates` meets its contract. The invariant: the first i records are the first i days' dates laid flat, and of the month that is kept
-- one of them has a date. Assumes nothing.
use Rattle.std.proofs.Common.{◌≡◌, length, get_or}
use Rattle.offered.specs.Promises.{c_date_at}
use Rattle.drawer.proofs.Mid.{mid}
use Rattle.drawer.proofs.Sharing.{Kept}
use Rattle.drawer.proofs.Filling.{AllFill}
use Rattle.capi.proofs.oes_dates.Given as goal

abbrev pub invariant-loop-i : goal.invariant-loop-i
invariant-loop-i l =
    record {
      good : AllFill l.days (length l.initial.out);
      so_far : l.out ≡ mid c_date_at l.days l.initial.out l.i;
      kept : Kept (λ k. get_or l.days k 0) l.i l.shared;
    }
