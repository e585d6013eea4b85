-- `paged::read_through` meets its contract. The invariant: the verdicts on the first i lines are put, and the reader has read so many. Assumes
-- nothing.
use Rattle.std.proofs.Common.{◌≡◌}
use Rattle.concordance.specs.Text.{lines_of}
use Rattle.concordance.specs.Verdicts.{number_on}
use Rattle.drawer.proofs.Mid.{mid}
use Rattle.paged.proofs.Turns.{rd}
use Rattle.paged.proofs.read_through.Given as goal

abbrev pub invariant-loop-i : goal.invariant-loop-i
invariant-loop-i l =
    record {
      so_far : l.out ≡ mid number_on (lines_of l.text) l.initial.out l.i;
      of_text : l.r.text.now ≡ l.text;
      so_many : l.r ≡ rd l.r.text l.i;
    }
