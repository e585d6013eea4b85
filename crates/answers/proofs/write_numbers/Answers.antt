-- `answers::write_numbers` meets its contract: one number more at each turn. Assumes nothing.
use Rattle.std.proofs.Common.{arith, append-nil, append_assoc}
use Rattle.fields.specs.Fields.{each}
use Rattle.fields.proofs.Putting.{each_next}
use Rattle.told.specs.Yearbook.{spaced}
use Rattle.answers.proofs.write_numbers.Goals as goal

pub loop-count-init : goal.loop-count-init
unfolding each
loop-count-init g c = record { so_far = rw append-nil; few = omega arith }

pub loop-count-preserved : goal.loop-count-preserved
loop-count-preserved g c =
    record { so_far = rw (each_next spaced c.args.counts.now c.loop-count.count-index (omega arith), ← append_assoc) (cc); few = omega arith }
