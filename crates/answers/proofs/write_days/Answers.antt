-- `answers::write_days` meets its contract: one line more at each turn. Assumes nothing.
use Rattle.std.proofs.Common.{arith, append-nil, append_assoc, rules}
use Rattle.fields.specs.Fields.{each}
use Rattle.fields.proofs.Putting.{each_next}
use Rattle.told.specs.Answers.{day_line}
use Rattle.answers.proofs.write_days.Goals as goal

pub loop-day-init : goal.loop-day-init
unfolding each
loop-day-init g c = record { so_far = rw append-nil; few = omega arith }

pub write_day_of-requires : goal.write_day_of-requires
write_day_of-requires g c = (search rules, (c.requires.0 c.loop-day.day-index (omega arith), omega arith))

pub loop-day-preserved : goal.loop-day-preserved
loop-day-preserved g c = record { so_far = rw (each_next day_line c.args.days.now c.loop-day.day-index (omega arith), ← append_assoc) (cc); few = omega arith }
