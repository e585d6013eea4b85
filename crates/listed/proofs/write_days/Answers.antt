-- `listed::write_days` meets its contract: one item more at each turn. Assumes nothing.
use Rattle.std.proofs.Common.{arith, append-nil, append_assoc, rules}
use Rattle.sheet.specs.Sheet.{day_items}
use Rattle.fields.specs.Fields.{each}
use Rattle.fields.proofs.Putting.{each_next}
use Rattle.penned.specs.Lines.{day_item}
use Rattle.listed.proofs.Items.{in-range}
use Rattle.listed.proofs.write_days.Goals as goal

pub loop-day-init : goal.loop-day-init
unfolding each
loop-day-init g c = record { so_far = rw append-nil; few = omega arith }

pub write_day-requires : goal.write_day-requires
write_day-requires g c = (search rules, ((in-range day_items c.args.days.now c.requires.good _ (omega arith)).1, omega arith))

pub loop-day-preserved : goal.loop-day-preserved
loop-day-preserved g c = record { so_far = rw (each_next day_item c.args.days.now c.loop-day.day-index (omega arith), ← append_assoc) (cc); few = omega arith }
