-- `listed::write_months` meets its contract: one item more at each turn. Assumes nothing.
use Rattle.std.proofs.Common.{arith, append-nil, append_assoc, rules}
use Rattle.sheet.specs.Sheet.{month_items}
use Rattle.fields.specs.Fields.{each}
use Rattle.fields.proofs.Putting.{each_next}
use Rattle.penned.specs.Lines.{month_item}
use Rattle.listed.proofs.Items.{in-range}
use Rattle.listed.proofs.write_months.Goals as goal

pub loop-month-init : goal.loop-month-init
unfolding each
loop-month-init g c = record { so_far = rw append-nil; few = omega arith }

pub write_month-requires : goal.write_month-requires
write_month-requires g c = (search rules, ((in-range month_items c.args.months.now c.requires.good _ (omega arith)).1, omega arith))

pub loop-month-preserved : goal.loop-month-preserved
loop-month-preserved g c = record { so_far = rw (each_next month_item c.args.months.now c.loop-month.month-index (omega arith), ← append_assoc) (cc); few = omega arith }
