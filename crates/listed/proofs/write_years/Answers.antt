-- `listed::write_years` meets its contract: one item more at each turn. Assumes nothing.
use Rattle.std.proofs.Common.{arith, append-nil, append_assoc, rules}
use Rattle.sheet.specs.Sheet.{year_items}
use Rattle.fields.specs.Fields.{each}
use Rattle.fields.proofs.Putting.{each_next}
use Rattle.penned.specs.Lines.{year_block}
use Rattle.listed.proofs.Items.{in-range}
use Rattle.listed.proofs.write_years.Goals as goal

pub loop-year-init : goal.loop-year-init
unfolding each
loop-year-init g c = record { so_far = rw append-nil; few = omega arith }

pub write_year-requires : goal.write_year-requires
write_year-requires g c = (search rules, ((in-range year_items c.args.years.now c.requires.good _ (omega arith)).1, omega arith))

pub loop-year-preserved : goal.loop-year-preserved
loop-year-preserved g c = record { so_far = rw (each_next year_block c.args.years.now c.loop-year.year-index (omega arith), ← append_assoc) (cc); few = omega arith }
