-- `listed::lent::put_years` meets its contract: one item more at each turn. Assumes nothing.
use native.Mathlib.Omega.{arith}
use Rattle.fields.proofs.Puts.{put-kept}
use Rattle.sheet.specs.Sheet.{year_items}
use Rattle.penned.specs.Lines.{year_block}
use Rattle.listed.proofs.Items.{in-range}
use Rattle.listed.proofs.Puts.{no_item, room-for-item, next-item, all-items}
use Rattle.listed.proofs.lent.put_years.Goals as goal

pub loop-year-init : goal.loop-year-init
loop-year-init c = no_item 674 year_block c.args.years.now c.args.out.now c.args.at

pub put_year-to-requires : goal.put_year-to-requires
put_year-to-requires c =
    let r = in-range year_items c.args.years.now c.requires.0 c.loop-year.year-index (omega arith) in
    (omega (arith, r.1), room-for-item c.loop-year.invariant (omega arith) c.requires.1)

pub loop-year-preserved : goal.loop-year-preserved
loop-year-preserved c = next-item c.loop-year.invariant (omega arith) c.put_year-to.ensures

pub shape_of-out : goal.shape_of-out
shape_of-out c = put-kept c.loop-year.invariant.put

pub returns : goal.returns
returns c = all-items c.loop-year.invariant (omega arith)
