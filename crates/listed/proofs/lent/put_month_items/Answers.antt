-- `listed::lent::put_month_items` meets its contract: one item more at each turn. Assumes nothing.
use native.Mathlib.Omega.{arith}
use Rattle.fields.proofs.Puts.{put-kept}
use Rattle.sheet.specs.Sheet.{month_items}
use Rattle.penned.specs.Lines.{month_item}
use Rattle.listed.proofs.Items.{in-range}
use Rattle.listed.proofs.Puts.{no_item, room-for-item, next-item, all-items}
use Rattle.listed.proofs.lent.put_month_items.Goals as goal

pub loop-month-init : goal.loop-month-init
loop-month-init c = no_item 54 month_item c.args.months.now c.args.out.now c.args.at

pub put_month-to-requires : goal.put_month-to-requires
put_month-to-requires c =
    let r = in-range month_items c.args.months.now c.requires.0 c.loop-month.month-index (omega arith) in
    (omega (arith, r.1), room-for-item c.loop-month.invariant (omega arith) c.requires.1)

pub loop-month-preserved : goal.loop-month-preserved
loop-month-preserved c = next-item c.loop-month.invariant (omega arith) c.put_month-to.ensures

pub shape_of-out : goal.shape_of-out
shape_of-out c = put-kept c.loop-month.invariant.put

pub returns : goal.returns
returns c = all-items c.loop-month.invariant (omega arith)
