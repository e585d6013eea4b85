-- `listed::lent::put_day_items` meets its contract: one item more at each turn. Assumes nothing.
use native.Mathlib.Omega.{arith}
use Rattle.fields.proofs.Puts.{put-kept}
use Rattle.sheet.specs.Sheet.{day_items}
use Rattle.penned.specs.Lines.{day_item}
use Rattle.listed.proofs.Items.{in-range}
use Rattle.listed.proofs.Puts.{no_item, room-for-item, next-item, all-items}
use Rattle.listed.proofs.lent.put_day_items.Goals as goal

pub loop-day-init : goal.loop-day-init
loop-day-init c = no_item 61 day_item c.args.days.now c.args.out.now c.args.at

pub put_day-to-requires : goal.put_day-to-requires
put_day-to-requires c =
    let r = in-range day_items c.args.days.now c.requires.0 c.loop-day.day-index (omega arith) in
    (omega (arith, r.1), room-for-item c.loop-day.invariant (omega arith) c.requires.1)

pub loop-day-preserved : goal.loop-day-preserved
loop-day-preserved c = next-item c.loop-day.invariant (omega arith) c.put_day-to.ensures

pub shape_of-out : goal.shape_of-out
shape_of-out c = put-kept c.loop-day.invariant.put

pub returns : goal.returns
returns c = all-items c.loop-day.invariant (omega arith)
