-- `sheet::fill_sheet` meets its contract: each list is filled from the part where its section is found. Assumes nothing.
use native.Mathlib.Omega.{arith}
use mathlib.Core.Path.{ap, ◌∙◌}
use lib.Seq.{sets}
use Rattle.sheet.specs.Sheet.{lists_of, lists_in}
use Rattle.sheet.proofs.Sheets.{to-years, to-months, to-days, room-to-fill}
use Rattle.sheet.proofs.fill_sheet.Goals as goal

pub fill-requires : goal.fill-requires
fill-requires c = let pre = c.requires in ((to-years pre).long, (room-to-fill pre).0)

pub overflow_mul-t : goal.overflow_mul-t
overflow_mul-t c = omega (arith, (to-years c.requires).few)

pub overflow_add-t : goal.overflow_add-t
overflow_add-t c = omega (arith, (to-years c.requires).few)

pub slice_bounds-t-count : goal.slice_bounds-t-count
slice_bounds-t-count c = (to-years c.requires).long

pub slice_bounds-t-start : goal.slice_bounds-t-start
slice_bounds-t-start c = (to-years c.requires).long

pub fill-requires-2 : goal.fill-requires-2
fill-requires-2 c =
    let pre = c.requires in ((to-months pre _ (to-years pre).next).long, (room-to-fill pre).1)

pub overflow_mul-u : goal.overflow_mul-u
overflow_mul-u c = let pre = c.requires in omega (arith, (to-months pre _ (to-years pre).next).few)

pub overflow_add-u : goal.overflow_add-u
overflow_add-u c = let pre = c.requires in omega (arith, (to-months pre _ (to-years pre).next).few)

pub slice_bounds-u-count : goal.slice_bounds-u-count
slice_bounds-u-count c = let pre = c.requires in (to-months pre _ (to-years pre).next).long

pub slice_bounds-u-start : goal.slice_bounds-u-start
slice_bounds-u-start c = let pre = c.requires in (to-months pre _ (to-years pre).next).long

pub fill-requires-3 : goal.fill-requires-3
fill-requires-3 c =
    let pre = c.requires in ((to-days pre _ (to-months pre _ (to-years pre).next).next).long, (room-to-fill pre).2)

pub returns : goal.returns
unfolding lists_in lists_of
returns c =
    let pre = c.requires in let args = c.args in let m = to-months pre _ (to-years pre).next in record { years = c.fill.ensures ∙ ap (sets args.years.now 0) (to-years pre).stored; months = c.fill-2.ensures ∙ ap (sets args.months.now 0) m.stored; days = c.fill-3.ensures ∙ ap (sets args.days.now 0) (to-days pre _ m.next).stored }
