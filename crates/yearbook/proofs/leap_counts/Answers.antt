-- `yearbook::leap_counts` meets its contract: the walk along the leap months of a bu. Assumes nothing.
use native.Mathlib.Omega.{arith}
use mathlib.Core.Path.{◌∙◌}
use lib.ListN.{get_or}
use Rattle.rule.proofs.Leap.{number-range}
use Rattle.yearbook.proofs.Leaps.{place-below, leap-step, leap-room, leaps-begin, leaps-done}
use Rattle.yearbook.proofs.leap_counts.Goals as goal

pub loop-leap-init : goal.loop-leap-init
loop-leap-init c = leaps-begin _ _ c.leap_places-places.result

pub overflow_sub-at : goal.overflow_sub-at
overflow_sub-at c = omega (arith, c.month_number.ensures, number-range (get_or c.leap_places-places.result c.loop-leap.leap-index 0))

pub at_place-requires : goal.at_place-requires
at_place-requires c =
    let table = c.leap_places-places in
    (place-below c.args.from c.args.to table.result table.ensures c.loop-leap.leap-index c.loop-leap-test.true, c.requires.0, c.requires.1)

pub bounds-counts-at : goal.bounds-counts-at
bounds-counts-at c = omega (arith, c.month_number.ensures, number-range (get_or c.leap_places-places.result c.loop-leap.leap-index 0))

pub overflow_add-counts : goal.overflow_add-counts
overflow_add-counts c =
    let table = c.leap_places-places in
    let room =
    leap-room c.args.from c.args.to table.result table.ensures c.loop-leap.leap-index c.loop-leap-test.true
    c.requires.1 c.loop-leap.counts c.month_number.result c.at_place.result c.loop-leap.invariant c.month_number.ensures
    c.at_place.ensures.1 in
    record { fits = omega (arith, room) }

pub bounds-counts-at-in-loop-leap : goal.bounds-counts-at-in-loop-leap
bounds-counts-at-in-loop-leap c = omega (arith, c.month_number.ensures, number-range (get_or c.leap_places-places.result c.loop-leap.leap-index 0))

pub loop-leap-preserved : goal.loop-leap-preserved
loop-leap-preserved c =
    let table = c.leap_places-places in
    leap-step c.args.from c.args.to table.result table.ensures c.loop-leap.leap-index c.loop-leap-test.true
    c.loop-leap.counts c.month_number.result c.at_place.result c.loop-leap.invariant c.month_number.ensures
    c.at_place.ensures.0

pub returns : goal.returns
returns c =
    let table = c.leap_places-places in
    c.loop-leap.invariant ∙ leaps-done c.args.from c.args.to table.result table.ensures c.loop-leap.leap-index c.loop-leap-test.false
