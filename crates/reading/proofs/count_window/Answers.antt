-- `reading::count_window` meets its contract. The invariant: k of the days passed fit. Assumes nothing.
use Prim.Native.Nat.{◌-◌, ◌≤◌, ◌<◌}
use native.Mathlib.Omega.{arith}
use mathlib.Core.Path.{ap, sym}
use lib.ListN.{length}
use Rattle.reading.proofs.Runs.{walk-starts, walk-month, walk-goes-on, walk-part, walk-next, walk-counted, none-fitting, at-most-fitting}
use Rattle.reading.proofs.count_window.Goals as goal

pub loop-day-init : goal.loop-day-init
loop-day-init c =
    (walk-starts c.requires.0 c.month_of_day-n.ensures, sym (ap length (none-fitting c.args.r c.args.first)))

pub part_end-to-requires : goal.part_end-to-requires
part_end-to-requires c =
    let p = c.requires in
    walk-month p.0 c.loop-day.invariant.0 p.1 c.loop-day-test.true

pub invariant_of-part : goal.invariant_of-part
invariant_of-part c =
    let p = c.requires in
    record { of_month = walk-part p.0 c.loop-day.invariant.0 c.loop-day-test.true c.part_end-to.ensures p.1 }

pub overflow_add-k : goal.overflow_add-k
overflow_add-k c =
    let on : (c.loop-day.day < c.part_end-to.result) × (c.part_end-to.result ≤ c.args.end) =
    walk-goes-on c.requires.0 c.loop-day.invariant.0 c.loop-day-test.true c.part_end-to.ensures in
    let to = c.part_end-to in
    let test = c.loop-day-test.true in
    omega (
      arith,
      on,
      walk-counted c.requires.0 c.loop-day.invariant.0 test to.ensures c.args.r c.loop-day.invariant.1 c.count_month-k.ensures,
      at-most-fitting c.args.r c.args.first (to.result - c.args.first),
    )

pub overflow_add-n : goal.overflow_add-n
overflow_add-n c =
    let p = c.requires in
    omega (arith, walk-month p.0 c.loop-day.invariant.0 p.1 c.loop-day-test.true)

pub loop-day-preserved : goal.loop-day-preserved
loop-day-preserved c =
    let to = c.part_end-to.ensures in
    let test = c.loop-day-test.true in (
      walk-next c.requires.0 c.loop-day.invariant.0 test to,
      walk-counted c.requires.0 c.loop-day.invariant.0 test to c.args.r c.loop-day.invariant.1 c.count_month-k.ensures,
    )

pub loop-day-smaller : goal.loop-day-smaller
loop-day-smaller c =
    let on : (c.loop-day.day < c.part_end-to.result) × (c.part_end-to.result ≤ c.args.end) =
    walk-goes-on c.requires.0 c.loop-day.invariant.0 c.loop-day-test.true c.part_end-to.ensures in
    omega (arith, on)
