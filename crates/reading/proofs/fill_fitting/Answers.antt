-- `reading::fill_fitting` meets its contract. The invariant: the fitting days passed stand at the front of the list, k of them. Assumes
-- nothing.
use Prim.Native.Nat.{ℕ, ◌-◌}
use native.Mathlib.Omega.{arith}
use mathlib.Core.Path.{◌≡◌, refl, ap, sym, ◌∙◌}
use lib.ListN.{length}
use lib.Seq.{sets, length-sets}
use Rattle.reading.specs.Readings.{fitting}
use Rattle.rule.proofs.Stores.{from_front}
use Rattle.reading.proofs.Runs.{walk-starts, walk_inside, walk-month, walk-goes-on, walk-part, walk-next, walk-counted, walk-room, walk-filled, none-fitting}
use Rattle.reading.proofs.fill_fitting.Goals as goal

pub loop-day-init : goal.loop-day-init
loop-day-init c =
    let a = c.args in
    let none = none-fitting a.r a.first in
    (walk-starts c.requires.0 c.month_of_day-n.ensures, sym (ap length none), refl, sym (ap (sets a.out.now 0) none))

pub part_end-to-requires : goal.part_end-to-requires
part_end-to-requires c =
    let p = c.requires in
    walk-month p.0 c.loop-day.invariant.0 p.1 c.loop-day-test.true

pub invariant_of-part : goal.invariant_of-part
invariant_of-part c =
    let p = c.requires in
    record { of_month = walk-part p.0 c.loop-day.invariant.0 c.loop-day-test.true c.part_end-to.ensures p.1 }

pub fill_month-k-requires : goal.fill_month-k-requires
fill_month-k-requires c =
    let p = c.requires in
    let to = c.part_end-to.ensures in
    omega (
      arith,
      walk-room p.0 c.loop-day.invariant.0 c.loop-day-test.true to c.args.r c.loop-day.invariant.1,
      p.2,
      c.loop-day.invariant.2,
    )

pub overflow_add-n : goal.overflow_add-n
overflow_add-n c =
    let p = c.requires in
    let test = c.loop-day-test.true in
    omega (arith, walk-month p.0 c.loop-day.invariant.0 p.1 test)

pub loop-day-smaller : goal.loop-day-smaller
loop-day-smaller c =
    let p = c.requires in
    let test = c.loop-day-test.true in
    omega (arith, walk-goes-on p.0 c.loop-day.invariant.0 test c.part_end-to.ensures)

pub loop-day-preserved : goal.loop-day-preserved
loop-day-preserved c =
    let filled = c.fill_month-k.ensures in
    let to = c.part_end-to in
    let test = c.loop-day-test.true in
    let l = c.loop-day in
    let a = c.args in (
      walk-next c.requires.0 l.invariant.0 test to.ensures,
      filled.0 ∙ walk-counted c.requires.0 l.invariant.0 test to.ensures a.r l.invariant.1 refl,
      ap length filled.1 ∙ length-sets l.out l.k (fitting a.r l.day (to.result - l.day)) ∙ l.invariant.2,
      walk-filled c.requires.0 l.invariant.0 test to.ensures a.r l.invariant.1 a.out.now l.invariant.3 filled.1,
    )

pub returns : goal.returns
returns c =
    let a = c.args in
    let inv = c.loop-day.invariant in
    let over : c.loop-day.day ≡ a.end = omega (arith, walk_inside c.requires.0 inv.0) in (
      inv.1 ∙ ap (λ (d : ℕ). length (fitting a.r a.first (d - a.first))) over,
      inv.3
          ∙ ap (λ (d : ℕ). sets a.out.now 0 (fitting a.r a.first (d - a.first))) over
          ∙ from_front (fitting a.r a.first (a.end - a.first)) a.out.now c.requires.2,
    )
