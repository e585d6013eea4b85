-- `reading::count_days` meets its contract. The invariant: k of the days passed fit. Assumes nothing.
use Rattle.rule.proofs.Lists.{bit}
use Prim.Native.Nat.{◌-◌}
use native.Mathlib.Omega.{arith}
use mathlib.Core.Path.{ap, sym, ◌∙◌}
use lib.ListN.{length}
use Rattle.rule.specs.Rule.{month_start}
use Rattle.reading.specs.Readings.{day_fits}
use Rattle.reading.proofs.Runs.{part-short, none_yet, counted-more, at-most-all}
use Rattle.reading.proofs.count_days.Goals as goal
use Rattle.reading.proofs.count_days.Goals.{then-day_fits, else-day_fits}

pub loop-day-init : goal.loop-day-init
loop-day-init c = sym (ap length (none_yet (day_fits c.args.r (month_start c.args.part.month)) c.args.part.from))

pub overflow_add-k : goal.overflow_add-k
overflow_add-k c =
    let a = c.args in
    omega (arith, at-most-all (day_fits a.r (month_start a.part.month)) a.part.from (c.loop-day.day - a.part.from))

pub day_fits-requires : goal.day_fits-requires
day_fits-requires c =
    omega (arith, c.month_start-start.ensures, c.args.part.of_month.low, c.loop-day-test.true, c.loop-day.auto.day, part-short c.args.part.of_month)

pub loop-day-preserved : goal.loop-day-preserved
loop-day-preserved c =
    let a = c.args in
    let day = c.loop-day.day in
    let fit = (ap (λ s. day_fits c.args.r s c.loop-day.day) (sym c.month_start-start.ensures) ∙ sym c.day_fits.ensures) in
    let more = counted-more (day_fits a.r (month_start a.part.month)) a.part.from day (omega arith) in
    elim c.if-day_fits.branch [
      | then-day_fits w ↦ omega (arith, w.k-is, more, ap bit (fit ∙ w.if-day_fits.true))
      | else-day_fits w ↦ omega (arith, w.k-is, more, ap bit (fit ∙ w.if-day_fits.false))
    ]
