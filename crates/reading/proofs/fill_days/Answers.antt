-- `reading::fill_days` meets its contract. The invariant: the fitting days passed stand in the list from the place on. Assumes nothing.
use Prim.Native.Nat.{ℕ, ◌+◌, ◌<◌}
use native.Mathlib.Omega.{arith}
use mathlib.Core.Path.{◌≡◌, refl, ap, ap₂, sym, ◌∙◌}
use mathlib.Core.List.{List}
use lib.ListN.{length, set, length-set}
use lib.Seq.{sets}
use Rattle.rule.proofs.Lists.{bit}
use Rattle.rule.specs.Rule.{month_start}
use Rattle.reading.specs.Readings.{day_fits}
use Rattle.reading.proofs.Runs.{part-short, none_yet, counted-more, counted-before, filled_more, filled-same}
use Rattle.reading.proofs.fill_days.Goals as goal
use Rattle.reading.proofs.fill_days.Goals.{Then-day_fits, then-day_fits, else-day_fits}

pub loop-day-init : goal.loop-day-init
loop-day-init c =
    let a = c.args in
    let none = none_yet (day_fits a.r (month_start a.part.month)) a.part.from in
    record { filled = omega (arith, ap length none); as_long = refl; list = sym (ap (sets a.out.now a.at) none) }

pub day_fits-requires : goal.day_fits-requires
day_fits-requires c =
    omega (arith, c.month_start-start.ensures, c.args.part.of_month.low, c.loop-day-test.true, c.loop-day.auto.day, part-short c.args.part.of_month)

pub loop-day-preserved : goal.loop-day-preserved
loop-day-preserved c =
    let l = c.loop-day in
    let a = c.args in
    let p = day_fits a.r (month_start a.part.month) in
    let fit = (ap (λ s. day_fits c.args.r s c.loop-day.day) (sym c.month_start-start.ensures) ∙ sym c.day_fits.ensures) in
    let more = counted-more p a.part.from l.day (omega arith) in
    elim c.if-day_fits.branch [
      | then-day_fits w ↦
          let now : ◌≡◌ {A = List ℕ} _ (set l.out l.k l.day) = w.out-is in
          record {
            filled = omega (arith, w.k-is, more, ap bit (fit ∙ w.if-day_fits.true));
            as_long = ap length now ∙ length-set l.out l.k l.day ∙ l.invariant.as_long;
            list =
                now
                ∙ ap₂ (λ (o : List ℕ) (n : ℕ). set o n l.day) l.invariant.list l.invariant.filled
                ∙ filled_more p a.part.from l.day (omega arith) a.out.now a.at (fit ∙ w.if-day_fits.true);
          }
      | else-day_fits w ↦
          record {
            filled = omega (arith, w.k-is, more, ap bit (fit ∙ w.if-day_fits.false));
            as_long = ap length w.out-is ∙ l.invariant.as_long;
            list = w.out-is ∙ l.invariant.list ∙ filled-same p a.part.from l.day (omega arith) a.out.now a.at (fit ∙ w.if-day_fits.false);
          }
    ]

-- a day that fits has a place in the list
room : (c : Then-day_fits) → c.loop-day.k < length c.loop-day.out
room c =
    let a = c.args in
    let p = day_fits a.r (month_start a.part.month) in
    let day = c.loop-day.day in
    omega (
      arith,
      c.requires,
      counted-more p a.part.from day (omega arith),
      ap bit ((ap (λ s. day_fits c.args.r s c.loop-day.day) (sym c.month_start-start.ensures) ∙ sym c.day_fits.ensures) ∙ c.if-day_fits.true),
      counted-before p a.part.from (day + 1) (omega arith) a.part.to (omega arith),
    )

pub offset_bounds-out-k : goal.offset_bounds-out-k
offset_bounds-out-k c = omega (arith, room (goal.at.offset_bounds-out-k c).Then-day_fits)

pub bounds-out-k : goal.bounds-out-k
bounds-out-k c = room (goal.at.bounds-out-k c).Then-day_fits

pub overflow_add-k : goal.overflow_add-k
overflow_add-k c = omega (arith, room (goal.at.overflow_add-k c).Then-day_fits)
