-- `emending::emend_days` meets its contract. The invariant: the emendations of the days passed are put from the place on, or counted. Assumes
-- nothing.
use Prim.Native.Nat.{ℕ, ◌-◌}
use native.Mathlib.Omega.{arith}
use mathlib.Core.Path.{◌≡◌, refl, ap, ap₂, sym, ◌∙◌}
use mathlib.Core.Bool.{cond}
use mathlib.Core.List.{List}
use lib.ListN.{length, length-append}
use lib.Seq.{sets}
use Rattle.rule.specs.Rule.{month_start}
use Rattle.reading.proofs.Runs.{part-short}
use Rattle.emending.specs.declared.Fault.{Fault}
use Rattle.emending.specs.Faults.{laid_out, together, day_fault, days_out}
use Rattle.emending.proofs.Gathering.{put-none, put-length, put_on}
use Rattle.emending.proofs.Passing.{days-none, days-more, days-four, days-on}
use Rattle.emending.proofs.emend_days.Goals as goal

pub loop-day-init : goal.loop-day-init
loop-day-init c =
    let a = c.args in
    let none = days-none a.r a.shared (month_start a.part.month) a.part.from in
    record {
      put = omega (arith, ap length none);
      as_long = refl;
      list = put-none a.out.now a.at a.write ∙ sym (ap (λ (l : List ℕ). cond a.write (sets a.out.now a.at l) a.out.now) none);
    }

pub day_fault-own-requires : goal.day_fault-own-requires
day_fault-own-requires c =
    omega (arith, c.month_start-start.ensures, c.args.part.of_month.low, c.loop-day-test.true, c.loop-day.auto.day, part-short c.args.part.of_month)

pub put_fault-k-requires : goal.put_fault-k-requires
put_fault-k-requires c =
    let whole : let a = c.args in c.together-all.result ≡ together a.shared (day_fault a.r (month_start a.part.month) c.loop-day.day) = c.together-all.ensures ∙ ap (together c.args.shared) (c.day_fault-own.ensures ∙ ap (λ s. day_fault c.args.r s c.loop-day.day) c.month_start-start.ensures) in
    let a = c.args in
    let day = c.loop-day.day in
    let long = ap (λ (x : Fault). length (laid_out day x)) (whole) in (
      omega (arith, c.loop-day.invariant.put, c.requires.0, days-four a.r a.shared (month_start a.part.month) a.part.from (day - a.part.from)),
      λ w. omega (
        arith,
        c.loop-day.invariant.put,
        c.loop-day.invariant.as_long,
        c.requires.1 w,
        long,
        days-on a.r a.shared (month_start a.part.month) a.part.from day a.part.to (omega arith) (omega arith),
      ),
    )

pub loop-day-preserved : goal.loop-day-preserved
loop-day-preserved c =
    let whole : let a = c.args in c.together-all.result ≡ together a.shared (day_fault a.r (month_start a.part.month) c.loop-day.day) = c.together-all.ensures ∙ ap (together c.args.shared) (c.day_fault-own.ensures ∙ ap (λ s. day_fault c.args.r s c.loop-day.day) c.month_start-start.ensures) in
    let put = c.put_fault-k.ensures in
    let l = c.loop-day in
    let a = c.args in
    let more = days-more a.r a.shared (month_start a.part.month) a.part.from l.day (omega arith) in
    let passed = days_out a.r a.shared (month_start a.part.month) a.part.from (l.day - a.part.from) in
    let here = laid_out l.day (together a.shared (day_fault a.r (month_start a.part.month) l.day)) in
    record {
      put = omega (arith, put.0, l.invariant.put, ap length more, length-append passed here, ap (λ (x : Fault). length (laid_out l.day x)) (whole));
      as_long = ap length put.1 ∙ put-length l.out l.k a.write (laid_out l.day c.together-all.result) ∙ l.invariant.as_long;
      list =
          put.1
          ∙ ap (λ (x : Fault). cond a.write (sets l.out l.k (laid_out l.day x)) l.out) (whole)
          ∙ ap₂ (λ (o : List ℕ) (n : ℕ). cond a.write (sets o n here) o) l.invariant.list l.invariant.put
          ∙ put_on a.out.now a.at a.write passed here
          ∙ sym (ap (λ (x : List ℕ). cond a.write (sets a.out.now a.at x) a.out.now) more);
    }
