-- `emending::emend_window` meets its contract. The invariant: the emendations of the days passed are put to the front, or counted. Assumes
-- nothing.
use Prim.Native.Nat.{ℕ, ◌+◌, ◌-◌, min}
use native.Mathlib.Nat.{zero-add}
use native.Mathlib.Omega.{arith}
use mathlib.Core.Path.{◌≡◌, refl, ap, ap₂, sym, ◌∙◌}
use mathlib.Core.Bool.{cond}
use mathlib.Core.List.{List}
use lib.ListN.{length, length-append}
use lib.Seq.{sets}
use Rattle.rule.specs.Counts.{MonthInRange}
use Rattle.rule.specs.Rule.{month_start}
use Rattle.reading.proofs.Runs.{walk-starts, walk_inside, walk-month, walk-goes-on, walk-part}
use Rattle.emending.specs.Faults.{emendations}
use Rattle.emending.proofs.Gathering.{put-none, put-length, put_on, put_front}
use Rattle.emending.proofs.Passing.{emended-none, emended-on, emended-length, emended-four, emended-few, skips-on, walk-skips, nothing-more}
use Rattle.emending.proofs.emend_window.Goals as goal
use Rattle.emending.proofs.emend_window.Goals.{After-emend_month-k, After-part_end-day}

pub loop-day-init : goal.loop-day-init
loop-day-init c =
    let a = c.args in
    let none = emended-none a.r a.first in (
      walk-starts c.requires.0 c.month_of_day-n.ensures,
      sym (ap length none),
      refl,
      put-none a.out.now 0 a.write ∙ sym (ap (λ (l : List ℕ). cond a.write (sets a.out.now 0 l) a.out.now) none),
    )

pub part_end-to-requires : goal.part_end-to-requires
part_end-to-requires c = walk-month c.requires.0 c.loop-day.invariant.0 c.requires.1 c.loop-day-test.true

pub invariant_of-part : goal.invariant_of-part
invariant_of-part c =
    let p = c.requires in
    record { of_month = walk-part p.0 c.loop-day.invariant.0 c.loop-day-test.true c.part_end-to.ensures p.1 }

pub emend_month-k-requires : goal.emend_month-k-requires
emend_month-k-requires c =
    let l = c.loop-day in
    let a = c.args in
    let p = c.requires in
    let to = c.part_end-to in
    let test = c.loop-day-test.true in
    let on = walk-goes-on p.0 l.invariant.0 test to.ensures in
    let inside = walk_inside p.0 l.invariant.0 in (
      omega (
        arith,
        on,
        inside,
        p.1,
        l.invariant.1,
        emended-four a.r a.first (l.day - a.first),
        emended-few a.r a.first (l.day - a.first),
      ),
      λ w. omega (
        arith,
        p.2 w,
        l.invariant.1,
        l.invariant.2,
        emended-length a.r a.first l.day to.result inside.0 (omega (arith, on)),
        emended-length a.r a.first to.result a.end (omega (arith, inside, on)) on.1,
      ),
    )

-- a month's part is passed: the month is one of the range
this-month : (c : After-emend_month-k) → MonthInRange c.loop-day.n
this-month c = walk-month c.requires.0 c.loop-day.invariant.0 c.requires.1 c.loop-day-test.true

pub overflow_add-n : goal.overflow_add-n
overflow_add-n c = omega (arith, this-month (goal.at.overflow_add-n c).After-emend_month-k)

pub skip_months-n-requires : goal.skip_months-n-requires
skip_months-n-requires c = (omega (arith, this-month (goal.at.skip_months-n-requires c).After-emend_month-k), c.requires.1)

-- the day from which it goes on is where the month that was found starts, or the end
goes-on-at : (c : After-part_end-day) → c.part_end-day.result ≡ min (month_start c.skip_months-n.result) c.args.end
goes-on-at c =
    let found = c.skip_months-n.result in
    let e : found - 1 + 1 ≡ found = omega (arith, c.skip_months-n.ensures.0) in
    c.part_end-day.ensures ∙ ap (λ (m : ℕ). min (month_start m) c.args.end) e

pub loop-day-smaller : goal.loop-day-smaller
loop-day-smaller c =
    let l = c.loop-day in
    let to = c.part_end-to.ensures in
    let on = walk-goes-on c.requires.0 l.invariant.0 c.loop-day-test.true to in
    let at = goes-on-at (goal.at.loop-day-smaller c).After-part_end-day in
    omega (arith, on, skips-on c.args.end l.invariant.0.passed to c.skip_months-n.ensures.0 at)

pub loop-day-preserved : goal.loop-day-preserved
loop-day-preserved c =
    let month = c.emend_month-k.ensures in
    let skip = c.skip_months-n.ensures in
    let to = c.part_end-to in
    let test = c.loop-day-test.true in
    let l = c.loop-day in
    let a = c.args in
    let on = walk-goes-on c.requires.0 l.invariant.0 test to.ensures in
    let inside = walk_inside c.requires.0 l.invariant.0 in
    let passed = emendations a.r a.first (l.day - a.first) in
    let here = emendations a.r l.day (to.result - l.day) in
    let past = l.invariant.0.passed in
    let at = goes-on-at (goal.at.loop-day-preserved c).After-part_end-day in
    let same = nothing-more a.end past to.ensures skip.0 at a.r (omega (arith, inside, on)) skip.2 in
    let all = same ∙ emended-on a.r a.first l.day to.result inside.0 (omega (arith, on)) in (
      walk-skips a.end past to.ensures skip.0 at,
      omega (arith, month.0, l.invariant.1, ap length all ∙ length-append passed here),
      ap length month.1 ∙ put-length l.out l.k a.write here ∙ l.invariant.2,
      month.1
          ∙ ap₂ (λ (o : List ℕ) (i : ℕ). cond a.write (sets o i here) o) l.invariant.3 (l.invariant.1 ∙ sym (zero-add (length passed)))
          ∙ put_on a.out.now 0 a.write passed here
          ∙ sym (ap (λ (x : List ℕ). cond a.write (sets a.out.now 0 x) a.out.now) all),
    )

pub returns : goal.returns
returns c =
    let a = c.args in
    let inv = c.loop-day.invariant in
    let over : c.loop-day.day ≡ a.end = omega (arith, walk_inside c.requires.0 inv.0) in (
      inv.1 ∙ ap (λ (d : ℕ). length (emendations a.r a.first (d - a.first))) over,
      inv.3
          ∙ ap (λ (d : ℕ). cond a.write (sets a.out.now 0 (emendations a.r a.first (d - a.first))) a.out.now) over
          ∙ put_front (emendations a.r a.first (a.end - a.first)) a.out.now a.write c.requires.2,
    )
