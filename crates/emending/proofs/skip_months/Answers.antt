-- `emending::skip_months` meets its contract. The invariant: no emendation in the months passed over. Assumes nothing.
use native.Mathlib.Omega.{arith}
use mathlib.Core.Path.{sym, ◌∙◌}
use Rattle.rule.specs.Counts.{MonthInRange}
use Rattle.rule.proofs.Months.{start-inside}
use Rattle.emending.proofs.Passing.{none_between, one-month-more}
use Rattle.emending.proofs.skip_months.Goals as goal

pub loop-start-preserved : goal.loop-start-preserved
loop-start-preserved c =
    let in-range : MonthInRange c.loop-start.m =
    start-inside c.loop-start.m (omega (arith, c.loop-start.invariant.2, c.loop-start-test.true, c.requires.1)) in
    let a = c.args in
    let inv = c.loop-start.invariant in (
      omega (arith, inv.0),
      omega (arith, in-range),
      c.month_start-start-in-loop-start.ensures,
      one-month-more a.r a.end a.n c.loop-start.m c.requires.1 inv.0 (omega (arith, inv.2, c.loop-start-test.true)) c.month_fault.ensures
          (sym c.is_more.ensures ∙ c.if-not-is_more.false) inv.3,
    )

pub loop-start-init : goal.loop-start-init
loop-start-init c =
    let a = c.args in (omega arith, c.requires.0, c.month_start-start.ensures, none_between a.r a.end a.n)

pub month_fault-requires : goal.month_fault-requires
month_fault-requires c =
    let in-range : MonthInRange c.loop-start.m =
    start-inside c.loop-start.m (omega (arith, c.loop-start.invariant.2, c.loop-start-test.true, c.requires.1)) in
    in-range

pub month_start-start-requires-in-loop-start : goal.month_start-start-requires-in-loop-start
month_start-start-requires-in-loop-start c =
    let in-range : MonthInRange c.loop-start.m =
    start-inside c.loop-start.m (omega (arith, c.loop-start.invariant.2, c.loop-start-test.true, c.requires.1)) in
    omega (arith, in-range)

pub loop-start-smaller : goal.loop-start-smaller
loop-start-smaller c =
    let in-range : MonthInRange c.loop-start.m =
    start-inside c.loop-start.m (omega (arith, c.loop-start.invariant.2, c.loop-start-test.true, c.requires.1)) in
    omega (arith, in-range)
