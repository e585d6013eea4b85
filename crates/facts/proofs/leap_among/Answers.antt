-- `facts::leap_among` meets its contract. The invariant: none of the months before this one is leap. Assumes nothing.
use Rattle.std.specs.Prelude.{Some}
use Prim.Native.Nat.{ℕ}
use native.Mathlib.Omega.{arith}
use mathlib.Core.Path.{ap, sym, ◌∙◌}
use Rattle.facts.proofs.Leaps.{none-yet, found, still-none}
use Rattle.facts.proofs.leap_among.Goals as goal

pub loop-month-init : goal.loop-month-init
loop-month-init c = none-yet c.args.first _ (omega arith)

pub returns-then-is_leap : goal.returns-then-is_leap
returns-then-is_leap c =
    let a = c.args in
    let l = c.loop-month in
    ap (λ (k : ℕ). Some (record { number = k; month = l.month })) c.month_number.ensures
    ∙ sym (found a.first a.months l.month (omega (arith, l.auto.month)) l.invariant c.loop-month-test.true (sym c.is_leap.ensures ∙ c.if-is_leap.true))

pub loop-month-preserved : goal.loop-month-preserved
loop-month-preserved c =
    let l = c.loop-month in
    still-none c.args.first c.args.months l.month (omega (arith, l.auto.month)) l.invariant (sym c.is_leap.ensures ∙ c.if-is_leap.false)
