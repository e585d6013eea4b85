-- `clerk::step` meets its contract: reason 7 by the count or by the first day, or the next month. Assumes nothing.
use native.Mathlib.Omega.{arith}
use mathlib.Core.Path.{ap, sym, ◌∙◌}
use Rattle.rule.specs.Reasons.{is}
use Rattle.rule.proofs.Answers.{fails, stops, passes}
use Rattle.clerk.specs.Clerk.{before_last, stepped, step_at}
use Rattle.clerk.proofs.Answered.{before_last_lem}
use Rattle.clerk.proofs.step.Goals as goal

pub returns-then-c-gt507598 : goal.returns-then-c-gt507598
unfolding step_at
returns-then-c-gt507598 c =
    let k = c.args.c in
    sym (stops (before_last k) 7 (is (stepped k)) ((fails (before_last k) (before_last_lem k)).1 (λ h. omega (arith, h.0))))

pub returns-then-c-gt14989829 : goal.returns-then-c-gt14989829
unfolding step_at
returns-then-c-gt14989829 c =
    let k = c.args.c in
    sym (stops (before_last k) 7 (is (stepped k)) ((fails (before_last k) (before_last_lem k)).1 (λ h. omega (arith, h.1))))

pub returns : goal.returns
unfolding step_at
returns c =
    let k = c.args.c in
    ap is c.next_month.ensures ∙ sym (passes (before_last k) 7 (is (stepped k)) ((before_last_lem k).1 (omega arith, omega arith)))
