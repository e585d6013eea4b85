-- `clerk::walk` meets its contract: the clerk is where so many steps come to. Assumes nothing.
use Rattle.std.specs.Prelude.{◌+◌}
use native.Mathlib.Omega.{arith}
use mathlib.Core.Path.{ap, ◌∙◌}
use Rattle.rule.proofs.Answers.{handed_on}
use Rattle.clerk.specs.Clerk.{walked}
use Rattle.clerk.proofs.Answered.{walked_next, walked-ends}
use Rattle.clerk.proofs.walk.Goals as goal

pub loop-init : goal.loop-init
unfolding walked
loop-init c = c.in_ok-at.ensures

pub loop-preserved : goal.loop-preserved
loop-preserved c = walked_next c.args.b c.loop.counter c.loop.at _ c.loop.invariant c.in_ok-at-2.ensures

pub returns-in_err-at : goal.returns-in_err-at
unfolding walked
returns-in_err-at c = handed_on _ _ c.from_residual.ensures.1 ∙ walked-ends c.args.b 0 c.args.steps _ c.in_err-at.ensures (omega arith)

pub returns-in_err-at-2 : goal.returns-in_err-at-2
returns-in_err-at-2 c =
    let next = walked_next c.args.b c.loop.counter c.loop.at _ c.loop.invariant c.in_err-at-2.ensures in
    handed_on _ _ c.from_residual-in_err-at-2.ensures.1 ∙ walked-ends c.args.b (c.loop.counter + 1) c.args.steps _ next (omega arith)

pub returns : goal.returns
returns c = c.loop.invariant ∙ ap (walked c.args.b) {x = c.loop.counter} {y = c.args.steps} (omega arith)
