-- `clerk::start` meets its contract: reason 21, or the bu's head. Assumes nothing.
use mathlib.Core.Path.{◌≡◌, ap, sym, ◌∙◌}
use mathlib.Core.Bool.{true}
use Rattle.rule.specs.Reasons.{is, within}
use Rattle.rule.proofs.Answers.{stops, passes}
use Rattle.clerk.specs.Clerk.{head, start_at}
use Rattle.clerk.proofs.start.Goals as goal

pub returns-then-not-in_range : goal.returns-then-not-in_range
unfolding start_at
returns-then-not-in_range c =
    let b = c.args.b in
    let test = c.in_range in
    sym (stops (within 1 540 b) 21 (is (head b)) (sym test.ensures ∙ c.if-not-in_range.true))

pub returns : goal.returns
unfolding start_at
returns c =
    let bu-there : within 1 540 c.args.b ≡ true = let test = c.in_range in sym test.ensures ∙ c.if-not-in_range.false in
    let b = c.args.b in
    ap is c.at_head.ensures ∙ sym (passes (within 1 540 b) 21 (is (head b)) (bu-there))
