-- `concordance::step_at` meets its contract. Assumes nothing.
use Rattle.concordance.proofs.Steps.{step-long, step_line, step-none}
use Rattle.concordance.proofs.step_at.Goals as goal

pub returns-then-text-gt65536 : goal.returns-then-text-gt65536
returns-then-text-gt65536 c = step-long c.args.text.now c.args.place c.args.line c.if-text-gt65536.true

pub returns-then-place-text : goal.returns-then-place-text
returns-then-place-text c =
    step_line c.args.text.now c.args.place
    c.args.line _ _ c.if-text-gt65536.false c.if-place-text.true c.judge_at-j.ensures c.wrapping_add_u32.ensures.value

pub returns : goal.returns
returns c =
    step-none c.args.text.now c.args.place c.args.line c.if-text-gt65536.false c.if-place-text.false
