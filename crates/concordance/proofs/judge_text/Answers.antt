-- `concordance::judge_text` meets its contract. Assumes nothing.
use Rattle.concordance.proofs.Judging.{text-long, text-short, text-judged}
use Rattle.concordance.proofs.judge_text.Goals as goal

pub returns-then-text-gt65536 : goal.returns-then-text-gt65536
returns-then-text-gt65536 c = text-long c.args.text.now c.args.out.now c.if-text-gt65536.true

pub returns-then-out-n : goal.returns-then-out-n
returns-then-out-n c =
    text-short c.args.text.now c.args.out.now _ c.if-text-gt65536.false
    c.count_lines-n.ensures c.if-out-n.true

pub returns : goal.returns
returns c =
    text-judged c.args.text.now
    c.args.out.now _ c.if-text-gt65536.false
    c.count_lines-n.ensures _ c.if-out-n.false c.fill.ensures
