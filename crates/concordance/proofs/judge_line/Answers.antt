-- `concordance::judge_line` meets its contract. Assumes nothing.
use Rattle.std.proofs.Common.{ap, ◌∙◌}
use Rattle.concordance.specs.Parts.{differing}
use Rattle.concordance.proofs.Parting.{judged-unreadable, judged-out, judged-in}
use Rattle.concordance.proofs.judge_line.Goals as goal

pub returns-in_default : goal.returns-in_default
returns-in_default c = judged-unreadable c.args.l.now c.in_default.ensures

pub returns-then-n-gt507599 : goal.returns-then-n-gt507599
returns-then-n-gt507599 c = judged-out c.args.l.now _ c.in-Some.ensures c.if-n-gt507599.true

pub returns : goal.returns
returns c =
    c.first_differing.ensures
    ∙ (ap (differing c.in-Some.p) c.printed_parts-q.ensures
    ∙ judged-in c.args.l.now _ c.in-Some.ensures c.if-n-gt507599.false)
