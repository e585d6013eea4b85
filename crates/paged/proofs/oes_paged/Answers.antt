-- `paged::oes_paged` meets its contract: what the call promises, laid flat. Assumes nothing.
use Rattle.concordance.proofs.Judging.{text-long, text-short, text-judged}
use Rattle.paged.proofs.Turns.{for-c}
use borrow.Author.Rules.{rules}
use Rattle.paged.proofs.oes_paged.Goals as goal

pub returns-then-text-gt65536 : goal.returns-then-text-gt65536
returns-then-text-gt65536 c = for-c c.args.text.now (text-long c.args.text.now c.args.out.now c.if-text-gt65536.true)

pub count_lines-n-requires : goal.count_lines-n-requires
count_lines-n-requires c = search rules

pub returns-then-out-n : goal.returns-then-out-n
returns-then-out-n c =
    for-c c.args.text.now
    (text-short c.args.text.now c.args.out.now _ c.if-text-gt65536.false
    c.count_lines-n.ensures c.if-out-n.true)

pub read_through-requires : goal.read_through-requires
read_through-requires c = search rules

pub shape_of-out : goal.shape_of-out
shape_of-out c = search rules

pub returns : goal.returns
returns c =
    for-c c.args.text.now
    (text-judged c.args.text.now c.args.out.now _ c.if-text-gt65536.false c.count_lines-n.ensures _
    c.if-out-n.false c.read_through.ensures)
