-- `concordance::count_lines` meets its contract. Assumes nothing.
use Rattle.std.proofs.Common.{arith}
use Rattle.concordance.proofs.Places.{lines_none, lines-ended, lines-open, newlines-few, some_byte}
use Rattle.concordance.proofs.count_lines.Goals as goal

pub returns-then-text-eq0 : goal.returns-then-text-eq0
returns-then-text-eq0 c = lines_none c.args.text.now c.if-text-eq0.true

pub returns-then-text-eq10 : goal.returns-then-text-eq10
returns-then-text-eq10 c =
    lines-ended c.args.text.now _ (some_byte _ c.if-text-eq0.false) c.count_newlines-n.ensures
    c.if-text-eq10.true

pub overflow_add-result : goal.overflow_add-result
overflow_add-result c = record { fits = omega (arith, c.count_newlines-n.ensures, newlines-few c.args.text.now) }

pub returns : goal.returns
returns c =
    lines-open c.args.text.now _ (some_byte _ c.if-text-eq0.false) c.count_newlines-n.ensures
    c.if-text-eq10.false
