-- `facts::quarter` meets its contract: reason 7, then 15, or the quarter. Assumes nothing.
use native.Mathlib.Omega.{arith}
use mathlib.Core.Path.{ap, sym, ◌∙◌}
use lib.Dec.{leb}
use borrow.Author.Tests.{le-leb, lt-leb}
use Rattle.rule.specs.Reasons.{is, refused}
use Rattle.rule.proofs.Answers.{stops, passes}
use Rattle.facts.specs.Facts.{quarter_of, quarter_at}
use Rattle.facts.proofs.Given.{quarter-given}
use Rattle.facts.proofs.Made.{quarter-made}
use Rattle.facts.proofs.quarter.Goals as goal

pub returns-then-n-gt507599 : goal.returns-then-n-gt507599
unfolding quarter_at
returns-then-n-gt507599 c =
    let n = c.args.n in
    ap refused {y = 7} (omega arith) ∙ sym (stops (leb n 507599) 7 _ (lt-leb n 507599 c.if-n-gt507599.true))

pub returns-then-q-gt3 : goal.returns-then-q-gt3
unfolding quarter_at
returns-then-q-gt3 c =
    let a = c.args in
    ap refused {y = 15} (omega arith)
    ∙ sym
    (passes (leb a.n 507599) 7 _ (le-leb a.n 507599 (omega arith))
    ∙ stops (leb a.q 3) 15 (is (quarter_of a.n a.q)) (lt-leb a.q 3 (omega arith)))

pub returns-else-q-gt3 : goal.returns-else-q-gt3
returns-else-q-gt3 c =
    let a = c.args in
    ap is (quarter-made a.n a.q c.quarter_of.result c.quarter_of.ensures)
    ∙ sym (quarter-given a.n a.q (omega arith) (omega arith))
