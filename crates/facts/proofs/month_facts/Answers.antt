-- `facts::month_facts` meets its contract: reason 7, or the month. Assumes nothing.
use native.Mathlib.Omega.{arith}
use mathlib.Core.Path.{ap, sym, ◌∙◌}
use lib.Dec.{leb}
use borrow.Author.Tests.{lt-leb}
use Rattle.rule.specs.Reasons.{is}
use Rattle.rule.proofs.Answers.{stops}
use Rattle.facts.specs.Facts.{month_facts, month_facts_at}
use Rattle.facts.proofs.Given.{month-given}
use Rattle.facts.proofs.month_facts.Goals as goal

pub returns-then-n-gt507599 : goal.returns-then-n-gt507599
unfolding month_facts_at
returns-then-n-gt507599 c =
    let n = c.args.n in
    sym (stops (leb n 507599) 7 (is (month_facts n)) (lt-leb n 507599 c.if-n-gt507599.true))

pub returns : goal.returns
returns c = ap is c.month_facts_at.ensures ∙ sym (month-given c.args.n (omega arith))
