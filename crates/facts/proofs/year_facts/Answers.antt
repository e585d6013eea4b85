-- `facts::year_facts` meets its contract: reason 1, or the facts. Assumes nothing.
use native.Mathlib.Omega.{arith}
use mathlib.Core.Path.{ap, sym, ◌∙◌}
use lib.Dec.{leb}
use borrow.Author.Tests.{lt-leb}
use Rattle.rule.specs.Counts.{CivilYearInRange}
use Rattle.rule.specs.Reasons.{is}
use Rattle.rule.proofs.Answers.{stops}
use Rattle.facts.specs.Facts.{year_facts, year_facts_at}
use Rattle.facts.proofs.Given.{year-given}
use Rattle.facts.proofs.year_facts.Goals as goal

pub returns-then-year-gt41040 : goal.returns-then-year-gt41040
unfolding year_facts_at
returns-then-year-gt41040 c =
    let y = c.args.year in
    sym (stops (leb y 41040) 1 (is (year_facts y)) (lt-leb y 41040 (omega (arith, c.if-year-gt41040.true))))

pub returns : goal.returns
returns c =
    let year-there : CivilYearInRange c.args.year = omega (arith, c.if-year-gt41040.false) in
    ap is c.year_facts_at.ensures ∙ sym (year-given c.args.year (year-there))
