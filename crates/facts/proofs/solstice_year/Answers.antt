-- `facts::solstice_year` meets its contract: reason 1, or the facts. Assumes nothing.
use mathlib.Core.Path.{ap, sym, ◌∙◌}
use Rattle.rule.specs.Counts.{SolsticeYearInRange}
use Rattle.rule.specs.Reasons.{is, within}
use Rattle.rule.proofs.Answers.{within-true, stops}
use Rattle.facts.specs.Facts.{solstice_year, solstice_year_at}
use Rattle.facts.proofs.Given.{solstice-year-given}
use Rattle.facts.proofs.solstice_year.Goals as goal

pub returns-then-not-in_range : goal.returns-then-not-in_range
unfolding solstice_year_at
returns-then-not-in_range c =
    let y = c.args.year in
    let test = c.in_range in
    sym (stops (within 1 41040 y) 1 (is (solstice_year y)) (sym test.ensures ∙ c.if-not-in_range.true))

pub returns : goal.returns
returns c =
    let year-there : SolsticeYearInRange c.args.year =
    let test = c.in_range in
    (within-true 1 41040 c.args.year).0 (sym test.ensures ∙ c.if-not-in_range.false) in
    ap is c.solstice_year_at.ensures ∙ sym (solstice-year-given c.args.year (year-there))
