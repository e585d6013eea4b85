-- `facts::term` meets its contract: reason 1, then 15, or the term. Assumes nothing.
use native.Mathlib.Omega.{arith}
use mathlib.Core.Path.{◌≡◌, refl, ap, sym, ◌∙◌}
use mathlib.Core.Bool.{true}
use lib.Dec.{leb}
use borrow.Author.Tests.{lt-leb}
use Rattle.rule.specs.Counts.{SolsticeYearInRange}
use Rattle.rule.specs.Reasons.{is, within}
use Rattle.rule.proofs.Answers.{within-true, stops, passes}
use Rattle.facts.specs.Facts.{term_of, term_at}
use Rattle.facts.proofs.Given.{term-given}
use Rattle.facts.proofs.Made.{term_made}
use Rattle.facts.proofs.term.Goals as goal

pub returns-then-not-in_range : goal.returns-then-not-in_range
unfolding term_at
returns-then-not-in_range c =
    let test = c.in_range in
    sym (stops (within 1 41040 c.args.year) 1 _ (sym test.ensures ∙ c.if-not-in_range.true))

pub returns-then-k-gt23 : goal.returns-then-k-gt23
unfolding term_at
returns-then-k-gt23 c =
    let year-there : within 1 41040 c.args.year ≡ true = sym c.in_range.ensures ∙ c.if-not-in_range.false in
    let a = c.args in
    sym
    (passes (within 1 41040 a.year) 1 _ (year-there)
    ∙ stops (leb a.k 23) 15 (is (term_of a.year a.k)) (lt-leb a.k 23 (omega arith)))

pub returns : goal.returns
returns c =
    let year-there : within 1 41040 c.args.year ≡ true = sym c.in_range.ensures ∙ c.if-not-in_range.false in
    let year-range : SolsticeYearInRange c.args.year = (within-true 1 41040 c.args.year).0 (year-there) in
    let a = c.args in
    ap is (term_made a.year a.k _ c.term_of.result refl c.term_of.ensures) ∙ sym (term-given a.year a.k (year-range) (omega arith))
