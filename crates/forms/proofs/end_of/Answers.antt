-- `forms::end_of` meets its contract. Assumes nothing.
use borrow.Author.Tests.{eq-eqb, ne_eqb}
use native.Mathlib.Omega.{arith}
use Rattle.forms.proofs.Scanning.{field-more, field-over, field-none}
use Rattle.forms.proofs.end_of.Goals as goal

pub returns-then-s-to-eq32 : goal.returns-then-s-to-eq32
returns-then-s-to-eq32 c =
    omega (arith, field-over c.args.s.now c.loop-to.to c.loop-to-test.true (eq-eqb _ _ c.if-s-to-eq32.true), c.loop-to.invariant)

pub loop-to-preserved : goal.loop-to-preserved
loop-to-preserved c =
    omega (arith, field-more c.args.s.now c.loop-to.to c.loop-to-test.true (ne_eqb _ _ c.if-s-to-eq32.false), c.loop-to.invariant)

pub returns : goal.returns
returns c = omega (arith, field-none c.args.s.now c.loop-to.to c.loop-to-test.false, c.loop-to.invariant)
