-- `drawer::first_outside` meets its contract: the days that are left decide. Assumes nothing.
use Rattle.std.proofs.Common.{ap, sym, ◌∙◌, arith}
use Rattle.rule.specs.Reasons.{is}
use Rattle.drawer.proofs.Days.{good-here, bad-here, past-last}
use Rattle.drawer.proofs.first_outside.Goals as goal

pub returns-then-day-gt14989859 : goal.returns-then-day-gt14989859
returns-then-day-gt14989859 c = sym (c.loop-i.invariant ∙ bad-here c.args.days.now c.loop-i.i c.loop-i-test.true (omega arith))

pub loop-i-preserved : goal.loop-i-preserved
loop-i-preserved c = c.loop-i.invariant ∙ good-here c.args.days.now c.loop-i.i c.loop-i-test.true (omega arith)

pub returns : goal.returns
returns c = sym (c.loop-i.invariant ∙ past-last c.args.days.now c.loop-i.i c.loop-i-test.false ∙ ap is (omega arith))
