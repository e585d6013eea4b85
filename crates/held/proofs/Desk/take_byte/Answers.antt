-- `held::Desk::take_byte` meets its contract: a newline, or any other byte.
use native.Mathlib.Omega.{arith}
use mathlib.Core.Path.{refl}
use Rattle.held.proofs.Holding.{line-ended, line-answered, line-longer, none-answered}
use Rattle.held.proofs.Desk.take_byte.Goals as goal

pub returns-then-b-eq10-clause-becomes : goal.returns-then-b-eq10-clause-becomes
returns-then-b-eq10-clause-becomes g c = line-ended _ _ _ _ _ refl (omega arith)

pub returns-then-b-eq10-clause-answers : goal.returns-then-b-eq10-clause-answers
returns-then-b-eq10-clause-answers g c = line-answered _ _ (omega arith) c.answer_held.ensures.answers

pub returns-else-b-eq10-clause-becomes : goal.returns-else-b-eq10-clause-becomes
returns-else-b-eq10-clause-becomes g c = line-longer _ c.if-b-eq10.false c.hold.ensures

pub returns-else-b-eq10-clause-answers : goal.returns-else-b-eq10-clause-answers
returns-else-b-eq10-clause-answers g c = none-answered _ _ _ _ c.clear.ensures c.if-b-eq10.false
