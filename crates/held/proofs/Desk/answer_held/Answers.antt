-- `held::Desk::answer_held` meets its contract: to what is held the same is said as to the whole.
use Rattle.held.proofs.Paper.{held-answered}
use Rattle.held.proofs.Desk.answer_held.Goals as goal

pub returns-clause-answers : goal.returns-clause-answers
returns-clause-answers g c = held-answered _ _ _ (cc)
