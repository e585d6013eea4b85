-- `held::Desk::end_input` meets its contract: a line of no bytes is none.
use Rattle.std.proofs.Common.{rules}
use native.Mathlib.Omega.{arith}
use Rattle.held.proofs.Holding.{no_line, final-line}
use Rattle.held.proofs.Desk.end_input.Goals as goal

pub returns-then-self-gt0 : goal.returns-then-self-gt0
returns-then-self-gt0 g c = final-line _ _ _ (search rules) (search rules) (omega arith) c.answer_held.ensures.answers

pub returns-else-self-gt0 : goal.returns-else-self-gt0
returns-else-self-gt0 g c = no_line _ _ _ (search rules) (search rules) c.clear.ensures (omega arith)
