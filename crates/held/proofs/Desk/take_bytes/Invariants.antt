-- `held::Desk::take_bytes` meets its contract: what became of the line is held after each byte.
use lib.ListN.{take}
use Rattle.held.specs.Held.{line_after_all, Becomes}
use Rattle.held.proofs.Desk.take_bytes.Given as goal

abbrev pub invariant-loop-b : goal.invariant-loop-b
invariant-loop-b g l =
    Becomes (λ x. line_after_all x (take l.b-index l.bytes)) l.initial.self.line.bytes l.initial.self.line.held l.self.line.bytes l.held
