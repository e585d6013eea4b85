-- `clerk::mid_term_ahead` meets its contract: two terms. Assumes nothing.
use native.Mathlib.Omega.{arith}
use mathlib.Core.Path.{ap}
use Rattle.rule.specs.declared.Term.{Term}
use Rattle.clerk.proofs.Carries.{term-near}
use Rattle.clerk.proofs.mid_term_ahead.Goals as goal

pub term_ahead-requires-2 : goal.term_ahead-requires-2
term_ahead-requires-2 c = omega (arith, term-near c.args.t, ap (λ (t : Term). t.day) c.term_ahead.ensures)
