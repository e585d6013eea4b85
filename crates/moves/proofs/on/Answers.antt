-- `moves::on` meets its contract: the day so many later, or reason 8. Assumes nothing.
use native.Mathlib.Omega.{arith}
use mathlib.Core.Path.{ap, sym, ◌∙◌}
use Rattle.rule.specs.Reasons.{is}
use Rattle.moves.proofs.Landing.{on_out, on-lands}
use Rattle.moves.proofs.on.Goals as goal

pub returns : goal.returns
returns c = ap is c.date_at.ensures ∙ sym (on-lands c.args.day c.args.n (omega arith))

pub returns-then-day-n : goal.returns-then-day-n
returns-then-day-n c = sym (on_out c.args.day c.args.n (omega arith))
