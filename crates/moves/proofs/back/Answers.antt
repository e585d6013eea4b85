-- `moves::back` meets its contract: the day so many earlier, or reason 8. Assumes nothing.
use Prim.Native.Nat.{ℕ, ◌-◌}
use native.Mathlib.Omega.{arith}
use mathlib.Core.Path.{ap, sym, ◌∙◌}
use Rattle.rule.specs.Reasons.{is}
use Rattle.dates.specs.Dates.{date_of}
use Rattle.moves.proofs.Landing.{back-out, back-lands}
use Rattle.moves.proofs.back.Goals as goal

pub returns-then-day-n : goal.returns-then-day-n
returns-then-day-n c = sym (back-out c.args.day c.args.n (omega arith))

pub returns : goal.returns
returns c =
    let a = c.args in
    ap is c.date_at.ensures
    ∙ ap (λ (d : ℕ). is (date_of d)) {y = a.day - 1 - a.n} (omega arith)
    ∙ sym (back-lands a.day a.n (omega arith) (omega arith))
