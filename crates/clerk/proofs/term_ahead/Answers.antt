-- `clerk::term_ahead` meets its contract: 15 days, and one more where the parts make one. Assumes nothing.
use Prim.Native.Nat.{◌+◌}
use native.Mathlib.Omega.{arith}
use mathlib.Core.Path.{◌≡◌}
use Rattle.clerk.specs.Clerk.{over}
use Rattle.clerk.proofs.Carries.{over_below, over-over, term_made}
use Rattle.clerk.proofs.term_ahead.Goals as goal
use Rattle.clerk.proofs.term_ahead.Goals.{then-t-lt25, else-t-lt25}

pub returns : goal.returns
returns c =
    let t = c.args.t in
    let day : c.if-t-lt25.day ≡ t.day + 15 + over 32 (t.parts + 7) =
    elim c.if-t-lt25.branch [
      | then-t-lt25 w ↦ omega (arith, w.day-is, over_below 32 (t.parts + 7) (omega (arith, w.if-t-lt25.true)))
      | else-t-lt25 w ↦ omega (arith, w.day-is, over-over 32 (t.parts + 7) (omega (arith, w.if-t-lt25.false)))
    ] in
    term_made t c.if-t-lt25.day c.carry_parts.result day c.carry_parts.ensures
