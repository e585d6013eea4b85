-- `clerk::walk` meets its contract: the clerk is where so many steps come to. Assumes nothing.
use Rattle.std.specs.Prelude.{◌≡◌}
use Rattle.rule.specs.Reasons.{is}
use Rattle.clerk.specs.Clerk.{walked}
use Rattle.clerk.proofs.walk.Given as goal

abbrev pub invariant-loop : goal.invariant-loop
invariant-loop l = is l.at ≡ walked l.b l.counter
