-- `facts::leap_among` meets its contract. The invariant: none of the months before this one is leap. Assumes nothing.
use Prim.Native.Nat.{◌-◌}
use mathlib.Core.Path.{◌≡◌}
use mathlib.Core.List.{[]}
use Rattle.rule.specs.Lists.{those}
use Rattle.rule.specs.Rule.{leap}
use Rattle.facts.proofs.leap_among.Given as goal

abbrev pub invariant-loop-month : goal.invariant-loop-month
invariant-loop-month l = those leap l.first (l.month - l.first) ≡ []
