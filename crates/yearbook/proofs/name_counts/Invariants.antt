-- `yearbook::name_counts` meets its contract: one name after the other. Assumes nothing.
use mathlib.Core.Path.{◌≡◌}
use mathlib.Core.List.{◌++◌}
use lib.ListN.{drop, replicate}
use Rattle.yearbook.specs.Figures.{passing, has_name, for_each}
use Rattle.yearbook.proofs.name_counts.Given as goal

abbrev pub invariant-loop-i : goal.invariant-loop-i
invariant-loop-i l = l.counts ≡ for_each (λ k. passing (has_name k) l.from l.to) l.i ++ drop l.i (replicate 60 0)
