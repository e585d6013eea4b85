-- `yearbook::leap_counts` meets its contract: the walk along the leap months of a bu. Assumes nothing.
use mathlib.Core.Path.{◌≡◌}
use lib.ListN.{take}
use Rattle.yearbook.specs.Figures.{for_each}
use Rattle.yearbook.proofs.Leaps.{tally}
use Rattle.yearbook.proofs.leap_counts.Given as goal

abbrev pub invariant-loop-leap : goal.invariant-loop-leap
invariant-loop-leap l = l.counts ≡ for_each (λ k. tally l.from l.to k (take l.leap-index l.leap-items)) 12
