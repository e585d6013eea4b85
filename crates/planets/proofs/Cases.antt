-- The table of checks holds: antt computes every row; and a common divisor by its remainders. Assumes nothing.
use native.Mathlib.Omega.{arith}
use mathlib.Core.Path.{refl}
use Rattle.rule.specs.Rule.{month_start}
use Rattle.planets.specs.Divisors.{Remainders, none_left, again}
use Rattle.planets.specs.Table.{cases, TableOfPlanets}
use Rattle.planets.proofs.Computing.{planets-computed}

pub table-of-planets : TableOfPlanets
unfolding cases month_start planets-computed
table-of-planets = refl

-- 12 by 18, 18 by 12, 12 by 6: none is left
pub of-12-and-18 : Remainders 12 18 6
of-12-and-18 = again 12 18 6 (omega arith) (again 18 12 6 (omega arith) (again 12 6 6 (omega arith) (none_left 6)))
