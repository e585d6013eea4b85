-- The cycle of calls {common_divisor}. The measure is the second number. Assumes nothing.
use Rattle.planets.proofs.+common_divisor.Given as goal

abbrev pub decreases-common_divisor : goal.decreases-common_divisor
decreases-common_divisor l = l.b
