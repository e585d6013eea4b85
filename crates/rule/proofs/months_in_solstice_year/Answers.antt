-- `rule::months_in_solstice_year` meets its contract: the two laws of a solstice year's months. Assumes nothing.
use Rattle.std.proofs.Common.{arith}
use Rattle.rule.proofs.Years.{months-short, months-long}
use Rattle.rule.proofs.months_in_solstice_year.Goals as goal

pub returns-then-leap_remainder-lt12 : goal.returns-then-leap_remainder-lt12
returns-then-leap_remainder-lt12 c = omega (arith, months-short c.args.year (omega arith) (omega arith))

pub returns-else-leap_remainder-lt12 : goal.returns-else-leap_remainder-lt12
returns-else-leap_remainder-lt12 c = omega (arith, months-long c.args.year (omega arith) (omega arith))
