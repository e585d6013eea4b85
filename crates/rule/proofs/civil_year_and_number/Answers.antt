-- `rule::civil_year_and_number` meets its contract: the first mid-term of all is that of number 11 in year 0. Assumes nothing.
use Rattle.std.proofs.Common.{arith}
use Rattle.rule.specs.Rule.{mid_term_number}
use Rattle.rule.proofs.civil_year_and_number.Goals as goal

pub returns : goal.returns
unfolding mid_term_number
returns c = (omega arith, omega arith)
