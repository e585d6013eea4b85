-- `rule::last_mid_term` meets its contract: its day is before the day, the next one's is not. Assumes nothing.
use Rattle.std.proofs.Common.{arith}
use Rattle.rule.specs.Rule.{mid_term_day, term_day}
use Rattle.rule.proofs.last_mid_term.Goals as goal

pub returns : goal.returns
unfolding mid_term_day term_day
returns c = (omega arith, omega arith)
