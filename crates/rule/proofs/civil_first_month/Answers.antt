-- `rule::civil_first_month` meets its contract: the formula itself, and year 0 opens with month 0. Assumes nothing.
use Rattle.std.proofs.Common.{arith, rules}
use Rattle.rule.specs.Rule.{civil_first_month}
use Rattle.rule.proofs.civil_first_month.Goals as goal

pub returns-then-year-lt1 : goal.returns-then-year-lt1
unfolding civil_first_month
returns-then-year-lt1 c = omega (arith, c.if-year-lt1.true)

pub returns-else-year-lt1 : goal.returns-else-year-lt1
unfolding civil_first_month
returns-else-year-lt1 c = search rules
