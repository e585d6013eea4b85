-- `rule::civil_year_of_month` meets its contract: the closed form. Assumes nothing.
use Rattle.std.proofs.Common.{arith}
use Rattle.rule.proofs.CivilYears.{civil-closed}
use Rattle.rule.proofs.civil_year_of_month.Goals as goal

pub returns : goal.returns
returns c = omega (arith, civil-closed c.args.n)
