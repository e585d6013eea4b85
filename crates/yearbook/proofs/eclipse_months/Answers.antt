-- `yearbook::eclipse_months` meets its contract: 23 in 135. Assumes nothing.
use native.Mathlib.Omega.{arith}
use Rattle.yearbook.proofs.Passing.{eclipses-counted}
use Rattle.yearbook.proofs.eclipse_months.Goals as goal

pub returns : goal.returns
returns c = omega (arith, eclipses-counted c.args.from c.args.to c.requires.0)
