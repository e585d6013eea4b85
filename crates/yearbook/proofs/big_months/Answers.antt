-- `yearbook::big_months` meets its contract: the days beyond 29 a month. Assumes nothing.
use native.Mathlib.Omega.{arith}
use Rattle.yearbook.proofs.Passing.{big-counted}
use Rattle.yearbook.proofs.big_months.Goals as goal

pub overflow_sub-result : goal.overflow_sub-result
overflow_sub-result c = omega (arith, big-counted c.args.from c.args.to c.requires.0)

pub overflow_sub-result-3 : goal.overflow_sub-result-3
overflow_sub-result-3 c = omega (arith, big-counted c.args.from c.args.to c.requires.0)

pub returns : goal.returns
returns c = omega (arith, big-counted c.args.from c.args.to c.requires.0)
