-- `yearbook::big_pairs` meets its contract: the days of a month and the next beyond 59. Assumes nothing.
use Prim.Native.Nat.{◌+◌}
use native.Mathlib.Omega.{arith}
use Rattle.rule.proofs.Months.{start-end}
use Rattle.yearbook.proofs.Passing.{pairs-counted}
use Rattle.yearbook.proofs.big_pairs.Goals as goal

pub overflow_add-ends : goal.overflow_add-ends
overflow_add-ends c =
    let a = c.args in omega (arith, start-end a.to (omega arith), start-end (a.to + 1) (omega arith))

pub overflow_add-begins : goal.overflow_add-begins
overflow_add-begins c =
    let a = c.args in omega (arith, start-end a.from (omega arith), start-end (a.from + 1) (omega arith))

pub overflow_sub-result : goal.overflow_sub-result
overflow_sub-result c = omega (arith, pairs-counted c.args.from c.args.to c.requires.0)

pub overflow_sub-result-3 : goal.overflow_sub-result-3
overflow_sub-result-3 c = omega (arith, pairs-counted c.args.from c.args.to c.requires.0)

pub returns : goal.returns
returns c = omega (arith, pairs-counted c.args.from c.args.to c.requires.0)
