-- `yearbook::figures_from` meets its contract: its four numbers, each by its call. Assumes nothing.
use native.Mathlib.Omega.{arith}
use Rattle.yearbook.proofs.Passing.{small-counted}
use Rattle.yearbook.proofs.Answered.{made-figures}
use Rattle.yearbook.proofs.figures_from.Goals as goal

pub overflow_sub-result-2 : goal.overflow_sub-result-2
overflow_sub-result-2 c = let a = c.args in omega (arith, small-counted a.from a.to)

pub returns : goal.returns
returns c =
    made-figures c.args.from c.args.to _ _ _ c.big_months-big.ensures c.big_pairs.ensures c.eclipse_months.ensures
