-- `rule::mid_terms_before` meets its contract: the formula, over the month's start. Assumes nothing.
use Rattle.std.proofs.Common.{arith}
use Rattle.rule.specs.Rule.{mid_terms_before}
use Rattle.rule.proofs.Months.{start-end}
use Rattle.rule.proofs.mid_terms_before.Goals as goal

pub returns : goal.returns
unfolding mid_terms_before
returns c = omega arith

pub overflow_mul-result : goal.overflow_mul-result
overflow_mul-result c = omega (arith, start-end c.args.n c.requires)

pub overflow_add-result : goal.overflow_add-result
overflow_add-result c = omega (arith, start-end c.args.n c.requires)
