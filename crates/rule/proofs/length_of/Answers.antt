-- `rule::length_of` meets its contract. Assumes nothing.
use Rattle.std.proofs.Common.{sym, arith}
use Rattle.rule.proofs.Months.{length-big, length-small}
use Rattle.rule.proofs.length_of.Goals as goal

pub returns-then-left-lt499 : goal.returns-then-left-lt499
returns-then-left-lt499 c = λ n e. sym (length-big n (omega (arith, e, c.if-left-lt499.true)))

pub returns-else-left-lt499 : goal.returns-else-left-lt499
returns-else-left-lt499 c = λ n e. sym (length-small n (omega (arith, e, c.if-left-lt499.false)))
