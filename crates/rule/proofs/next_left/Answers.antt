-- `rule::next_left` meets its contract. Assumes nothing.
use Rattle.std.proofs.Common.{arith}
use Rattle.rule.proofs.Pairs.{remainder-on}
use Rattle.rule.proofs.next_left.Goals as goal

pub returns : goal.returns
returns c = λ n e. omega (arith, e, remainder-on n 1)
