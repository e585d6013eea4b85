-- `concordance::past` meets its contract. Assumes nothing.
use Rattle.std.proofs.Common.{drop, arith, length-drop}
use Rattle.concordance.proofs.Lines.{adv-in, adv-out}
use Rattle.concordance.proofs.past.Goals as goal

pub returns-then-to-text : goal.returns-then-to-text
returns-then-to-text c =
    omega (arith, adv-in (drop c.args.from c.args.text.now) (omega (arith, length-drop c.args.from c.args.text.now)))

pub returns-else-to-text : goal.returns-else-to-text
returns-else-to-text c =
    omega (arith, adv-out (drop c.args.from c.args.text.now) (omega (arith, length-drop c.args.from c.args.text.now)))
