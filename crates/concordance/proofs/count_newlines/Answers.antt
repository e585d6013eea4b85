-- `concordance::count_newlines` meets its contract. What is left has the newlines that are not counted yet. Assumes nothing.
use Rattle.std.proofs.Common.{arith}
use Rattle.concordance.proofs.Places.{newline-next, newline-none, newlines-few}
use Rattle.concordance.proofs.count_newlines.Goals as goal

pub overflow_add-n : goal.overflow_add-n
overflow_add-n c =
    record {
      fits = omega (
        arith,
        c.newline-n.ensures,
        newline-next c.args.text.now c.loop-b.b-index c.loop-b-test.true,
        newlines-few c.args.text.now,
        c.loop-b.invariant,
      );
    }

pub loop-b-preserved : goal.loop-b-preserved
loop-b-preserved c =
    omega (arith, c.newline-n.ensures, newline-next c.args.text.now c.loop-b.b-index c.loop-b-test.true, c.loop-b.invariant)

pub returns : goal.returns
returns c = omega (arith, c.loop-b.invariant, newline-none c.args.text.now c.loop-b.b-index c.loop-b-test.false)
