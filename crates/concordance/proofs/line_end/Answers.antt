-- `concordance::line_end` meets its contract. The line's end is as far from here as from its start. Assumes nothing.
use Rattle.std.proofs.Common.{◌≡◌, ◌≢◌, drop, arith, length-drop, eq-eqb, ne_eqb}
use lib.ListN.{get_or}
use Rattle.concordance.proofs.Lines.{len-le, len-pass, len-stop}
use Rattle.concordance.proofs.line_end.Goals as goal

pub returns-then-text-to-eq10 : goal.returns-then-text-to-eq10
returns-then-text-to-eq10 c =
    let newline : get_or c.args.text.now c.loop-to.to 0 ≡ 10 = omega (arith, c.if-text-to-eq10.true) in
    omega (arith, len-stop c.args.text.now c.loop-to.to (omega arith) (eq-eqb _ _ newline))

pub loop-to-preserved : goal.loop-to-preserved
loop-to-preserved c =
    let other : get_or c.args.text.now c.loop-to.to 0 ≢ 10 = omega (arith, c.if-text-to-eq10.false) in
    omega (arith, len-pass c.args.text.now c.loop-to.to (omega arith) (ne_eqb _ _ other))

pub returns : goal.returns
returns c =
    omega (arith, len-le (drop c.loop-to.to c.args.text.now), length-drop c.loop-to.to c.args.text.now)
