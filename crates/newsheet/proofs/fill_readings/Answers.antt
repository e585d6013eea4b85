-- `newsheet::fill_readings` meets its contract. The invariant: storing what is left gives what all gives. Assumes nothing.
use native.Mathlib.Omega.{arith}
use mathlib.Core.Path.{ap, ◌∙◌}
use lib.Seq.{sets}
use Rattle.newsheet.proofs.Eights.{next-stored, all-stored}
use Rattle.newsheet.proofs.fill_readings.Goals as goal

pub loop-i-preserved : goal.loop-i-preserved
loop-i-preserved c =
    let loop = c.loop-i in next-stored loop.invariant (omega arith) _ (c.put_eight.ensures ∙ ap (sets loop.out _) c.eight_in.ensures)

pub returns : goal.returns
returns c = all-stored c.loop-i.invariant c.loop-i-test.false
