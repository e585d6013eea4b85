-- `answers::lent::put_emendations` meets its contract: one line more at each turn. Assumes nothing.
use Rattle.std.proofs.Common.{arith}
use Rattle.fields.proofs.Puts.{put-none, turn}
use Rattle.told.specs.Answers.{emendation_lines}
use Rattle.told.proofs.Emending.{lines_next}
use Rattle.answers.proofs.lent.put_emendations.Goals as goal

pub loop-i-init : goal.loop-i-init
unfolding emendation_lines
loop-i-init c = put-none c.args.out.now c.args.at

pub loop-i-preserved : goal.loop-i-preserved
loop-i-preserved c =
    let i = c.loop-i.i in turn i (lines_next i c.args.list.now (omega arith)) c.loop-i.invariant c.put_four-to.ensures
