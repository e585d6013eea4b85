-- `answers::lent::put_days` meets its contract: one line more at each turn. Assumes nothing.
use Rattle.std.proofs.Common.{arith}
use Rattle.fields.specs.Fields.{each}
use Rattle.fields.proofs.Putting.{each_next}
use Rattle.fields.proofs.Puts.{put-none, turn}
use Rattle.told.specs.Answers.{day_line}
use Rattle.answers.proofs.lent.put_days.Goals as goal

pub loop-day-init : goal.loop-day-init
unfolding each
loop-day-init c = put-none c.args.out.now c.args.at

pub loop-day-preserved : goal.loop-day-preserved
loop-day-preserved c =
    let i = c.loop-day.day-index in
    turn i (each_next day_line c.args.days.now i (omega arith)) c.loop-day.invariant c.put_day_of-to.ensures
