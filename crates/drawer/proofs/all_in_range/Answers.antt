-- `drawer::all_in_range` meets its contract: what was found of the days before, and the days that are left, decide. Assumes nothing.
use Rattle.std.proofs.Common.{sym, ◌∙◌}
use Rattle.drawer.proofs.Days.{all_here, all_past}
use Rattle.drawer.proofs.all_in_range.Goals as goal

pub loop-day-preserved : goal.loop-day-preserved
loop-day-preserved c =
    let l = c.loop-day in l.invariant ∙ all_here c.args.days.now l.day-index l.good c.loop-day-test.true

pub returns : goal.returns
returns c =
    let l = c.loop-day in sym (l.invariant ∙ all_past c.args.days.now l.day-index l.good c.loop-day-test.false)
