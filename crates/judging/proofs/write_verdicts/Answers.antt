-- `judging::write_verdicts` meets its contract: one line more at each turn. Assumes nothing.
use Rattle.std.proofs.Common.{arith, append-nil, append_assoc}
use Rattle.judging.specs.Report.{verdict_lines}
use Rattle.judging.proofs.Reporting.{lines_next}
use Rattle.judging.proofs.write_verdicts.Goals as goal

pub loop-i-init : goal.loop-i-init
unfolding verdict_lines
loop-i-init g c = record { so_far = rw append-nil; few = omega arith }

pub loop-i-preserved : goal.loop-i-preserved
loop-i-preserved g c = record { so_far = rw (lines_next c.args.vs.now c.loop-i.i (omega arith), ← append_assoc) (cc); few = omega arith }
