-- `answers::write_emendations` meets its contract: one line more at each turn. Assumes nothing.
use Rattle.std.proofs.Common.{arith, append-nil, append_assoc}
use Rattle.told.specs.Answers.{emendation_lines}
use Rattle.told.proofs.Emending.{lines_next}
use Rattle.answers.proofs.write_emendations.Goals as goal

pub loop-i-init : goal.loop-i-init
unfolding emendation_lines
loop-i-init g c = record { so_far = rw append-nil; few = omega arith }

pub loop-i-preserved : goal.loop-i-preserved
loop-i-preserved g c = record { so_far = rw (lines_next c.loop-i.i c.args.list.now (omega arith), ← append_assoc) (cc); few = omega arith }
