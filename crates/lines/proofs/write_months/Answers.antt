-- `lines::write_months` meets its contract: one line more at each turn. Assumes nothing.
use Rattle.std.proofs.Common.{arith, append-nil, append_assoc}
use Rattle.fields.proofs.Putting.{each-count}
use Rattle.lines.proofs.Runs.{each_none}
use Rattle.lines.proofs.write_months.Goals as goal

pub loop-i-init : goal.loop-i-init
loop-i-init g c = record { so_far = rw (each_none, append-nil); few = omega arith }

pub loop-i-preserved : goal.loop-i-preserved
loop-i-preserved g c = record { so_far = rw (each-count, ← append_assoc) (cc); few = omega arith }
