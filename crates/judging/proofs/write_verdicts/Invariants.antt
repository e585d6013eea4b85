-- `judging::write_verdicts` meets its contract. The invariant: the lines of the verdicts passed are written. Assumes nothing.
use Rattle.std.proofs.Common.{◌≡◌, ◌+◌, ◌*◌, ◌≤◌, ◌++◌, length, take}
use Rattle.judging.specs.Report.{verdict_lines}
use Rattle.judging.proofs.write_verdicts.Given as goal

abbrev pub invariant-loop-i : goal.invariant-loop-i
invariant-loop-i g l = record {
  so_far : l.text ≡ l.initial.text ++ verdict_lines 1 (take l.i l.vs);
  few : length l.text ≤ length l.initial.text + 45 * l.i;
}
