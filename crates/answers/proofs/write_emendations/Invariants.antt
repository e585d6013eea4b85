-- `answers::write_emendations` meets its contract. The invariant: the lines of the first i emendations are written. Assumes nothing.
use Rattle.std.proofs.Common.{◌≡◌, ◌+◌, ◌*◌, ◌≤◌, ◌++◌, length, take}
use Rattle.told.specs.Answers.{emendation_lines}
use Rattle.answers.proofs.write_emendations.Given as goal

abbrev pub invariant-loop-i : goal.invariant-loop-i
invariant-loop-i g l = record {
  so_far : l.text ≡ l.initial.text ++ emendation_lines (take (4 * l.i) l.list);
  few : length l.text ≤ length l.initial.text + 55 * l.i;
}
