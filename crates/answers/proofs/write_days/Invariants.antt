-- `answers::write_days` meets its contract. The invariant: the lines of the days passed are written. Assumes nothing.
use Rattle.std.proofs.Common.{◌≡◌, ◌+◌, ◌*◌, ◌≤◌, ◌++◌, length, take}
use Rattle.fields.specs.Fields.{each}
use Rattle.told.specs.Answers.{day_line}
use Rattle.answers.proofs.write_days.Given as goal

abbrev pub invariant-loop-day : goal.invariant-loop-day
invariant-loop-day g l = record {
  so_far : l.text ≡ l.initial.text ++ each day_line (take l.day-index l.days);
  few : length l.text ≤ length l.initial.text + 118 * l.day-index;
}
