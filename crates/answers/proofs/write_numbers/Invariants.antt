-- `answers::write_numbers` meets its contract. The invariant: the numbers passed are written. Assumes nothing.
use Rattle.std.proofs.Common.{◌≡◌, ◌+◌, ◌*◌, ◌≤◌, ◌++◌, length, take}
use Rattle.fields.specs.Fields.{each}
use Rattle.told.specs.Yearbook.{spaced}
use Rattle.answers.proofs.write_numbers.Given as goal

abbrev pub invariant-loop-count : goal.invariant-loop-count
invariant-loop-count g l = record {
  so_far : l.text ≡ l.initial.text ++ each spaced (take l.count-index l.counts);
  few : length l.text ≤ length l.initial.text + 11 * l.count-index;
}
