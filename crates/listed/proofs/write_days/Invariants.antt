-- `listed::write_days` meets its contract. The invariant: the items passed are written. Assumes nothing.
use Rattle.std.proofs.Common.{◌≡◌, ◌+◌, ◌*◌, ◌≤◌, ◌++◌, length, take}
use Rattle.fields.specs.Fields.{each}
use Rattle.penned.specs.Lines.{day_item}
use Rattle.listed.proofs.write_days.Given as goal

abbrev pub invariant-loop-day : goal.invariant-loop-day
invariant-loop-day g l = record {
  so_far : l.text ≡ l.initial.text ++ each day_item (take l.day-index l.days);
  few : length l.text ≤ length l.initial.text + 61 * l.day-index;
}
