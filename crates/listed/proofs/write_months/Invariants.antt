-- `listed::write_months` meets its contract. The invariant: the items passed are written. Assumes nothing.
use Rattle.std.proofs.Common.{◌≡◌, ◌+◌, ◌*◌, ◌≤◌, ◌++◌, length, take}
use Rattle.fields.specs.Fields.{each}
use Rattle.penned.specs.Lines.{month_item}
use Rattle.listed.proofs.write_months.Given as goal

abbrev pub invariant-loop-month : goal.invariant-loop-month
invariant-loop-month g l = record {
  so_far : l.text ≡ l.initial.text ++ each month_item (take l.month-index l.months);
  few : length l.text ≤ length l.initial.text + 54 * l.month-index;
}
