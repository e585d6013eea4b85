-- `listed::write_years` meets its contract. The invariant: the items passed are written. Assumes nothing.
use Rattle.std.proofs.Common.{◌≡◌, ◌+◌, ◌*◌, ◌≤◌, ◌++◌, length, take}
use Rattle.fields.specs.Fields.{each}
use Rattle.penned.specs.Lines.{year_block}
use Rattle.listed.proofs.write_years.Given as goal

abbrev pub invariant-loop-year : goal.invariant-loop-year
invariant-loop-year g l = record {
  so_far : l.text ≡ l.initial.text ++ each year_block (take l.year-index l.years);
  few : length l.text ≤ length l.initial.text + 674 * l.year-index;
}
