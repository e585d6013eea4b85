use Rattle.std.proofs.Common.{◌≡◌, ◌+◌, ◌*◌, ◌≤◌, ◌++◌, length}
use mathlib.Core.Bool.{true}
use Rattle.rule.specs.Lists.{those}
use Rattle.fields.specs.Fields.{each}
use Rattle.penned.specs.Lines.{month_lined}
use Rattle.lines.proofs.write_months.Given as goal

abbrev pub invariant-loop-i : goal.invariant-loop-i
invariant-loop-i g l = record {
  so_far : l.text ≡ l.initial.text ++ each month_lined (those (λ n. true) l.first l.i);
  few : length l.text ≤ length l.initial.text + 48 * l.i;
}
