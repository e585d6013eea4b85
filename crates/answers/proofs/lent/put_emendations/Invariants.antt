-- `answers::lent::put_emendations` meets its contract. The invariant: the lines of the first i emendations are put. Assumes nothing.
use Rattle.std.proofs.Common.{◌*◌, take}
use Rattle.fields.specs.Fields.{Put}
use Rattle.told.specs.Answers.{emendation_lines}
use Rattle.answers.proofs.lent.put_emendations.Given as goal

abbrev pub invariant-loop-i : goal.invariant-loop-i
invariant-loop-i l =
    Put (55 * l.i) l.initial.out l.at (emendation_lines (take (4 * l.i) l.list)) l.out l.to
