-- `answers::lent::put_days` meets its contract. The invariant: the lines of the days passed are put. Assumes nothing.
use Rattle.std.proofs.Common.{◌*◌, take}
use Rattle.fields.specs.Fields.{each, Put}
use Rattle.told.specs.Answers.{day_line}
use Rattle.answers.proofs.lent.put_days.Given as goal

abbrev pub invariant-loop-day : goal.invariant-loop-day
invariant-loop-day l =
    Put (118 * l.day-index) l.initial.out l.at (each day_line (take l.day-index l.days)) l.out l.to
