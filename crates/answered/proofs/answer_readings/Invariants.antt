-- `answered::answer_readings` meets its contract. The invariant: the output has been given the answers to the readings passed. Assumes nothing.
use Rattle.std.proofs.Common.{List, ℕ, take}
use Rattle.std.specs.Io.KnownBytes.{Appends}
use Rattle.fields.specs.Fields.{each}
use Rattle.newsheet.specs.New.{eight_of}
use Rattle.answered.specs.Answers.{answer_to_reading}
use Rattle.answered.specs.Paper.{HoldsReadings}
use Rattle.answered.proofs.answer_readings.Given as goal

abbrev pub invariant-loop-j : goal.invariant-loop-j
invariant-loop-j g l = (xs : List ℕ) → HoldsReadings l.list l.n xs →
    Appends (g.W.Write.contents l.initial.to) (g.W.Write.contents l.to) (each (λ x. answer_to_reading (eight_of x)) (take l.j xs))
