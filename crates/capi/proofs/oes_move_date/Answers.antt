-- `capi::oes_move_date` meets its contract. Assumes nothing.
use mathlib.Core.Path.{ap, ◌∙◌}
use mir.Syntax.{w64}
use mir.ValLaws.{to_z-of_z}
use Rattle.moves.specs.Moves.{moved}
use Rattle.offered.specs.Flat.{flat_date}
use Rattle.capi.proofs.Asked.{move-asked}
use Rattle.capi.proofs.oes_move_date.Goals as goal

pub returns : goal.returns
returns c =
    let s = c.args in let asked = move-asked s.year s.number s.leap s.day_of_month c.cap.ensures c.cap-2.ensures c.cap-3.ensures in let days = to_z-of_z w64 s.days c.ranges.days in c.flat.ensures ∙ ap flat_date (c.move_date.ensures ∙ asked _ ∙ ap (moved s.year s.number s.leap s.day_of_month) days)
