-- `capi::oes_day_of_date` meets its contract. Assumes nothing.
use mathlib.Core.Path.{ap, ◌∙◌}
use Rattle.offered.specs.Flat.{flat_day}
use Rattle.capi.proofs.Asked.{day-asked}
use Rattle.capi.proofs.oes_day_of_date.Goals as goal

pub returns : goal.returns
returns c =
    let s = c.args in let asked = day-asked s.year s.number s.leap s.day_of_month c.cap.ensures c.cap-2.ensures c.cap-3.ensures in c.flat.ensures ∙ ap flat_day (c.day_of_date.ensures ∙ asked)
