-- `capi::oes_read_sheet` meets its contract. Assumes nothing.
use mathlib.Core.Path.{ap, ◌∙◌}
use Rattle.offered.specs.Flat.{flat_counts}
use Rattle.capi.proofs.oes_read_sheet.Goals as goal

pub returns : goal.returns
returns c =
    let w = c.read_sheet.ensures in record { answer = c.flat.ensures ∙ ap flat_counts w.answer; years = w.years; months = w.months; days = w.days }
