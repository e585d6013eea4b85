-- `capi::oes_write_sheet` meets its contract. Assumes nothing.
use mathlib.Core.Path.{ap, ◌∙◌}
use Rattle.offered.specs.Flat.{flat_length}
use Rattle.capi.proofs.oes_write_sheet.Goals as goal

pub returns : goal.returns
returns c =
    let w = c.write_sheet.ensures in record { answer = c.flat.ensures ∙ ap flat_length w.answer; buffer = w.buffer }
