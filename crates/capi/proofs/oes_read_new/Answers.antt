-- `capi::oes_read_new` meets its contract. Assumes nothing.
use mathlib.Core.Path.{ap, ◌∙◌}
use Rattle.offered.specs.Renewed.{flat_four}
use Rattle.capi.proofs.oes_read_new.Goals as goal

pub returns : goal.returns
returns c =
    let w = c.read_new.ensures in record { answer = c.flat.ensures ∙ ap flat_four w.answer; years = w.years; months = w.months; days = w.days; readings = w.readings }
