-- `capi::oes_to_new` meets its contract. Assumes nothing.
use mathlib.Core.Path.{ap, ◌∙◌}
use Rattle.offered.specs.Flat.{flat_length}
use Rattle.capi.proofs.oes_to_new.Goals as goal

pub returns : goal.returns
returns c =
    let w = c.to_new.ensures in record { answer = c.flat.ensures ∙ ap flat_length w.answer; buffer = w.buffer }
