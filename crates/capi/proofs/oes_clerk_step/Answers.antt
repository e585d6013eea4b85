-- `capi::oes_clerk_step` meets its contract. Assumes nothing.
use mathlib.Core.Path.{ap, ◌∙◌}
use Rattle.offered.specs.Flat.{flat_clerk}
use Rattle.capi.proofs.oes_clerk_step.Goals as goal

pub returns : goal.returns
returns c = c.flat.ensures ∙ ap flat_clerk c.step.ensures
