-- `capi::oes_clerk_show` meets its contract. Assumes nothing.
use mathlib.Core.Path.{ap, ◌∙◌}
use Rattle.offered.specs.Flat.{given_month}
use Rattle.capi.proofs.oes_clerk_show.Goals as goal

pub returns : goal.returns
returns c = c.given.ensures ∙ ap given_month c.show.ensures
