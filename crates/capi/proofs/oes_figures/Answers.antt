-- `capi::oes_figures` meets its contract. Assumes nothing.
use Rattle.capi.proofs.Figured.{figures-asked}
use Rattle.capi.proofs.oes_figures.Goals as goal

pub returns : goal.returns
returns c =
    figures-asked _ _ c.cap.ensures c.cap-2.ensures c.figures_of.ensures c.flat.ensures
