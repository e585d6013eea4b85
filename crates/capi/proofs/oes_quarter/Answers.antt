-- `capi::oes_quarter` meets its contract. Assumes nothing.
use Rattle.facts.specs.Facts.{quarter_at}
use Rattle.capped.proofs.Paper.{capped-alike}
use Rattle.offered.specs.Flat.{flat_quarter}
use Rattle.capi.proofs.Asked.{asked-two}
use Rattle.capi.proofs.oes_quarter.Goals as goal

pub returns : goal.returns
returns c =
    asked-two flat_quarter quarter_at capped-alike.quarter c.cap.ensures c.cap-2.ensures c.quarter.ensures c.flat.ensures
