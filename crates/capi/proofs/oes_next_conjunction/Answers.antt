-- `capi::oes_next_conjunction` meets its contract. Assumes nothing.
use Rattle.planets.specs.Planets.{next_at}
use Rattle.capped.proofs.Paper.{capped-alike}
use Rattle.offered.specs.Flat.{flat_next}
use Rattle.capi.proofs.Asked.{asked-two}
use Rattle.capi.proofs.oes_next_conjunction.Goals as goal

pub returns : goal.returns
returns c =
    asked-two flat_next next_at capped-alike.next c.cap.ensures c.cap-2.ensures c.next_conjunction.ensures c.flat.ensures
