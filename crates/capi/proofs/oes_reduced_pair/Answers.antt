-- `capi::oes_reduced_pair` meets its contract. Assumes nothing.
use Rattle.planets.specs.Planets.{pair_at}
use Rattle.planets.proofs.Reducing.{as-printed}
use Rattle.capped.proofs.Paper.{capped-alike}
use Rattle.offered.specs.Flat.{flat_pair}
use Rattle.capi.proofs.Asked.{asked-one}
use Rattle.capi.proofs.oes_reduced_pair.Goals as goal

pub returns : goal.returns
returns c =
    let p = c.reduced_pair in asked-one flat_pair pair_at capped-alike.pair c.cap.ensures ((as-printed _ p.result).0 p.ensures) c.flat.ensures
