-- `capi::oes_conjunction` meets its contract. Assumes nothing.
use Rattle.planets.specs.Planets.{conjunction_at}
use Rattle.capped.proofs.Paper.{capped-alike}
use Rattle.offered.specs.Flat.{flat_conjunction}
use Rattle.capi.proofs.Asked.{asked-one}
use Rattle.capi.proofs.oes_conjunction.Goals as goal

pub returns : goal.returns
returns c =
    let k = c.args.k in asked-one flat_conjunction (λ p. conjunction_at p k) (λ p. capped-alike.planet p k) c.cap.ensures c.kth_conjunction.ensures c.flat.ensures
