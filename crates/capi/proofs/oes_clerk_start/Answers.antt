-- `capi::oes_clerk_start` meets its contract. Assumes nothing.
use Rattle.clerk.specs.Clerk.{start_at}
use Rattle.capped.proofs.Paper.{capped-alike}
use Rattle.offered.specs.Flat.{flat_clerk}
use Rattle.capi.proofs.Asked.{asked-one}
use Rattle.capi.proofs.oes_clerk_start.Goals as goal

pub returns : goal.returns
returns c =
    asked-one flat_clerk start_at capped-alike.start c.cap.ensures c.start.ensures c.flat.ensures
