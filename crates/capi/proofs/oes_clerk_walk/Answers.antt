-- `capi::oes_clerk_walk` meets its contract. Assumes nothing.
use Rattle.clerk.specs.Clerk.{walked}
use Rattle.capped.proofs.Paper.{capped-alike}
use Rattle.offered.specs.Flat.{flat_clerk}
use Rattle.capi.proofs.Asked.{asked-two}
use Rattle.capi.proofs.oes_clerk_walk.Goals as goal

pub returns : goal.returns
returns c =
    asked-two flat_clerk walked capped-alike.walk c.cap.ensures c.cap-2.ensures c.walk.ensures c.flat.ensures
