-- `capi::oes_term` meets its contract. Assumes nothing.
use Rattle.facts.specs.Facts.{term_at}
use Rattle.capped.proofs.Paper.{capped-alike}
use Rattle.offered.specs.Flat.{flat_term}
use Rattle.capi.proofs.Asked.{asked-two}
use Rattle.capi.proofs.oes_term.Goals as goal

pub returns : goal.returns
returns c =
    asked-two flat_term term_at capped-alike.term c.cap.ensures c.cap-2.ensures c.term.ensures c.flat.ensures
