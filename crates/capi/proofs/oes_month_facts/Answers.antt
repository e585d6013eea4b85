-- `capi::oes_month_facts` meets its contract. Assumes nothing.
use Rattle.facts.specs.Facts.{month_facts_at}
use Rattle.capped.proofs.Paper.{capped-alike}
use Rattle.offered.specs.Flat.{flat_month}
use Rattle.capi.proofs.Asked.{asked-one}
use Rattle.capi.proofs.oes_month_facts.Goals as goal

pub returns : goal.returns
returns c =
    asked-one flat_month month_facts_at capped-alike.month c.cap.ensures c.month_facts.ensures c.flat.ensures
