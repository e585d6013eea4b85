-- `capi::oes_year_facts` meets its contract. Assumes nothing.
use Rattle.facts.specs.Facts.{year_facts_at}
use Rattle.capped.proofs.Paper.{capped-alike}
use Rattle.offered.specs.Flat.{flat_year}
use Rattle.capi.proofs.Asked.{asked-one}
use Rattle.capi.proofs.oes_year_facts.Goals as goal

pub returns : goal.returns
returns c =
    asked-one flat_year year_facts_at capped-alike.year c.cap.ensures c.year_facts.ensures c.flat.ensures
