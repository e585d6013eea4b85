-- `capi::oes_solstice_year` meets its contract. Assumes nothing.
use Rattle.facts.specs.Facts.{solstice_year_at}
use Rattle.capped.proofs.Paper.{capped-alike}
use Rattle.offered.specs.Flat.{flat_solstice}
use Rattle.capi.proofs.Asked.{asked-one}
use Rattle.capi.proofs.oes_solstice_year.Goals as goal

pub returns : goal.returns
returns c =
    asked-one flat_solstice solstice_year_at capped-alike.solstice c.cap.ensures c.solstice_year.ensures c.flat.ensures
