-- `capi::oes_date_of_day` meets its contract. Assumes nothing.
use Rattle.dates.specs.Dates.{date_at}
use Rattle.capped.proofs.Paper.{capped-alike}
use Rattle.offered.specs.Flat.{flat_date}
use Rattle.capi.proofs.Asked.{asked-one}
use Rattle.capi.proofs.oes_date_of_day.Goals as goal

pub returns : goal.returns
returns c =
    asked-one flat_date date_at capped-alike.date c.cap.ensures c.date_of_day.ensures c.flat.ensures
