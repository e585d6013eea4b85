-- `reading::day_fits` meets its contract: the two tests put together. Assumes nothing.
use Rattle.reading.proofs.Fits.{day-made}
use Rattle.reading.proofs.day_fits.Goals as goal

pub returns : goal.returns
returns c =
    let a = c.args in
    day-made a.r a.start a.day c.field_fits-of_month.ensures c.field_fits-name.ensures c.day_name.ensures
