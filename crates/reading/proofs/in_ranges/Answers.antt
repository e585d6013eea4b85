-- `reading::in_ranges` meets its contract: the six tests put together. Assumes nothing.
use Rattle.reading.proofs.Fits.{ranges-made}
use Rattle.reading.proofs.in_ranges.Goals as goal

pub returns : goal.returns
returns c =
    ranges-made c.args.r
    c.field_in_range-year_name.ensures c.field_in_range-month_number.ensures c.field_in_range-leap_mark.ensures
    c.field_in_range-day_of_month.ensures c.field_in_range-day_name.ensures c.field_in_range-first_name.ensures
