-- `reading::number_fits` meets its contract: the field against the month's number. Assumes nothing.
use mathlib.Core.Path.{ap, ◌∙◌}
use Rattle.reading.specs.Readings.{field_fits}
use Rattle.reading.proofs.number_fits.Goals as goal

pub returns : goal.returns
returns c = c.field_fits.ensures ∙ ap (field_fits c.args.f) c.month_number.ensures
