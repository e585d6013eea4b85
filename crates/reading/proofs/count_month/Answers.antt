-- `reading::count_month` meets its contract: the month's own values once, and then its days. Assumes nothing.
use mathlib.Core.Path.{refl, ap, sym, ◌∙◌}
use lib.ListN.{length}
use Rattle.reading.proofs.Runs.{month-fitting, month-not-fitting}
use Rattle.reading.proofs.count_month.Goals as goal

pub returns-then-month_fits : goal.returns-then-month_fits
returns-then-month_fits c =
    let fit = sym c.month_fits.ensures ∙ c.if-month_fits.true in
    c.count_days.ensures ∙ ap length (month-fitting c.args.part.of_month c.args.r refl fit)

pub returns : goal.returns
returns c =
    sym (ap length (month-not-fitting c.args.part.of_month c.args.r (sym c.month_fits.ensures ∙ c.if-month_fits.false)))
