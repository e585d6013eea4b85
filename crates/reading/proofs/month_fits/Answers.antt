-- `reading::month_fits` meets its contract: the first value that does not fit decides. Assumes nothing.
use mathlib.Core.Path.{◌≡◌, sym, ◌∙◌}
use mathlib.Core.Bool.{true}
use Rattle.rule.specs.Counts.{year_name}
use Rattle.rule.specs.Rule.{civil_year_of_month, month_number}
use Rattle.reading.specs.Readings.{field_fits}
use Rattle.reading.proofs.Fits.{year-name-fails, number-fails, mark-fails, first-name-decides}
use Rattle.reading.proofs.month_fits.Goals as goal

pub returns-then-not-year_name_fits : goal.returns-then-not-year_name_fits
returns-then-not-year_name_fits c =
    let a = c.args in
    sym
    (year-name-fails a.r a.n
    (sym c.year_name_fits.ensures ∙ c.if-not-year_name_fits.true))

pub returns-then-not-number_fits : goal.returns-then-not-number_fits
returns-then-not-number_fits c =
    let year-name : let a = c.args in field_fits a.r.year_name (year_name (civil_year_of_month a.n)) ≡ true = sym c.year_name_fits.ensures ∙ c.if-not-year_name_fits.false in
    let a = c.args in
    sym
    (number-fails a.r a.n (year-name)
    (sym c.number_fits.ensures ∙ c.if-not-number_fits.true))

pub returns-then-not-mark_fits : goal.returns-then-not-mark_fits
returns-then-not-mark_fits c =
    let year-name : let a = c.args in field_fits a.r.year_name (year_name (civil_year_of_month a.n)) ≡ true = sym c.year_name_fits.ensures ∙ c.if-not-year_name_fits.false in
    let number : let a = c.args in field_fits a.r.month_number (month_number a.n) ≡ true = sym c.number_fits.ensures ∙ c.if-not-number_fits.false in
    let a = c.args in
    sym
    (mark-fails a.r a.n (year-name) (number)
    (sym c.mark_fits.ensures ∙ c.if-not-mark_fits.true))

pub returns : goal.returns
returns c =
    let year-name : let a = c.args in field_fits a.r.year_name (year_name (civil_year_of_month a.n)) ≡ true = sym c.year_name_fits.ensures ∙ c.if-not-year_name_fits.false in
    let number : let a = c.args in field_fits a.r.month_number (month_number a.n) ≡ true = sym c.number_fits.ensures ∙ c.if-not-number_fits.false in
    let a = c.args in
    c.first_name_fits.ensures
    ∙ sym
    (first-name-decides a.r a.n (year-name) (number)
    (sym c.mark_fits.ensures ∙ c.if-not-mark_fits.false))
