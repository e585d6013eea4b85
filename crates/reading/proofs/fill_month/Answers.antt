-- `reading::fill_month` meets its contract: the month's own values once, and then its days. Assumes nothing.
use Prim.Native.Nat.{ℕ, ◌+◌, ◌-◌}
use native.Mathlib.Omega.{arith}
use mathlib.Core.Path.{◌≡◌, refl, ap, sym, ◌∙◌}
use mathlib.Core.List.{List}
use lib.ListN.{length}
use lib.Seq.{sets}
use Rattle.rule.specs.Lists.{those}
use Rattle.rule.specs.Rule.{month_start}
use Rattle.reading.specs.Readings.{day_fits, fitting}
use Rattle.reading.proofs.Runs.{month-fitting, month-not-fitting}
use Rattle.reading.proofs.fill_month.Goals as goal

pub fill_days-requires : goal.fill_days-requires
fill_days-requires c =
    let own-days : let a = c.args in those (day_fits a.r (month_start a.part.month)) a.part.from (a.part.to - a.part.from) ≡ fitting a.r a.part.from (a.part.to - a.part.from) =
    month-fitting c.args.part.of_month c.args.r refl (sym c.month_fits.ensures ∙ c.if-month_fits.true) in
    omega (arith, ap length (own-days), c.requires)

pub returns-then-month_fits : goal.returns-then-month_fits
returns-then-month_fits c =
    let own-days : let a = c.args in those (day_fits a.r (month_start a.part.month)) a.part.from (a.part.to - a.part.from) ≡ fitting a.r a.part.from (a.part.to - a.part.from) =
    month-fitting c.args.part.of_month c.args.r refl (sym c.month_fits.ensures ∙ c.if-month_fits.true) in
    let a = c.args in
    let filled = c.fill_days.ensures in (
      filled.0 ∙ ap (λ (l : List ℕ). a.at + length l) (own-days),
      filled.1 ∙ ap (sets a.out.now a.at) (own-days),
    )

pub returns : goal.returns
returns c =
    let a = c.args in
    let none = month-not-fitting c.args.part.of_month a.r (sym c.month_fits.ensures ∙ c.if-month_fits.false) in
    (omega (arith, ap length none), sym (ap (sets a.out.now a.at) none))
