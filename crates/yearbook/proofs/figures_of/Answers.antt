-- `yearbook::figures_of` meets its contract: either refusal, or both arrays and the four numbers. Assumes nothing.
use Prim.Native.Nat.{◌≤◌, ◌<◌}
use native.Mathlib.Omega.{arith}
use mathlib.Core.Path.{ap, ap₂, ◌∙◌}
use Rattle.rule.specs.Rule.{month_start}
use Rattle.rule.specs.declared.Reason.TheVariants.{NoSuchYear, BadWindow}
use Rattle.yearbook.specs.Figures.{figures_from, leaps_from, names_from}
use Rattle.yearbook.specs.Paper.{GoodYears}
use Rattle.yearbook.proofs.Answered.{months-inside, days-inside, first-outside, last-outside, turned_round, good-range, refuses, gives}
use mathlib.Core.Path.{sym}
use Rattle.yearbook.proofs.figures_of.Goals as goal

pub returns-then-not-in_range : goal.returns-then-not-in_range
returns-then-not-in_range c =
    refuses _ _ _ _ NoSuchYear (first-outside _ _ (sym c.in_range.ensures ∙ c.if-not-in_range.true))

pub returns-then-not-in_range-2 : goal.returns-then-not-in_range-2
returns-then-not-in_range-2 c =
    refuses _ _ _ _ NoSuchYear
    (last-outside _ _ (sym c.in_range.ensures ∙ c.if-not-in_range.false)
    (sym c.in_range-2.ensures ∙ c.if-not-in_range-2.true))

pub returns-then-last-first : goal.returns-then-last-first
returns-then-last-first c =
    refuses _ _ _ _ BadWindow
    (turned_round _ _ (sym c.in_range.ensures ∙ c.if-not-in_range.false)
    (sym c.in_range-2.ensures ∙ c.if-not-in_range-2.false) c.if-last-first.true)

pub returns : goal.returns
returns c =
    let good : let a = c.args in GoodYears a.first a.last =
    good-range _ _ (sym c.in_range.ensures ∙ c.if-not-in_range.false)
    (sym c.in_range-2.ensures ∙ c.if-not-in_range-2.false) c.if-last-first.false in
    let from = c.civil_first_month-from.ensures in
    let to = c.civil_first_month-to.ensures in
    gives _ _ _ _ (good) c.figures_from.result c.leap_counts-l.result c.name_counts-n.result
    (c.figures_from.ensures ∙ ap₂ figures_from from to)
    (c.leap_counts-l.ensures ∙ ap₂ leaps_from from to)
    (c.name_counts-n.ensures ∙ ap₂ names_from (c.month_start.ensures ∙ ap month_start from) (c.month_start-2.ensures ∙ ap month_start to))

pub leap_counts-l-requires : goal.leap_counts-l-requires
leap_counts-l-requires c =
    let good : let a = c.args in GoodYears a.first a.last =
    good-range _ _ (sym c.in_range.ensures ∙ c.if-not-in_range.false)
    (sym c.in_range-2.ensures ∙ c.if-not-in_range-2.false) c.if-last-first.false in
    let months : (c.civil_first_month-from.result < c.civil_first_month-to.result) × (c.civil_first_month-to.result ≤ 507589) =
    let g = good in
    omega (arith, c.civil_first_month-from.ensures, c.civil_first_month-to.ensures, months-inside _ _ g) in
    omega (arith, months)

pub month_start-requires : goal.month_start-requires
month_start-requires c =
    let good : let a = c.args in GoodYears a.first a.last =
    good-range _ _ (sym c.in_range.ensures ∙ c.if-not-in_range.false)
    (sym c.in_range-2.ensures ∙ c.if-not-in_range-2.false) c.if-last-first.false in
    let months : (c.civil_first_month-from.result < c.civil_first_month-to.result) × (c.civil_first_month-to.result ≤ 507589) =
    let g = good in
    omega (arith, c.civil_first_month-from.ensures, c.civil_first_month-to.ensures, months-inside _ _ g) in
    omega (arith, months)

pub month_start-requires-2 : goal.month_start-requires-2
month_start-requires-2 c =
    let good : let a = c.args in GoodYears a.first a.last =
    good-range _ _ (sym c.in_range.ensures ∙ c.if-not-in_range.false)
    (sym c.in_range-2.ensures ∙ c.if-not-in_range-2.false) c.if-last-first.false in
    let months : (c.civil_first_month-from.result < c.civil_first_month-to.result) × (c.civil_first_month-to.result ≤ 507589) =
    let g = good in
    omega (arith, c.civil_first_month-from.ensures, c.civil_first_month-to.ensures, months-inside _ _ g) in
    omega (arith, months)

pub name_counts-n-requires : goal.name_counts-n-requires
name_counts-n-requires c =
    let good : let a = c.args in GoodYears a.first a.last =
    good-range _ _ (sym c.in_range.ensures ∙ c.if-not-in_range.false)
    (sym c.in_range-2.ensures ∙ c.if-not-in_range-2.false) c.if-last-first.false in
    let days : (c.month_start.result ≤ c.month_start-2.result) × (c.month_start-2.result ≤ 14989860) =
    omega (
      arith,
      c.month_start.ensures,
      c.month_start-2.ensures,
      ap month_start c.civil_first_month-from.ensures,
      ap month_start c.civil_first_month-to.ensures,
      days-inside _ _ (good),
    ) in
    days

pub figures_from-requires : goal.figures_from-requires
figures_from-requires c =
    let good : let a = c.args in GoodYears a.first a.last =
    good-range _ _ (sym c.in_range.ensures ∙ c.if-not-in_range.false)
    (sym c.in_range-2.ensures ∙ c.if-not-in_range-2.false) c.if-last-first.false in
    let months : (c.civil_first_month-from.result < c.civil_first_month-to.result) × (c.civil_first_month-to.result ≤ 507589) =
    let g = good in
    omega (arith, c.civil_first_month-from.ensures, c.civil_first_month-to.ensures, months-inside _ _ g) in
    omega (arith, months)
