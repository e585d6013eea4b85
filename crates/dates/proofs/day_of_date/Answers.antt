-- `dates::day_of_date` meets its contract: the ranges in order, whether the number is there, and then the month. Assumes nothing.
use native.Mathlib.Omega.{arith}
use mathlib.Core.Path.{◌≡◌, sym, ◌∙◌}
use mathlib.Core.Bool.{true}
use Prim.Native.Nat.{◌≤◌}
use Rattle.rule.specs.Reasons.{within}
use Rattle.dates.specs.Dates.{number_there}
use Rattle.dates.proofs.Days.{no-year, no_number_lem, no-day-of-month, not_there, in-ranges}
use Rattle.dates.proofs.day_of_date.Goals as goal

pub returns : goal.returns
returns c =
    let year-there : c.args.year ≤ 41040 = omega (arith, c.if-year-gt41040.false) in
    let number-in-range : within 1 12 c.args.number ≡ true = sym c.in_range.ensures ∙ c.if-not-in_range.false in
    let day-in-range : within 1 30 c.args.day_of_month ≡ true = sym c.in_range-2.ensures ∙ c.if-not-in_range-2.false in
    let number-there : let a = c.args in number_there a.year a.number ≡ true = sym c.in_range-3.ensures ∙ c.if-not-in_range-3.false in
    let a = c.args in
    c.day_of_named.ensures
    ∙ sym
    (in-ranges a.year a.number a.leap a.day_of_month (year-there) (number-in-range) (day-in-range) (number-there))

pub returns-then-year-gt41040 : goal.returns-then-year-gt41040
returns-then-year-gt41040 c =
    let a = c.args in
    sym (no-year a.year a.number a.leap a.day_of_month (omega (arith, c.if-year-gt41040.true)))

pub returns-then-not-in_range : goal.returns-then-not-in_range
returns-then-not-in_range c =
    let year-there : c.args.year ≤ 41040 = omega (arith, c.if-year-gt41040.false) in
    let a = c.args in
    let test = c.in_range in
    sym
    (no_number_lem a.year a.number a.leap a.day_of_month (year-there)
    (sym test.ensures ∙ c.if-not-in_range.true))

pub returns-then-not-in_range-2 : goal.returns-then-not-in_range-2
returns-then-not-in_range-2 c =
    let year-there : c.args.year ≤ 41040 = omega (arith, c.if-year-gt41040.false) in
    let number-in-range : within 1 12 c.args.number ≡ true = sym c.in_range.ensures ∙ c.if-not-in_range.false in
    let a = c.args in
    let test = c.in_range-2 in
    sym
    (no-day-of-month a.year a.number a.leap a.day_of_month (year-there) (number-in-range)
    (sym test.ensures ∙ c.if-not-in_range-2.true))

pub returns-then-not-in_range-3 : goal.returns-then-not-in_range-3
returns-then-not-in_range-3 c =
    let year-there : c.args.year ≤ 41040 = omega (arith, c.if-year-gt41040.false) in
    let number-in-range : within 1 12 c.args.number ≡ true = sym c.in_range.ensures ∙ c.if-not-in_range.false in
    let day-in-range : within 1 30 c.args.day_of_month ≡ true = sym c.in_range-2.ensures ∙ c.if-not-in_range-2.false in
    let a = c.args in
    let test = c.in_range-3 in
    sym
    (not_there a.year a.number a.leap a.day_of_month (year-there) (number-in-range) (day-in-range)
    (sym test.ensures ∙ c.if-not-in_range-3.true))
