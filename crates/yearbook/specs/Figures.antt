-- "Figures for the yearbook" (W13): what is counted over a range of civil years, each month and each day of it tried. Assumes nothing.
use Rattle.std.specs.Prelude.{ℕ, zero, suc, ◌+◌, ◌-◌, Bool, ◌&&◌, List, [], ◌∷◌, ◌++◌, eqb, length}
use Rattle.rule.specs.Counts.{day_name}
use Rattle.rule.specs.Lists.{those}
use Rattle.rule.specs.Rule.{month_start, month_length, big, pair_starts, leap, month_number, civil_first_month, eclipse}
use Rattle.yearbook.specs.declared.Figures.{Figures}

-- how many counts from `from` up to `to` pass the test p
abbrev pub passing : (ℕ → Bool) → ℕ → ℕ → ℕ
passing p from to = length (those p from (to - from))

-- the months of the civil years from first to last: from the one with which the first opens up to the one with which the year after the last
-- does (Paper, MonthsAndDaysOfTheYears)
abbrev pub month_after : ℕ → ℕ
month_after last = civil_first_month (last + 1)

-- how many of these months pass a test, and how many of their days
abbrev pub months_that : (ℕ → Bool) → ℕ → ℕ → ℕ
months_that p first last = passing p (civil_first_month first) (month_after last)

abbrev pub days_that : (ℕ → Bool) → ℕ → ℕ → ℕ
days_that p first last = passing p (month_start (civil_first_month first)) (month_start (month_after last))

-- a small month has 29 days (a big one, 30, and a big pair are the rule's)
unfoldable pub small : ℕ → Bool
small n = eqb (month_length n) 29

-- "leap months by number": month n is leap, of number k
unfoldable pub leap_numbered : ℕ → ℕ → Bool
leap_numbered k n = leap n && eqb (month_number n) k

-- "days of each of the sixty names": day d has name k
unfoldable pub has_name : ℕ → ℕ → Bool
has_name k d = eqb (day_name d) k

-- what f gives for each number from 1 to k
unfoldable pub for_each : (ℕ → ℕ) → ℕ → List ℕ
for_each f zero = []
for_each f (suc k) = for_each f k ++ (f (suc k) ∷ [])

-- "count big and small months, big pairs, .. eclipse months"; a big pair by the month that starts it. Of the months from
-- one up to another, and of a range of years
unfoldable pub figures_from : ℕ → ℕ → Figures
figures_from from to =
    record { big = passing big from to; small = passing small from to; pairs = passing pair_starts from to; eclipses = passing eclipse from to }

abbrev pub figures_of : ℕ → ℕ → Figures
figures_of first last = figures_from (civil_first_month first) (month_after last)

-- "leap months by number", twelve counts
unfoldable pub leaps_from : ℕ → ℕ → List ℕ
leaps_from from to = for_each (λ k. passing (leap_numbered k) from to) 12

abbrev pub leap_figures : ℕ → ℕ → List ℕ
leap_figures first last = leaps_from (civil_first_month first) (month_after last)

-- "and days of each of the sixty names", sixty counts
unfoldable pub names_from : ℕ → ℕ → List ℕ
names_from from to = for_each (λ k. passing (has_name k) from to) 60

abbrev pub name_figures : ℕ → ℕ → List ℕ
name_figures first last = names_from (month_start (civil_first_month first)) (month_start (month_after last))
