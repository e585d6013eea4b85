-- "Readings and search" of the paper: the six values of a day, when a field and a reading fit, the ranges of the fields.
-- Assumes nothing.
use Rattle.std.specs.Prelude.{ℕ, ◌+◌, ◌-◌, ◌≤◌, Bool, true, false, ◌&&◌, List, eqb, leb}
use Rattle.rule.specs.Counts.{MonthInRange, day_name, year_name}
use Rattle.rule.specs.Lists.{those}
use Rattle.rule.specs.Rule.{month_start, month_of_day, civil_year_of_month, leap, month_number, number_of, leap_mark}
use Rattle.rule.specs.Reasons.{within}
use Rattle.dates.specs.declared.Date.{Date}
use Rattle.dates.specs.Dates.{date_of}
use Rattle.reading.specs.declared.Field.{Field}
use Rattle.reading.specs.declared.Field.TheVariants.{Known, Unread}
use Rattle.reading.specs.declared.Reading.{Reading}

-- a leap mark as a number: 1 ordinary, 2 leap
abbrev pub mark_number : Bool → ℕ
mark_number false = 1
mark_number true = 2

-- the six values of a day, "in this order: year name, month number, leap mark, day of month, day name, name of the month's first
-- day": what its date has, and the last; the year name is the name of its civil year
pub record Six : Type 0 where
  pub year-name : ℕ
  pub month-number : ℕ
  pub leap-mark : ℕ
  pub day-of-month : ℕ
  pub day-name : ℕ
  pub first-name : ℕ

abbrev pub six_of_date : ℕ → Date → Six
six_of_date n r =
    record {
      year-name = r.year_name;
      month-number = number_of r.month;
      leap-mark = mark_number (leap_mark r.month);
      day-of-month = r.day_of_month;
      day-name = r.day_name;
      first-name = day_name (month_start n);
    }

unfoldable pub six_of : ℕ → Six
six_of d = six_of_date (month_of_day d) (date_of d)

-- "A known field fits the days whose date has that value, an unread field fits every day"
abbrev pub field_fits : Field → ℕ → Bool
field_fits (Known k) value = eqb k value
field_fits Unread value = true

-- the four values that all days of month n share: the name of its civil year, month number, leap mark, name of the month's first day
unfoldable pub month_fits : Reading → ℕ → Bool
month_fits r n =
    field_fits r.year_name (year_name (civil_year_of_month n))
    && field_fits r.month_number (month_number n)
    && field_fits r.leap_mark (mark_number (leap n))
    && field_fits r.first_name (day_name (month_start n))

-- a day's own two values, its month starting on day s: day of month, day name
unfoldable pub day_fits : Reading → ℕ → ℕ → Bool
day_fits r s d = field_fits r.day_of_month (d - s + 1) && field_fits r.day_name (day_name d)

-- a day fits a reading: by its month's values and by its own (Paper, FitsLiterally, says it of the six in the paper's order)
unfoldable pub fits : Reading → ℕ → Bool
fits r d = month_fits r (month_of_day d) && day_fits r (month_start (month_of_day d)) d

-- the days from `from` up to `to` are days of month n
pub record PartOfMonth (n from to : ℕ) : Type 0 where
  pub month : MonthInRange n
  pub low : month_start n ≤ from
  pub some : from ≤ to
  pub high : to ≤ month_start (n + 1)

-- "Ranges are 1 to 60, 1 to 12, the two marks, 1 to 30, 1 to 60, 1 to 60."
abbrev pub field_in_range : Field → ℕ → Bool
field_in_range (Known k) most = within 1 most k
field_in_range Unread most = true

unfoldable pub in_ranges : Reading → Bool
in_ranges r =
    field_in_range r.year_name 60
    && field_in_range r.month_number 12
    && field_in_range r.leap_mark 2
    && field_in_range r.day_of_month 30
    && field_in_range r.day_name 60
    && field_in_range r.first_name 60

-- "The window is a first and last day, both included, at most 27,759 days": how many days it has, and that it is one
abbrev pub window_days : ℕ → ℕ → ℕ
window_days first last = last + 1 - first

abbrev pub window_holds : ℕ → ℕ → Bool
window_holds first last = leb first last && leb (window_days first last) 27759

-- the days of the k from `first` on that fit, in rising order
unfoldable pub fitting : Reading → ℕ → ℕ → List ℕ
fitting r first k = those (fits r) first k
