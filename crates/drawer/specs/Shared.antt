-- What the days of one month share, for the functions that keep it from one day to the next. Assumes nothing.
use Rattle.std.specs.Prelude.{ℕ, ◌+◌, ◌<◌, ◌≤◌}
use Rattle.rule.specs.Rule.{month_start, month_length, month_of_day}
use Rattle.drawer.specs.declared.Shared.{Shared}

-- before the first day: a month without days
abbrev pub no_month : Shared
no_month = record { start = 0; month_length = 0; at = 0 }

-- what the days of day d's month share, where place p has the date of one of them
abbrev pub shared_at : ℕ → ℕ → Shared
shared_at d p = record { start = month_start (month_of_day d); month_length = month_length (month_of_day d); at = p }

-- what is shared is of no day after the last, and of at most thirty days
abbrev pub IsShared : Shared → Type 0
IsShared s = (s.start + s.month_length ≤ 14989860) × (s.month_length ≤ 30)

-- day d is one of the `count` days from `start` on
abbrev pub Holds : ℕ → ℕ → ℕ → Type 0
Holds start count d = (start ≤ d) × (d < start + count)
