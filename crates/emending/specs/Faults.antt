-- "Emending a misread slip" (W10): what a reading disagrees in with a day, and the emendations of a window. Assumes nothing.
use Rattle.std.specs.Prelude.{ℕ, zero, suc, ◌+◌, ◌-◌, min, ◌≡◌, Bool, true, false, cond, List, [], ◌∷◌, ◌++◌}
use Rattle.rule.specs.Counts.{day_name, year_name}
use Rattle.rule.specs.Lists.{those}
use Rattle.rule.specs.Rule.{month_start, month_of_day, civil_year_of_month, leap, month_number}
use Rattle.reading.specs.declared.Field.{Field}
use Rattle.reading.specs.declared.Field.TheVariants.{Known, Unread}
use Rattle.reading.specs.declared.Reading.{Reading}
use Rattle.reading.specs.Readings.{mark_number, field_fits}
use Rattle.emending.specs.declared.Place.{Place}
use Rattle.emending.specs.declared.Place.TheVariants.{YearName, MonthNumber, LeapMark, DayOfMonth, DayName, FirstName}
use Rattle.emending.specs.declared.Fault.{Fault}
use Rattle.emending.specs.declared.Fault.TheVariants.{Without, One, More}

-- the six fields, "1 to 6 in the reading's order"
abbrev pub place_number : Place → ℕ
place_number YearName = 1
place_number MonthNumber = 2
place_number LeapMark = 3
place_number DayOfMonth = 4
place_number DayName = 5
place_number FirstName = 6

-- what was read in a known field
abbrev pub read_in : Field → ℕ
read_in (Known k) = k
read_in Unread = 0

-- "which field, what was read and what it should be": the field at i, where it does not fit a value
abbrev pub fault_in : Place → Field → ℕ → Fault
fault_in i f value = cond (field_fits f value) Without (One i (read_in f) value)

-- the faults of two parts together
abbrev pub together : Fault → Fault → Fault
together Without b = b
together (One i k v) Without = One i k v
together (One i k v) (One j l w) = More
together (One i k v) More = More
together More b = More

-- more than one field
abbrev pub is_more : Fault → Bool
is_more Without = false
is_more (One i k v) = false
is_more More = true

-- by the four values that all days of month n share, its two names, fields 1 and 6, and its number and mark, 2 and 3; and by a day's own two,
-- 4 and 5, its month starting on day s
unfoldable pub name_fault : Reading → ℕ → Fault
name_fault r n = together (fault_in YearName r.year_name (year_name (civil_year_of_month n))) (fault_in FirstName r.first_name (day_name (month_start n)))

unfoldable pub number_fault : Reading → ℕ → Fault
number_fault r n = together (fault_in MonthNumber r.month_number (month_number n)) (fault_in LeapMark r.leap_mark (mark_number (leap n)))

unfoldable pub month_fault : Reading → ℕ → Fault
month_fault r n = together (name_fault r n) (number_fault r n)

unfoldable pub day_fault : Reading → ℕ → ℕ → Fault
day_fault r s d = together (fault_in DayOfMonth r.day_of_month (d - s + 1)) (fault_in DayName r.day_name (day_name d))

-- what a reading disagrees in with day d: in nothing, in one known field, or in more (Paper, FaultsLiterally, says the second of the six)
unfoldable pub fault : Reading → ℕ → Fault
fault r d = together (month_fault r (month_of_day d)) (day_fault r (month_start (month_of_day d)) d)

-- "every day that disagrees with exactly one known field"
abbrev pub is_one : Fault → Bool
is_one Without = false
is_one (One i k v) = true
is_one More = false

-- an emendation in four numbers: day, field, what was read, what it should be
abbrev pub laid_out : ℕ → Fault → List ℕ
laid_out d Without = []
laid_out d (One i k v) = d ∷ place_number i ∷ k ∷ v ∷ []
laid_out d More = []

-- of the k days from a on, what f gives for each, one after the other
unfoldable pub gathered : (ℕ → List ℕ) → ℕ → ℕ → List ℕ
gathered f a zero = []
gathered f a (suc k) = gathered f a k ++ f (a + k)

-- those of the k days from a on, all days of a month that starts on day s and whose own fault is m
unfoldable pub days_out : Reading → Fault → ℕ → ℕ → ℕ → List ℕ
days_out r m s a k = gathered (λ d. laid_out d (together m (day_fault r s d))) a k

-- the emendations of the k days from `first` on, in day order
unfoldable pub emendations : Reading → ℕ → ℕ → List ℕ
emendations r first k = gathered (λ d. laid_out d (fault r d)) first k

-- no emendation from the start of month n up to that of month m, as far as `end`
abbrev pub NoneBetween : Reading → ℕ → ℕ → ℕ → Type 0
NoneBetween r end n m = emendations r (min (month_start n) end) (min (month_start m) end - min (month_start n) end) ≡ []

-- the days that disagree in exactly one known field, in day order
unfoldable pub emendable : Reading → ℕ → ℕ → List ℕ
emendable r first k = those (λ d. is_one (fault r d)) first k
