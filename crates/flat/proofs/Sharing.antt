-- A date laid flat, from that of another day of its month. Assumes nothing.
use Prim.Native.Nat.{ℕ, ◌+◌, ◌-◌}
use mathlib.Core.Path.{◌≡◌, ap, sym, ◌∙◌}
use Rattle.rule.specs.Counts.{DayInRange, day_name}
use Rattle.dates.specs.Dates.{date_of}
use Rattle.dates.proofs.Days.{a-day}
use Rattle.drawer.specs.declared.Shared.{Shared}
use Rattle.drawer.specs.Shared.{Holds}
use Rattle.drawer.proofs.Sharing.{Kept, beside}
use Rattle.offered.specs.declared.CDate.{CDate}
use Rattle.offered.specs.Flat.{given_date, flat_date}
use Rattle.offered.specs.Promises.{c_date_at}

-- a day in range has a date
pub at-its-date : (d : ℕ) → DayInRange d → given_date (date_of d) ≡ c_date_at d
at-its-date d h = ap flat_date (sym (a-day d h))

-- a date laid flat, with another day of month and day name
abbrev pub flat_with_day : CDate → ℕ → ℕ → CDate
flat_with_day r m name =
    record {
      reason = r.reason;
      year = r.year;
      number = r.number;
      leap = r.leap;
      day_of_month = m;
      month_length = r.month_length;
      day_name = name;
      year_name = r.year_name;
      ji = r.ji;
      bu = r.bu;
      year_in_bu = r.year_in_bu;
      eclipse = r.eclipse;
    }

-- the date of a day laid flat, from that of another day of its month
pub flat-beside : (day : ℕ → ℕ) (i : ℕ) (s : Shared) (d : ℕ) → Kept day i s → DayInRange (day s.at) → DayInRange d →
    Holds s.start s.month_length d → flat_with_day (c_date_at (day s.at)) (d - s.start + 1) (day_name d) ≡ c_date_at d
flat-beside day i s d k r q h =
    ap (λ (x : CDate). flat_with_day x (d - s.start + 1) (day_name d)) (sym (at-its-date (day s.at) r))
    ∙ ap given_date (beside day i s d k h)
    ∙ at-its-date d q
