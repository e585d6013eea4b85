-- What the days of one month share, and the date of a day made from that of another day of its month. Assumes nothing.
use Rattle.std.proofs.Common.{◌≡◌, ℕ, ◌+◌, ◌-◌, ◌<◌, sym, refl, ap, ◌∙◌, subst, arith}
use Rattle.rule.specs.Counts.{DayInRange, day_name}
use Rattle.rule.specs.Rule.{month_start, month_length, month_of_day}
use Rattle.rule.proofs.Months.{of-day-low, of-day-only, of-day-range, start-next, start-end, length-range}
use Rattle.dates.specs.declared.Date.{Date}
use Rattle.dates.specs.Dates.{date_of, date_in}
use Rattle.drawer.specs.declared.Shared.{Shared}
use Rattle.drawer.specs.Shared.{no_month, shared_at, IsShared, Holds}

-- day of month and length of a day's date, by its month
pub its-day : (d : ℕ) → (date_of d).day_of_month ≡ d - month_start (month_of_day d) + 1
unfolding date_of date_in
its-day d = refl

pub its-length : (d : ℕ) → (date_of d).month_length ≡ month_length (month_of_day d)
unfolding date_of date_in
its-length d = refl

-- a date says where its month begins: m is its day of month
pub first : (d m : ℕ) → m ≡ (date_of d).day_of_month → d + 1 - m ≡ month_start (month_of_day d)
first d m p = omega (arith, p ∙ its-day d, of-day-low d)

-- what is kept before place i: if a day lies in it, a record before i has the date of a day of that month
pub record Kept (day : ℕ → ℕ) (i : ℕ) (s : Shared) : Type 0 where
  pub is_shared : IsShared s
  pub known : (d : ℕ) → Holds s.start s.month_length d → (s.at < i) × (s ≡ shared_at (day s.at) s.at)

pub none_kept : (day : ℕ → ℕ) → Kept day 0 no_month
none_kept day = record { is_shared = (omega arith, omega arith); known = λ d h. absurd (let z : d < 0 + 0 = h.1 in omega arith) }

pub still_kept : (day : ℕ → ℕ) (i : ℕ) (s : Shared) → Kept day i s → Kept day (i + 1) s
still_kept day i s k =
    record { is_shared = k.is_shared; known = λ d h. (let l : s.at < i = (k.known d h).0 in omega arith, (k.known d h).1) }

pub now-kept : (day : ℕ → ℕ) (i : ℕ) → DayInRange (day i) → Kept day (i + 1) (shared_at (day i) i)
now-kept day i r =
    record {
      is_shared =
          (omega (arith, start-next (month_of_day (day i)), start-end (month_of_day (day i) + 1) (omega (arith, (of-day-range (day i)).0 r))), (length-range (month_of_day (day i))).1);
      known = λ d h. (omega arith, refl);
    }

-- the date of a day from that of another day of its month: day of month and day name are its own
abbrev pub with_day : Date → ℕ → ℕ → Date
with_day r m name =
    record {
      month = r.month;
      year = r.year;
      day_of_month = m;
      month_length = r.month_length;
      day_name = name;
      year_name = r.year_name;
      ji = r.ji;
      bu = r.bu;
      year_in_bu = r.year_in_bu;
      eclipse = r.eclipse;
    }

-- day d lies in day e's month
module _ (d e : ℕ) (h : Holds (month_start (month_of_day e)) (month_length (month_of_day e)) d) where
  same : month_of_day e ≡ month_of_day d
  same = sym (of-day-only (month_of_day e) d (h.0, omega (arith, h.1, start-next (month_of_day e))))

  other : with_day (date_of e) (d - month_start (month_of_day e) + 1) (day_name d) ≡ date_of d
  unfolding date_of date_in
  other = rw (same)

-- so by what is kept
pub beside : (day : ℕ → ℕ) (i : ℕ) (s : Shared) (d : ℕ) → Kept day i s → Holds s.start s.month_length d →
    with_day (date_of (day s.at)) (d - s.start + 1) (day_name d) ≡ date_of d
beside day i s d k h =
    let e : s ≡ shared_at (day s.at) s.at = (k.known d h).1 in
    ap (λ (t : ℕ). with_day (date_of (day s.at)) (d - t + 1) (day_name d)) (ap (λ (t : Shared). t.start) e)
    ∙ other d (day s.at) (subst (λ (t : Shared). Holds t.start t.month_length d) e h)
