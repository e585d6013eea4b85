-- Tests put together, over plain values, for the functions that make them. Assumes nothing.
use Prim.Native.Nat.{ℕ, ◌+◌, ◌-◌}
use mathlib.Core.Path.{◌≡◌, ap, ap₂, ◌∙◌}
use mathlib.Core.Bool.{Bool, true, false, ◌&&◌}
use Rattle.rule.specs.Counts.{day_name, year_name}
use Rattle.rule.specs.Rule.{month_start, civil_year_of_month, leap, month_number}
use Rattle.reading.specs.declared.Reading.{Reading}
use Rattle.reading.specs.Readings.{mark_number, field_fits, field_in_range, in_ranges, month_fits, day_fits}

pub day-made : (r : Reading) (s d : ℕ) {k : ℕ} {a b : Bool} →
    a ≡ field_fits r.day_of_month (d - s + 1) → b ≡ field_fits r.day_name k → k ≡ day_name d → (a && b) ≡ day_fits r s d
unfolding day_fits
day-made r s d e f g = ap₂ ◌&&◌ e (f ∙ ap (field_fits r.day_name) g)

-- a month's four values in the order in which they are looked at: the first that does not fit decides, and else the last does
module _ (r : Reading) (n : ℕ) where
  pub year-name-fails : field_fits r.year_name (year_name (civil_year_of_month n)) ≡ false → month_fits r n ≡ false
  unfolding month_fits
  year-name-fails a = rw a

  module _ (a : field_fits r.year_name (year_name (civil_year_of_month n)) ≡ true) where
    pub number-fails : field_fits r.month_number (month_number n) ≡ false → month_fits r n ≡ false
    unfolding month_fits
    number-fails b = rw (a, b)

    module _ (b : field_fits r.month_number (month_number n) ≡ true) where
      pub mark-fails : field_fits r.leap_mark (mark_number (leap n)) ≡ false → month_fits r n ≡ false
      unfolding month_fits
      mark-fails c = rw (a, b, c)

      pub first-name-decides : field_fits r.leap_mark (mark_number (leap n)) ≡ true → month_fits r n ≡ field_fits r.first_name (day_name (month_start n))
      unfolding month_fits
      first-name-decides c = rw (a, b, c)

pub ranges-made : (r : Reading) {a b c d e f : Bool} →
    a ≡ field_in_range r.year_name 60 → b ≡ field_in_range r.month_number 12 → c ≡ field_in_range r.leap_mark 2 →
    d ≡ field_in_range r.day_of_month 30 → e ≡ field_in_range r.day_name 60 → f ≡ field_in_range r.first_name 60 →
    (a && b && c && d && e && f) ≡ in_ranges r
unfolding in_ranges
ranges-made r p q s t u v = ap₂ ◌&&◌ (ap₂ ◌&&◌ (ap₂ ◌&&◌ (ap₂ ◌&&◌ (ap₂ ◌&&◌ p q) s) t) u) v
