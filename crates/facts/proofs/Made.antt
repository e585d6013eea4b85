-- Records made of their parts, over plain values, for the functions that make them. Assumes nothing.
use Rattle.std.specs.Prelude.{Option}
use Prim.Native.Nat.{ℕ, ◌≤◌}
use native.Mathlib.Omega.{arith}
use mathlib.Core.Path.{◌≡◌, ap, ◌∙◌}
use mathlib.Core.Bool.{Bool}
use Rattle.rule.specs.Counts.{day_name, year_name, ji, bu, year_in_bu, head_name}
use Rattle.rule.specs.Rule.{
  month_start,
  small_remainder,
  month_length,
  quarter_day,
  quarter_parts,
  term_day,
  term_parts,
  year_term,
  solstice_first_month,
  leap_remainder,
  months_in_solstice_year,
  civil_first_month,
  months_in_civil_year,
  month_at,
}
use Rattle.rule.specs.Rule as Rule
use Rattle.rule.specs.declared.Month.{Month}
use Rattle.rule.specs.declared.Quarter.{Quarter}
use Rattle.rule.specs.declared.Term.{Term}
use Rattle.rule.proofs.Counts.{place}
use Rattle.facts.specs.declared.LeapMonth.{LeapMonth}
use Rattle.facts.specs.Facts.{solstice_year, leap_month, year_facts, month_facts, quarter_of, term_of}

pub bu-range : (y b : ℕ) → b ≡ bu y → (1 ≤ b) × (b ≤ 20)
bu-range y b e = omega (arith, (place y).bu-range)

pub solstice-year-made : (y : ℕ) {j b i h f l m : ℕ} →
    j ≡ ji y → b ≡ bu y → i ≡ year_in_bu y → h ≡ head_name b → f ≡ solstice_first_month y → l ≡ leap_remainder y → m ≡ months_in_solstice_year y →
    record { ji = j; bu = b; year_in_bu = i; head_name = h; first_month = f; leap_remainder = l; months = m } ≡ solstice_year y
unfolding solstice_year
solstice-year-made y p q r s t u v = cc

pub year-made : (y : ℕ) {n f m : ℕ} {l : Option LeapMonth} → n ≡ year_name y → f ≡ civil_first_month y → m ≡ months_in_civil_year y → l ≡ leap_month y →
    record { name = n; first_month = f; months = m; leap_month = l } ≡ year_facts y
unfolding year_facts
year-made y p q r s = cc

pub month-made : (n : ℕ) {d r l k : ℕ} {m : Month} {e : Bool} →
    m ≡ month_at n → d ≡ month_start n → r ≡ small_remainder n → l ≡ month_length n → k ≡ day_name d → e ≡ Rule.eclipse n →
    record { month = m; first_day = d; small_remainder = r; month_length = l; first_name = k; eclipse = e } ≡ month_facts n
unfolding month_facts
month-made n p q s t u v = cc

pub quarter-made : (n q : ℕ) (r : Quarter) → (r.day ≡ quarter_day n q) × (r.parts ≡ quarter_parts n q) → r ≡ quarter_of n q
unfolding quarter_of
quarter-made n q r e = λ i. record { day = e.0 i; parts = e.1 i }

pub term_made : (y k t : ℕ) (r : Term) → t ≡ year_term y k → (r.day ≡ term_day t) × (r.parts ≡ term_parts t) → r ≡ term_of y k
unfolding term_of
term_made y k t r g e = λ i. record { day = (e.0 ∙ ap term_day g) i; parts = (e.1 ∙ ap term_parts g) i }
