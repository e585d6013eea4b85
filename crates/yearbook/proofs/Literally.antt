-- The months and days of a range of civil years are those whose month's civil year lies in it. Assumes nothing.
use Prim.Native.Nat.{ℕ, ◌+◌, ◌-◌, ◌≤◌, ◌<◌}
use native.Mathlib.Omega.{arith}
use mathlib.Core.Path.{◌≡◌, refl, ap, sym, ◌∙◌}
use mathlib.Core.Logic.{◌↔◌}
use mathlib.Core.Bool.{Bool, true, false, ◌&&◌}
use lib.Dec.{leb}
use lib.ListN.{length}
use borrow.Author.Tests.{le-leb, lt-leb}
use Rattle.rule.specs.Lists.{those}
use Rattle.rule.specs.Rule.{month_start, month_of_day, civil_year_of_month, civil_first_month, InCivilYear}
use Rattle.rule.proofs.Lists.{within}
use Rattle.rule.proofs.Answers.{within-true}
use Rattle.rule.proofs.CivilYears.{civil-least, civil-closed, of-civil}
use Rattle.yearbook.specs.Figures.{months_that, days_that}
use Rattle.yearbook.specs.Paper.{GoodYears, in_years, months_of_years, days_of_years}
use Rattle.yearbook.proofs.Answered.{months-inside, days-inside}

-- a day from a month's start on is in that month or a later one, and one before it in an earlier one
from-month : (n d : ℕ) → month_start n ≤ d → n ≤ month_of_day d
unfolding month_start month_of_day
from-month n d h = omega arith

before-month : (n d : ℕ) → d < month_start n → month_of_day d < n
unfolding month_start month_of_day
before-month n d h = omega arith

-- which months lie in the years
module _ (first last n : ℕ) where
  inside : civil_first_month first ≤ n → n < civil_first_month (last + 1) → in_years first last n ≡ true
  inside low high =
      let a : first ≤ civil_year_of_month n = (civil-least first n).0 low in
      let b : ¬ (last + 1 ≤ civil_year_of_month n) = λ g. let z : civil_first_month (last + 1) ≤ n = (civil-least (last + 1) n).1 g in omega arith in
      rw (le-leb first (civil_year_of_month n) a, le-leb (civil_year_of_month n) last (omega arith))

  before : n < civil_first_month first → in_years first last n ≡ false
  before h =
      let b : ¬ (first ≤ civil_year_of_month n) = λ g. let z : civil_first_month first ≤ n = (civil-least first n).1 g in omega arith in
      rw (lt-leb first (civil_year_of_month n) (omega arith))

  after : civil_first_month (last + 1) ≤ n → in_years first last n ≡ false
  after h =
      let a : last + 1 ≤ civil_year_of_month n = (civil-least (last + 1) n).0 h in
      rw (lt-leb (civil_year_of_month n) last (omega arith)) (none (leb first (civil_year_of_month n)))
    where
      none : (b : Bool) → (b && false) ≡ false
      none true = refl
      none false = refl

module _ (p : ℕ → Bool) (first last : ℕ) (g : GoodYears first last) where
  pub months-literally : months_that p first last ≡ months_of_years p first last
  months-literally =
      sym (
      ap (λ (k : ℕ). length (those (λ n. in_years first last n && p n) 0 k)) {y = f + (e - f) + (507600 - e)} (omega (arith, months-inside first last g))
      ∙ within (in_years first last) p f (e - f) (507600 - e)
      (λ i h. before first last i h)
      (λ i h. inside first last (f + i) (omega arith) (omega arith))
      (λ i h. after first last (f + (e - f) + i) (omega (arith, months-inside first last g)))
      )
    where
      f : ℕ
      f = civil_first_month first

      e : ℕ
      e = civil_first_month (last + 1)

  pub days-literally : days_that p first last ≡ days_of_years p first last
  days-literally =
      sym (
      ap (λ (k : ℕ). length (those (λ d. in_years first last (month_of_day d) && p d) 0 k)) {y = f + (e - f) + (14989860 - e)} (omega (arith, days-inside first last g))
      ∙ within (λ d. in_years first last (month_of_day d)) p f (e - f) (14989860 - e)
      (λ i h. before first last (month_of_day i) (before-month (civil_first_month first) i h))
      (λ i h.
      inside first last (month_of_day (f + i)) (from-month (civil_first_month first) (f + i) (omega arith))
      (before-month (civil_first_month (last + 1)) (f + i) (omega arith)))
      (λ i h.
      after first last (month_of_day (f + (e - f) + i))
      (from-month (civil_first_month (last + 1)) (f + (e - f) + i) (omega (arith, days-inside first last g))))
      )
    where
      f : ℕ
      f = month_start (civil_first_month first)

      e : ℕ
      e = month_start (civil_first_month (last + 1))

-- a month is of the years exactly where it is one of the months of one of them
pub of-years : (first last n : ℕ) → GoodYears first last → (in_years first last n ≡ true) ↔ ((y : ℕ) × (first ≤ y) × (y ≤ last) × InCivilYear y n)
of-years first last n g = (
  λ h.
      let w = (within-true first last (civil_year_of_month n)).0 h in
      (civil_year_of_month n, w.0, w.1, (of-civil (civil_year_of_month n) n).1 (omega (arith, w.1, g.to_the_end, civil-closed n), refl)),
  λ h. (within-true first last (civil_year_of_month n)).1 (omega (arith, h.1, ((of-civil h.0 n).0 h.3).1), omega (arith, h.2, ((of-civil h.0 n).0 h.3).1)),
)
