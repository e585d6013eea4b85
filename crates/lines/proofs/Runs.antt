-- Laws of runs of months: their lines, and those that a civil year lists. Assumes nothing.
use Rattle.std.proofs.Common.{ℕ, ◌≡◌, ◌+◌, ◌≤◌, List, [], refl, ap}
use native.Mathlib.Omega.{arith}
use mathlib.Core.Bool.{true}
use Rattle.rule.specs.Lists.{those}
use Rattle.rule.specs.Counts.{CivilYearInRange}
use Rattle.rule.proofs.CivilYears.{civil-end}
use Rattle.facts.specs.declared.YearFacts.{YearFacts}
use Rattle.facts.specs.Facts.{year_facts}
use Rattle.fields.specs.Fields.{each}

pub each_none : (f : ℕ → List ℕ) (a : ℕ) → each f (those (λ n. true) a 0) ≡ []
unfolding each those
each_none f a = refl

-- a civil year lists months in range, 13 at most
pub months_end : (y : ℕ) (f : YearFacts) → f ≡ year_facts y → CivilYearInRange y → f.first_month + f.months ≤ 507600
unfolding year_facts
months_end y f e h = omega (arith, ap (λ (g : YearFacts). g.first_month) e, ap (λ (g : YearFacts). g.months) e, civil-end y h)

pub thirteen : (y : ℕ) (f : YearFacts) → f ≡ year_facts y → CivilYearInRange y → f.months ≤ 13
unfolding year_facts
thirteen y f e h = omega (arith, ap (λ (g : YearFacts). g.months) e, civil-end y h)

pub ruleset listed = (months_end, thirteen)
