-- `facts::year_facts_at` meets its contract: the parts, each as the rule has it. Assumes nothing.
use Prim.Native.Nat.{ℕ}
use native.Mathlib.Omega.{arith}
use mathlib.Core.Path.{◌≡◌, ap₂, ◌∙◌}
use Rattle.rule.specs.Lists.{those}
use Rattle.rule.specs.Rule.{leap}
use Rattle.rule.proofs.CivilYears.{civil-end}
use Rattle.facts.specs.Facts.{first_of, leap_month}
use Rattle.facts.proofs.Made.{year-made}
use Rattle.facts.proofs.year_facts_at.Goals as goal

pub leap_among-leap_month-requires : goal.leap_among-leap_month-requires
leap_among-leap_month-requires c = omega (arith, civil-end c.args.year c.requires)

pub returns : goal.returns
unfolding leap_month
returns c =
    let its-leap : c.leap_among-leap_month.result ≡ leap_month c.args.year =
    c.leap_among-leap_month.ensures
    ∙ ap₂ (λ (f m : ℕ). first_of (those leap f m)) c.civil_first_month-first.ensures c.months_in_civil_year-months.ensures in
    year-made c.args.year c.year_name.ensures c.civil_first_month-first.ensures c.months_in_civil_year-months.ensures (its-leap)
