-- `rule::months_in_civil_year` meets its contract: up to the next year's first month, or up to the end of the range. Assumes nothing.
use Rattle.std.proofs.Common.{ℕ, ◌+◌, ◌≤◌, arith}
use Rattle.rule.specs.Rule.{civil_first_month, months_in_civil_year}
use Rattle.rule.proofs.months_in_civil_year.Goals as goal

rises : (y : ℕ) → y ≤ 41040 → (civil_first_month y ≤ civil_first_month (y + 1)) × (civil_first_month (y + 1) ≤ civil_first_month y + 13) × (civil_first_month y ≤ 507600)
unfolding civil_first_month
rises y h = (omega arith, omega arith, omega arith)

pub returns-then-next-lt507600 : goal.returns-then-next-lt507600
unfolding months_in_civil_year
returns-then-next-lt507600 c = omega (arith, c.civil_first_month-first.ensures, c.civil_first_month-next.ensures)

pub returns-else-next-lt507600 : goal.returns-else-next-lt507600
unfolding months_in_civil_year
returns-else-next-lt507600 c = omega (arith, c.civil_first_month-first.ensures, c.civil_first_month-next.ensures)

pub overflow_sub-result : goal.overflow_sub-result
overflow_sub-result c = omega (arith, rises c.args.year c.requires)

pub overflow_cast-result : goal.overflow_cast-result
overflow_cast-result c = omega (arith, rises c.args.year c.requires)

pub overflow_sub-result-else-next-lt507600 : goal.overflow_sub-result-else-next-lt507600
overflow_sub-result-else-next-lt507600 c = omega (arith, rises c.args.year c.requires)

pub overflow_cast-result-else-next-lt507600 : goal.overflow_cast-result-else-next-lt507600
overflow_cast-result-else-next-lt507600 c = omega (arith, rises c.args.year c.requires)
