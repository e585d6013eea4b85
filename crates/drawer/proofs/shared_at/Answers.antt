-- `drawer::shared_at` meets its contract: a date says where its month begins. Assumes nothing.
use Rattle.std.proofs.Common.{ℕ, ap, ◌∙◌, ap₂, arith}
use Rattle.dates.specs.declared.Date.{Date}
use Rattle.drawer.specs.declared.Shared.{Shared}
use Rattle.drawer.proofs.Sharing.{its-day, its-length, first}
use Rattle.drawer.proofs.shared_at.Goals as goal

abbrev shared : ℕ → ℕ → ℕ → Shared
shared p s l = record { start = s; month_length = l; at = p }

pub overflow_sub-result : goal.overflow_sub-result
overflow_sub-result c = omega (arith, ap (λ (r : Date). r.day_of_month) c.requires.1 ∙ its-day c.args.day)

pub returns : goal.returns
returns c =
    let d = c.args.day in
    let e = c.requires.1 in
    ap₂ (shared c.args.at)
    (first d _ (ap (λ (r : Date). r.day_of_month) e)) (ap (λ (r : Date). r.month_length) e ∙ its-length d)
