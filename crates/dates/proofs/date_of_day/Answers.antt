-- `dates::date_of_day` meets its contract: the date of a day in range, else reason 6. Assumes nothing.
use native.Mathlib.Omega.{arith}
use mathlib.Core.Path.{ap, sym, ◌∙◌}
use Rattle.rule.specs.Reasons.{is}
use Prim.Native.Nat.{ℕ}
use Rattle.dates.specs.Dates.{date_of}
use Rattle.dates.proofs.Days.{no-day, a-day}
use Rattle.dates.proofs.date_of_day.Goals as goal

pub returns : goal.returns
returns c =
    let day = c.args.day in
    ap is c.date_at.ensures ∙ ap (λ (d : ℕ). is (date_of d)) {y = day} (omega arith) ∙ sym (a-day day (omega arith))

pub returns-then-day-gt14989859 : goal.returns-then-day-gt14989859
returns-then-day-gt14989859 c = sym (no-day c.args.day (omega (arith, c.if-day-gt14989859.true)))
