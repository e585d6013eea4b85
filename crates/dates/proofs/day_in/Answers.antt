-- `dates::day_in` meets its contract: reason 5 for day 30 where the month has 29, else the day. Assumes nothing.
use Prim.Native.Nat.{ℕ, ◌+◌, ◌-◌}
use mathlib.Core.Path.{ap, sym, ◌∙◌}
use Rattle.rule.specs.Reasons.{is}
use Rattle.dates.proofs.Days.{thirtieth, in-month, no-thirtieth, has-day}
use Rattle.dates.proofs.day_in.Goals as goal

pub returns-then-small-thirtieth : goal.returns-then-small-thirtieth
returns-then-small-thirtieth c = λ n e f. sym (thirtieth n _ (no-thirtieth n _ _ f c.if-small-thirtieth.true))

pub returns : goal.returns
returns c =
    λ n e f.
    let a = c.args in
    ap (λ (s : ℕ). is (s + (a.day_of_month - 1))) e
    ∙ sym (in-month n a.day_of_month (has-day n _ _ f c.requires.1.1 c.if-small-thirtieth.false))
