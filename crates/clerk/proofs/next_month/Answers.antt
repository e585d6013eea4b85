-- `clerk::next_month` meets its contract: the parts, each as the definition has it. Assumes nothing.
use native.Mathlib.Omega.{arith}
use mathlib.Core.Path.{refl}
use Rattle.clerk.proofs.Carries.{days-range, stepped-made}
use Rattle.clerk.proofs.next_month.Goals as goal

pub returns : goal.returns
returns c =
    let made = stepped-made c.args.c c.days_on-days.result c.remainder_on-small_remainder.result c.days_on-month_length.result _ in
    made c.ahead_then-ahead.result c.number_then.result c.count_round.result c.carry_parts-eclipse_remainder.result
    c.days_on-days.ensures c.remainder_on-small_remainder.ensures c.days_on-month_length.ensures refl c.ahead_then-ahead.ensures
    c.number_then.ensures c.count_round.ensures c.carry_parts-eclipse_remainder.ensures

pub count_round-requires : goal.count_round-requires
count_round-requires c = omega (arith, c.days_on-days.ensures, days-range c.args.c.small_remainder)
