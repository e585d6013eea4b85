-- What dates are computed with at named inputs: on an `unfolding` line this name brings all that its own line names. Assumes nothing.
use Prim.Native.Nat.{ℕ}
use Rattle.rule.proofs.Computing.{rule-computed}
use Rattle.dates.specs.Dates.{date_in, date_of, date_at, named_month, day_in_month, day_of_named, day_of_date}

unfoldable pub dates-computed : ℕ
unfolding date_in date_of date_at named_month day_in_month day_of_named day_of_date rule-computed
dates-computed = 0
