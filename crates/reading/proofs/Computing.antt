-- What a search is computed with at named inputs: on an `unfolding` line this name brings all that its own line names. Assumes nothing.
use Prim.Native.Nat.{ℕ}
use Rattle.dates.proofs.Computing.{dates-computed}
use Rattle.reading.specs.Readings.{month_fits, day_fits, fits, in_ranges, fitting}
use Rattle.reading.specs.Search.{total, search_at}

unfoldable pub searches-computed : ℕ
unfolding month_fits day_fits fits in_ranges fitting total search_at dates-computed
searches-computed = 0
