-- What conjunctions are computed with at named inputs: on an `unfolding` line this name brings all that its own line names.
-- Assumes nothing.
use Prim.Native.Nat.{ℕ}
use Rattle.planets.specs.Planets.{
  numbers_of,
  conjunction_day,
  conjunction_parts,
  phase,
  conjunction_of,
  conjunction_at,
  next_count,
  next_of,
  next_at,
  pair_at,
}

unfoldable pub planets-computed : ℕ
unfolding numbers_of conjunction_day conjunction_parts phase conjunction_of conjunction_at next_count next_of next_at pair_at
planets-computed = 0
