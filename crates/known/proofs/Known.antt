-- The known dates hold: antt computes every row. Assumes nothing.
use mathlib.Core.Path.{refl}
use Rattle.moves.specs.Moves.{moved}
use Rattle.known.specs.Known.{cases, KnownDates}
use Rattle.dates.proofs.Computing.{dates-computed}
use Rattle.facts.proofs.Computing.{facts-computed}

pub known-dates : KnownDates
unfolding cases moved dates-computed facts-computed
known-dates = refl
