-- `planets::Numbers::conjunction` meets its contract: day, parts, divisor and phase as the definitions have them. Assumes nothing.
use mathlib.Core.Path.{refl}
use Rattle.planets.specs.Planets.{conjunction_parts, conjunction_of}
use Rattle.planets.proofs.Numbers.conjunction.Goals as goal

pub returns : goal.returns
unfolding conjunction_of conjunction_parts
returns c = rw (c.conjunction_day.ensures, c.phase.ensures) refl
