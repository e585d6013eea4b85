-- `planets::Numbers::conjunction_day` meets its contract: the formula itself. Assumes nothing.
use mathlib.Core.Path.{refl}
use Rattle.planets.specs.Planets.{conjunction_day}
use Rattle.planets.proofs.Numbers.conjunction_day.Goals as goal

pub returns : goal.returns
unfolding conjunction_day
returns c = refl
