-- `planets::Numbers::next_count` meets its contract: the formula itself. Assumes nothing.
use mathlib.Core.Path.{refl}
use Rattle.planets.specs.Planets.{next_count}
use Rattle.planets.proofs.Numbers.next_count.Goals as goal

pub returns : goal.returns
unfolding next_count
returns c = refl
