-- `planets::Planet::figures` meets its contract: each planet its own figures. Assumes nothing.
use mathlib.Core.Path.{ap, sym}
use Rattle.planets.specs.Five.{planet_number}
use Rattle.planets.specs.Planets.{planet_figures}
use Rattle.planets.proofs.Planet.figures.Goals as goal

pub returns-in-Jupiter : goal.returns-in-Jupiter
unfolding planet_figures
returns-in-Jupiter c = ap (λ p. planet_figures (planet_number p)) (sym c.in-Jupiter.is)

pub returns-in-Mars : goal.returns-in-Mars
unfolding planet_figures
returns-in-Mars c = ap (λ p. planet_figures (planet_number p)) (sym c.in-Mars.is)

pub returns-in-Saturn : goal.returns-in-Saturn
unfolding planet_figures
returns-in-Saturn c = ap (λ p. planet_figures (planet_number p)) (sym c.in-Saturn.is)

pub returns-in-Venus : goal.returns-in-Venus
unfolding planet_figures
returns-in-Venus c = ap (λ p. planet_figures (planet_number p)) (sym c.in-Venus.is)

pub returns-in-Mercury : goal.returns-in-Mercury
unfolding planet_figures
returns-in-Mercury c = ap (λ p. planet_figures (planet_number p)) (sym c.in-Mercury.is)
