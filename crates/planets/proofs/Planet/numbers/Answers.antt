-- `planets::Planet::numbers` meets its contract: each planet its own numbers. Assumes nothing.
use mathlib.Core.Path.{ap, sym}
use Rattle.planets.specs.Five.{planet_number}
use Rattle.planets.specs.Planets.{numbers_of}
use Rattle.planets.proofs.Planet.numbers.Goals as goal

pub returns-in-Jupiter : goal.returns-in-Jupiter
unfolding numbers_of
returns-in-Jupiter c = ap (λ p. numbers_of (planet_number p)) (sym c.in-Jupiter.is)

pub returns-in-Mars : goal.returns-in-Mars
unfolding numbers_of
returns-in-Mars c = ap (λ p. numbers_of (planet_number p)) (sym c.in-Mars.is)

pub returns-in-Saturn : goal.returns-in-Saturn
unfolding numbers_of
returns-in-Saturn c = ap (λ p. numbers_of (planet_number p)) (sym c.in-Saturn.is)

pub returns-in-Venus : goal.returns-in-Venus
unfolding numbers_of
returns-in-Venus c = ap (λ p. numbers_of (planet_number p)) (sym c.in-Venus.is)

pub returns-in-Mercury : goal.returns-in-Mercury
unfolding numbers_of
returns-in-Mercury c = ap (λ p. numbers_of (planet_number p)) (sym c.in-Mercury.is)
