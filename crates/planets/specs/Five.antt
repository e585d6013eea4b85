-- The five planets by name, and the number of each. Assumes nothing.
use Rattle.std.specs.Prelude.{Result, Ok, Err, ℕ, ◌≡◌, false}
use Rattle.rule.specs.declared.Reason.{Reason}
use Rattle.rule.specs.Reasons.{within}
use Rattle.rule.specs.declared.Reason.TheVariants.{NoSuchPlanet}
use Rattle.planets.specs.declared.Planet.{Planet}
use Rattle.planets.specs.declared.Planet.TheVariants.{Jupiter, Mars, Saturn, Venus, Mercury}

-- "in the request's order, 1 to 5"
abbrev pub planet_number : Planet → ℕ
planet_number Jupiter = 1
planet_number Mars = 2
planet_number Saturn = 3
planet_number Venus = 4
planet_number Mercury = 5

-- the planet of a number, or 19
abbrev pub IsPlanetOf : ℕ → Result Planet Reason → Type 0
IsPlanetOf n (Ok p) = planet_number p ≡ n
IsPlanetOf n (Err why) = (within 1 5 n ≡ false) × (why ≡ NoSuchPlanet)
