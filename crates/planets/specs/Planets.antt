-- "The five planets" (W11): their numbers, the k-th conjunction, the first on or after a day, for every number; refusals in the
-- paper's order. Assumes nothing.
use Rattle.std.specs.Prelude.{ℕ, ◌+◌, ◌-◌, ◌*◌, ◌/◌, ◌%◌, ◌≤◌, Bool, true, false, cond, [], ◌∷◌, eqb, leb, get_or}
use Rattle.rule.specs.Reasons.{Answer, is, guard, within}
use Rattle.planets.specs.declared.Numbers.{Numbers}
use Rattle.planets.specs.declared.PlanetFigures.{PlanetFigures}
use Rattle.planets.specs.declared.Phase.{Phase}
use Rattle.planets.specs.declared.Phase.TheVariants.{Morning, Evening, Neither}
use Rattle.planets.specs.declared.Conjunction.{Conjunction}
use Rattle.planets.specs.declared.Next.{Next}
use Rattle.planets.specs.declared.Pair.{Pair}

-- "a planet", 1 to 5
abbrev pub Planet : ℕ → Type 0
Planet p = (1 ≤ p) × (p ≤ 5)

-- "004 gives conjunctions per years": so many conjunctions in so many years, evening and morning ones by turns or neither
abbrev numbers : ℕ → ℕ → Bool → Numbers
numbers c y t = record { conjunctions = c; years = y; by_turns = t }

abbrev jupiter : Numbers
jupiter = numbers 4327 4725 false

abbrev mars : Numbers
mars = numbers 879 1876 false

abbrev saturn : Numbers
saturn = numbers 9096 9415 false

abbrev venus : Numbers
venus = numbers 5830 4661 true

abbrev mercury : Numbers
mercury = numbers 11908 1889 true

-- the planets in the request's order, 1 to 5
unfoldable pub numbers_of : ℕ → Numbers
numbers_of p = get_or (jupiter ∷ mars ∷ saturn ∷ venus ∷ mercury ∷ []) (p - 1) jupiter

-- the parts of a day: "four times the conjunctions"
abbrev pub divisor : Numbers → ℕ
divisor n = 4 * n.conjunctions

-- the same parts from one conjunction to the next: the years times 1,461
abbrev pub step : Numbers → ℕ
step n = 1461 * n.years

-- "The k-th falls k times the years, times 1,461, divided by four times the conjunctions; k starts at 0": the whole part is its day
unfoldable pub conjunction_day : Numbers → ℕ → ℕ
conjunction_day n k = k * n.years * 1461 / divisor n

-- the rest, in parts of the divisor
unfoldable pub conjunction_parts : Numbers → ℕ → ℕ
conjunction_parts n k = k * n.years * 1461 % divisor n

-- "For Venus and Mercury an odd count is a morning conjunction, an even one an evening one" (Paper, MorningOrEvening)
unfoldable pub phase : Numbers → ℕ → Phase
phase n k = cond n.by_turns (cond (eqb (k % 2) 1) Morning Evening) Neither

-- 1 a morning conjunction, 2 an evening one, 0 neither
abbrev pub phase_number : Phase → ℕ
phase_number Morning = 1
phase_number Evening = 2
phase_number Neither = 0

unfoldable pub conjunction_of : Numbers → ℕ → Conjunction
conjunction_of n k = record { day = conjunction_day n k; parts = conjunction_parts n k; divisor = divisor n; phase = phase n k }

-- the k-th conjunction of planet p: "a planet outside 1 to 5 is 19, then 6 for .. a k whose conjunction falls outside it"
unfoldable pub conjunction_at : ℕ → ℕ → Answer Conjunction
conjunction_at p k =
    guard (within 1 5 p) 19 (guard (leb (conjunction_day (numbers_of p) k) 14989859) 6 (is (conjunction_of (numbers_of p) k)))

-- the count of the first conjunction on or after day d: the least k whose day is not before it (Paper, FirstOnOrAfter)
unfoldable pub next_count : Numbers → ℕ → ℕ
next_count n d = (d * divisor n + (step n - 1)) / step n

unfoldable pub next_of : Numbers → ℕ → Next
next_of n k = record { k = k; conjunction = conjunction_of n k }

-- that conjunction: 19, then 6 "for a given day out of range", and "20, last, means that no conjunction falls from the given day to
-- the end of the range"
unfoldable pub next_at : ℕ → ℕ → Answer Next
next_at p d =
    guard (within 1 5 p) 19
    (guard (leb d 14989859) 6
    (guard (leb (conjunction_day (numbers_of p) (next_count (numbers_of p) d)) 14989859) 20
    (is (next_of (numbers_of p) (next_count (numbers_of p) d)))))

-- one conjunction's days as 004 works them out, "398 days and 14,641 parts of 17,308"
abbrev pub figures : ℕ → ℕ → ℕ → PlanetFigures
figures d r s = record { days = d; parts = r; divisor = s }

unfoldable pub planet_figures : ℕ → PlanetFigures
planet_figures p =
    get_or
    (figures 398 14641 17308 ∷ figures 779 1872 3516 ∷ figures 378 2163 36384 ∷ figures 292 281 23320 ∷ figures 57 44805 47632 ∷ [])
    (p - 1) (figures 398 14641 17308)

-- the two long counts, "four times one conjunction's parts, 1,461 times the divisor"
abbrev pub long_days : PlanetFigures → ℕ
long_days f = 4 * (f.days * f.divisor + f.parts)

abbrev pub long_circle : PlanetFigures → ℕ
long_circle f = 1461 * f.divisor

-- the pair that is printed (Paper, Reduction: what the two long counts are reduced to is this)
abbrev pub pair_of : Numbers → Pair
pair_of n = record { years = n.years; conjunctions = n.conjunctions }

-- the printed pair of planet p, or 19 (Paper, Reduction: the call's answer)
unfoldable pub pair_at : ℕ → Answer Pair
pair_at p = guard (within 1 5 p) 19 (is (pair_of (numbers_of p)))
