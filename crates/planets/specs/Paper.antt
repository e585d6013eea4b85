-- What request W11 says of the five planets, as statements. proofs/Paper.antt proves each under the same name in small letters.
-- Assumes nothing.
use Rattle.std.specs.Prelude.{Result, Ok, Err, ℕ, zero, suc, ◌+◌, ◌*◌, ◌%◌, ◌≤◌, ◌<◌, ◌≡◌, ◌↔◌, ◌⊎◌}
use Rattle.rule.specs.Counts.{DayInRange}
use Rattle.rule.specs.declared.Reason.TheVariants.{NoSuchDay, NoSuchPlanet, NoConjunctionLeft}
use Rattle.rule.specs.declared.Reason.{Reason}
use Rattle.planets.specs.declared.Numbers.{Numbers}
use Rattle.planets.specs.declared.Pair.{Pair}
use Rattle.planets.specs.declared.Conjunction.{Conjunction}
use Rattle.planets.specs.declared.Next.{Next}
use Rattle.planets.specs.declared.Phase.{Phase}
use Rattle.planets.specs.declared.Phase.TheVariants.{Morning, Evening, Neither}
use Rattle.planets.specs.Planets.{
  Planet,
  numbers_of,
  divisor,
  conjunction_day,
  conjunction_parts,
  phase,
  next_count,
  figures,
  planet_figures,
  long_days,
  long_circle,
  pair_of,
}
use Rattle.planets.specs.Divisors.{CommonDivisor, Remainders}
use Rattle.planets.specs.Promises.{KthConjunction, NextConjunction, ReducedPair}

-- what the statements ask of a planet's numbers, and all that they ask: there are conjunctions, and they are a day or more apart
pub record Good (n : Numbers) : Type 0 where
  pub some : 0 < n.conjunctions
  pub apart : divisor n ≤ 1461 * n.years

-- the five are so
abbrev pub GoodPlanets : Type 0
GoodPlanets = (p : ℕ) → Planet p → Good (numbers_of p)

-- "The k-th falls k times the years, times 1,461, divided by four times the conjunctions": day d and r parts are that moment
pub record Moment (n : Numbers) (k d r : ℕ) : Type 0 where
  pub moment : d * (4 * n.conjunctions) + r ≡ k * n.years * 1461
  pub rest : r < 4 * n.conjunctions

-- the day and the parts that are defined are it, no others are
abbrev pub KthMoment : Type 0
KthMoment = (n : Numbers) → Good n → (k d r : ℕ) → Moment n k d r ↔ ((d ≡ conjunction_day n k) × (r ≡ conjunction_parts n k))

-- "conjunctions per years": in four times its years, which are 1,461 days for each of them, a planet has four times its conjunctions
pub record ComesRound (n : Numbers) (k : ℕ) : Type 0 where
  pub day : conjunction_day n (k + divisor n) ≡ conjunction_day n k + 1461 * n.years
  pub parts : conjunction_parts n (k + divisor n) ≡ conjunction_parts n k

abbrev pub ConjunctionsPerYears : Type 0
ConjunctionsPerYears = (n : Numbers) → Good n → (k : ℕ) → ComesRound n k

-- the first conjunction on or after day d is the least k whose day is not before it: there is no other such k, and none lies between
abbrev pub LeastFrom : Numbers → ℕ → ℕ → Type 0
LeastFrom n d k = (d ≤ conjunction_day n k) × ((j : ℕ) → j < k → conjunction_day n j < d)

abbrev pub FirstOnOrAfter : Type 0
FirstOnOrAfter = (n : Numbers) → Good n → (d k : ℕ) → (k ≡ next_count n d) ↔ LeastFrom n d k

-- "For Venus and Mercury an odd count is a morning conjunction, an even one an evening one"; k = 0 is an evening one. The other three
-- have neither.
pub record MorningOrEvening (p k : ℕ) (f : Phase) : Type 0 where
  pub odd : (p ≡ 4) ⊎ (p ≡ 5) → k % 2 ≡ 1 → f ≡ Morning
  pub even : (p ≡ 4) ⊎ (p ≡ 5) → k % 2 ≡ 0 → f ≡ Evening
  pub neither : p ≤ 3 → f ≡ Neither

-- what the k-th conjunction of planet p holds: its day and remainder, of how many parts, morning or evening
pub record IsConjunction (p k : ℕ) (c : Conjunction) : Type 0 where
  pub moment : Moment (numbers_of p) k c.day c.parts
  pub divisor : c.divisor ≡ 4 * (numbers_of p).conjunctions
  pub phase : MorningOrEvening p k c.phase

-- how many of the conjunctions before the k-th are morning ones
abbrev pub morning : Phase → ℕ
morning Morning = 1
morning Evening = 0
morning Neither = 0

unfoldable pub mornings : Numbers → ℕ → ℕ
mornings n zero = 0
mornings n (suc k) = mornings n k + morning (phase n k)

-- half of them are: in its years Venus has 2,915 and Mercury 5,954, as 004 counts them (P89, P109)
pub record HalfAreMornings : Type 0 where
  pub half : (p m : ℕ) → (p ≡ 4) ⊎ (p ≡ 5) → mornings (numbers_of p) (2 * m) ≡ m
  pub venus : mornings (numbers_of 4) (numbers_of 4).conjunctions ≡ 2915
  pub mercury : mornings (numbers_of 5) (numbers_of 5).conjunctions ≡ 5954

-- "Refusals: a planet outside 1 to 5 is 19, then 6 for .. a k whose conjunction falls outside it, however large"
pub record ConjunctionReasons (p k : ℕ) : Type 0 where
  pub given : (c : Conjunction) → KthConjunction p k (Ok c) ↔ (Planet p × DayInRange c.day × IsConjunction p k c)
  pub nineteen : KthConjunction p k (Err NoSuchPlanet) ↔ (Planet p → ⊥)
  pub six : KthConjunction p k (Err NoSuchDay) ↔ (Planet p × (DayInRange (conjunction_day (numbers_of p) k) → ⊥))
  pub only : (why : Reason) → KthConjunction p k (Err why) → (why ≡ NoSuchPlanet) ⊎ (why ≡ NoSuchDay)

-- what the first conjunction on or after day d holds: the least count, and the conjunction of that count, which is in range
pub record IsNext (p d : ℕ) (n : Next) : Type 0 where
  pub least : LeastFrom (numbers_of p) d n.k
  pub conjunction : IsConjunction p n.k n.conjunction
  pub in-range : DayInRange n.conjunction.day

-- no conjunction of planet p falls from day d to the end of the range: those that the other call gives fall before it
abbrev pub NoneLeft : ℕ → ℕ → Type 0
NoneLeft p d = (k : ℕ) (c : Conjunction) → KthConjunction p k (Ok c) → c.day < d

-- 19, "then 6 for a given day out of range ..; 20, last, means that no conjunction falls from the given day to the end of the range"
pub record NextReasons (p d : ℕ) : Type 0 where
  pub given : (n : Next) → NextConjunction p d (Ok n) ↔ (Planet p × DayInRange d × IsNext p d n)
  pub nineteen : NextConjunction p d (Err NoSuchPlanet) ↔ (Planet p → ⊥)
  pub six : NextConjunction p d (Err NoSuchDay) ↔ (Planet p × (DayInRange d → ⊥))
  pub twenty : NextConjunction p d (Err NoConjunctionLeft) ↔ (Planet p × DayInRange d × NoneLeft p d)
  pub only :
      (why : Reason) → NextConjunction p d (Err why) →
      (why ≡ NoSuchPlanet) ⊎ ((why ≡ NoSuchDay) ⊎ (why ≡ NoConjunctionLeft))

-- the one that is found is what the other call gives for its count, and it is not before the day
abbrev pub NextIsAConjunction : Type 0
NextIsAConjunction =
    (p d : ℕ) (n : Next) → NextConjunction p d (Ok n) →
    KthConjunction p n.k (Ok n.conjunction) × (d ≤ n.conjunction.day)

pub record ReasonsOfPlanets : Type 0 where
  pub conjunctions : (p k : ℕ) → ConjunctionReasons p k
  pub nexts : (p d : ℕ) → NextReasons p d
  pub pair-nineteen : (p : ℕ) (why : Reason) → ReducedPair p (Err why) ↔ ((why ≡ NoSuchPlanet) × (Planet p → ⊥))

-- two numbers have one common divisor
abbrev pub OneCommonDivisor : Type 0
OneCommonDivisor = (a b c d : ℕ) → CommonDivisor a b c → CommonDivisor a b d → c ≡ d

-- "taking the remainder of one by the other until none is left": what this ends with is what `common_divisor` answers
abbrev pub TakingRemainders : Type 0
TakingRemainders = (a b d : ℕ) → Remainders a b d ↔ CommonDivisor a b d

-- the figures of one conjunction, which the long counts are made of, are the call's k = 1
abbrev pub FiguresAreFirst : Type 0
FiguresAreFirst = (p : ℕ) (c : Conjunction) → KthConjunction p 1 (Ok c) → planet_figures p ≡ figures c.day c.parts c.divisor

-- 004's common divisor of the two long counts, the same for all five
abbrev pub CommonDivisorOf004 : Type 0
CommonDivisorOf004 = (p : ℕ) → Planet p → CommonDivisor (long_days (planet_figures p)) (long_circle (planet_figures p)) 5844

-- "004 gets each pair by reducing two long counts against each other ..; show for all five that this yields the printed pair": the pair
-- that the call promises, which its two long counts are reduced to, is the printed one
abbrev pub Reduction : Type 0
Reduction = (p : ℕ) (r : Pair) → ReducedPair p (Ok r) ↔ (Planet p × (r ≡ pair_of (numbers_of p)))

-- each promise leaves one answer
pub record UniquePlanets : Type 0 where
  pub conjunction : (p k : ℕ) (a b : Result Conjunction Reason) → KthConjunction p k a → KthConjunction p k b → a ≡ b
  pub next : (p d : ℕ) (a b : Result Next Reason) → NextConjunction p d a → NextConjunction p d b → a ≡ b
  pub pair : (p : ℕ) (a b : Result Pair Reason) → ReducedPair p a → ReducedPair p b → a ≡ b

-- wrong versions, each shut out at some input: refusing all; one fixed answer; a common divisor that is always 1, and one that is the
-- first number
pub record WrongPlanets : Type 0 where
  pub conjunction-refused : (why : Reason) → KthConjunction 1 0 (Err why) → ⊥
  pub next-refused : (why : Reason) → NextConjunction 1 0 (Err why) → ⊥
  pub pair-refused : (why : Reason) → ReducedPair 1 (Err why) → ⊥
  pub conjunction-fixed : (c : Result Conjunction Reason) → KthConjunction 1 0 c → KthConjunction 1 1 c → ⊥
  pub next-fixed : (n : Result Next Reason) → NextConjunction 1 0 n → NextConjunction 1 1 n → ⊥
  pub pair-fixed : (r : Result Pair Reason) → ReducedPair 1 r → ReducedPair 2 r → ⊥
  pub divisor-one : CommonDivisor 12 18 1 → ⊥
  pub divisor-first : CommonDivisor 12 18 12 → ⊥
