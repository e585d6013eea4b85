-- The checks of request W11 as one table: every check a row, and what it means that all hold. Assumes nothing.
use Rattle.std.specs.Prelude.{ℕ, ◌-◌, ◌≡◌, List, [], ◌∷◌, map}
use Rattle.rule.specs.Rule.{month_start}
use Rattle.rule.specs.Reasons.{Answer, is, refused, and_then}
use Rattle.planets.specs.declared.Conjunction.{Conjunction}
use Rattle.planets.specs.Planets.{phase_number, conjunction_at, next_at, pair_at}

-- what is asked in a row
pub data Question : Type 0 where
  conjunction : ℕ → ℕ → Question  -- planet, k: day, parts, divisor, phase
  next : ℕ → ℕ → Question  -- planet, day: k, day, parts, divisor, phase
  in-month : ℕ → ℕ → ℕ → Question  -- planet, k, month: days after the month's first day, parts
  pair : ℕ → Question  -- planet: years, conjunctions

abbrev pub four_of : Conjunction → List ℕ
four_of c = c.day ∷ c.parts ∷ c.divisor ∷ phase_number c.phase ∷ []

-- what the definitions say to it
abbrev pub told : Question → Answer (List ℕ)
told (conjunction p k) = and_then (conjunction_at p k) (λ c. is (four_of c))
told (next p d) = and_then (next_at p d) (λ c. is (c.k ∷ four_of c.conjunction))
told (in-month p k n) = and_then (conjunction_at p k) (λ c. is ((c.day - month_start n) ∷ c.parts ∷ []))
told (pair p) = and_then (pair_at p) (λ r. is (r.years ∷ r.conjunctions ∷ []))

pub record Case : Type 0 where
  pub asked : Question
  pub answer : Answer (List ℕ)

abbrev row : Question → List ℕ → Case
row q xs = record { asked = q; answer = is xs }

abbrev refusal : Question → ℕ → Case
refusal q r = record { asked = q; answer = refused r }

-- P, Q and R are the rows of 004's figures
unfoldable pub cases : List Case
cases =
    -- "Checks for k = 1" (P03, P24, P45, P67, R69)
    row (conjunction 1 1) (398 ∷ 14641 ∷ 17308 ∷ 0 ∷ [])
    ∷ row (conjunction 2 1) (779 ∷ 1872 ∷ 3516 ∷ 0 ∷ [])
    ∷ row (conjunction 3 1) (378 ∷ 2163 ∷ 36384 ∷ 0 ∷ [])
    ∷ row (conjunction 4 1) (292 ∷ 281 ∷ 23320 ∷ 1 ∷ [])
    ∷ row (conjunction 5 1) (57 ∷ 44805 ∷ 47632 ∷ 1 ∷ [])
    -- k starts at 0, at the origin
    ∷ row (conjunction 1 0) (0 ∷ 0 ∷ 17308 ∷ 0 ∷ [])
    ∷ row (conjunction 4 0) (0 ∷ 0 ∷ 23320 ∷ 2 ∷ [])
    -- two conjunctions make one round of Venus and of Mercury (R62, R76)
    ∷ row (conjunction 4 2) (584 ∷ 562 ∷ 23320 ∷ 2 ∷ [])
    ∷ row (conjunction 5 2) (115 ∷ 41978 ∷ 47632 ∷ 2 ∷ [])
    -- in the month that it falls in, so many days after the first (P14, P35, P56, P78, P101)
    ∷ row (in-month 1 1 13) (15 ∷ 14641 ∷ [])
    ∷ row (in-month 2 1 26) (12 ∷ 1872 ∷ [])
    ∷ row (in-month 3 1 12) (24 ∷ 2163 ∷ [])
    ∷ row (in-month 4 1 9) (27 ∷ 281 ∷ [])
    ∷ row (in-month 5 1 1) (28 ∷ 44805 ∷ [])
    -- 11,826 conjunctions of Venus by the end of solstice year 9,455, an evening one in that year (Q04, Q05)
    ∷ row (conjunction 4 11826) (3453334 ∷ 11666 ∷ 23320 ∷ 2 ∷ [])
    ∷ row (next 4 3453334) (11826 ∷ 3453334 ∷ 11666 ∷ 23320 ∷ 2 ∷ [])
    -- the printed pairs (P01, P02, P22, P23, P43, P44, P65, P66, P90, P91)
    ∷ row (pair 1) (4725 ∷ 4327 ∷ [])
    ∷ row (pair 2) (1876 ∷ 879 ∷ [])
    ∷ row (pair 3) (9415 ∷ 9096 ∷ [])
    ∷ row (pair 4) (4661 ∷ 5830 ∷ [])
    ∷ row (pair 5) (1889 ∷ 11908 ∷ [])
    -- the last conjunction in range, of each planet
    ∷ row (conjunction 1 37583) (14989825 ∷ 14075 ∷ 17308 ∷ 0 ∷ [])
    ∷ row (next 1 14989825) (37583 ∷ 14989825 ∷ 14075 ∷ 17308 ∷ 0 ∷ [])
    ∷ refusal (next 1 14989826) 20
    ∷ refusal (conjunction 1 37584) 6
    ∷ refusal (conjunction 1 18446744073709551615) 6
    ∷ row (conjunction 2 19229) (14989628 ∷ 3396 ∷ 3516 ∷ 0 ∷ [])
    ∷ row (next 2 14989628) (19229 ∷ 14989628 ∷ 3396 ∷ 3516 ∷ 0 ∷ [])
    ∷ refusal (next 2 14989629) 20
    ∷ refusal (conjunction 2 19230) 6
    ∷ refusal (conjunction 2 18446744073709551615) 6
    ∷ row (conjunction 3 39649) (14989679 ∷ 3699 ∷ 36384 ∷ 0 ∷ [])
    ∷ row (next 3 14989679) (39649 ∷ 14989679 ∷ 3699 ∷ 36384 ∷ 0 ∷ [])
    ∷ refusal (next 3 14989680) 20
    ∷ refusal (conjunction 3 39650) 6
    ∷ refusal (conjunction 3 18446744073709551615) 6
    ∷ row (conjunction 4 51333) (14989854 ∷ 12813 ∷ 23320 ∷ 1 ∷ [])
    ∷ row (next 4 14989854) (51333 ∷ 14989854 ∷ 12813 ∷ 23320 ∷ 1 ∷ [])
    ∷ refusal (next 4 14989855) 20
    ∷ refusal (conjunction 4 51334) 6
    ∷ refusal (conjunction 4 18446744073709551615) 6
    ∷ row (conjunction 5 258710) (14989825 ∷ 16190 ∷ 47632 ∷ 2 ∷ [])
    ∷ row (next 5 14989825) (258710 ∷ 14989825 ∷ 16190 ∷ 47632 ∷ 2 ∷ [])
    ∷ refusal (next 5 14989826) 20
    ∷ refusal (conjunction 5 258711) 6
    ∷ refusal (conjunction 5 18446744073709551615) 6
    -- where Saturn's product passes 64 bits for the first time
    ∷ refusal (conjunction 3 1341063005370) 6
    -- no other planet, and the order of the reasons
    ∷ refusal (conjunction 0 1) 19
    ∷ refusal (conjunction 6 18446744073709551615) 19
    ∷ refusal (next 0 14989860) 19
    ∷ refusal (next 6 0) 19
    ∷ refusal (pair 0) 19
    ∷ refusal (pair 6) 19
    ∷ refusal (next 1 14989860) 6
    ∷ []

-- every row: what the definitions say to the question is the answer
abbrev pub TableOfPlanets : Type 0
TableOfPlanets = map (λ (c : Case). told c.asked) cases ≡ map (λ (c : Case). c.answer) cases
