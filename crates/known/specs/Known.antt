-- "Known dates" of the paper, the starred ones: one table of cases, every clause a row, and what it means that all hold. "Cases 1, 2,
-- 3, 5, 6, 8, 9 and 11 are worked again where they name a year" (W4): a date's year, with its name and its leap month, is the civil one; a
-- place, a first month, a leap remainder and a solstice are of the solstice year.
-- Assumes nothing.
use Rattle.std.specs.Prelude.{Option, Some, None, ℕ, ◌≡◌, Bool, true, false, List, [], ◌∷◌, map, ℤ, pos, negsuc}
use Rattle.rule.specs.Rule.{month_of_day, number_of, leap_mark, shortcut_number}
use Rattle.rule.specs.Reasons.{Answer, is, refused, and_then}
use Rattle.dates.specs.declared.Date.{Date}
use Rattle.dates.specs.Dates.{date_at, day_of_date}
use Rattle.moves.specs.Moves.{moved}
use Rattle.facts.specs.declared.LeapMonth.{LeapMonth}
use Rattle.facts.specs.Facts.{solstice_year_at, year_facts_at, month_facts_at, quarter_at, term_at}

-- what is asked in a row
pub data Question : Type 0 where
  date-of-day : ℕ → Question  -- civil year, month number, mark, day of month
  name-of-day : ℕ → Question
  year-name-of-day : ℕ → Question
  day-of-date : ℕ → ℕ → Bool → ℕ → Question
  moved-date : ℕ → ℕ → Bool → ℕ → ℤ → Question  -- civil year, month number, mark, day of month
  moved-name : ℕ → ℕ → Bool → ℕ → ℤ → Question  -- the day's name there
  moved-year-name : ℕ → ℕ → Bool → ℕ → ℤ → Question  -- the civil year's name there
  ji-of-year : ℕ → Question  -- of a solstice year
  bu-of-year : ℕ → Question  -- of a solstice year: bu, and year in bu
  head-name : ℕ → Question  -- of a solstice year's bu
  year-name : ℕ → Question  -- of a civil year
  leap-remainder : ℕ → Question  -- of a solstice year
  first-month : ℕ → Question  -- of a solstice year
  first-day : ℕ → Question  -- of a month by its count
  first-name : ℕ → Question  -- of that day
  full-moon : ℕ → Question  -- the day of a month's quarter 2
  solstice : ℕ → Question  -- the day of a solstice year's term 0
  month-of-name : ℕ → ℕ → Bool → Question  -- the month of a civil year with a number and mark
  leap-month : ℕ → Question  -- of a civil year: its number and its count
  shortcut : ℕ → Question  -- the number that 004's shortcut would give a solstice year's leap month
  eclipse-month : ℕ → Question  -- 1 if it is one, 0 if not

abbrev pub bit : Bool → ℕ
bit true = 1
bit false = 0

abbrev pub four_of : Date → List ℕ
four_of r = r.year ∷ number_of r.month ∷ bit (leap_mark r.month) ∷ r.day_of_month ∷ []

abbrev pub leap_of : Option LeapMonth → List ℕ
leap_of None = []
leap_of (Some l) = l.number ∷ l.month ∷ []

-- what the definitions say to it
abbrev pub told : Question → Answer (List ℕ)
told (date-of-day d) = and_then (date_at d) (λ r. is (four_of r))
told (name-of-day d) = and_then (date_at d) (λ r. is (r.day_name ∷ []))
told (year-name-of-day d) = and_then (date_at d) (λ r. is (r.year_name ∷ []))
told (day-of-date y k l m) = and_then (day_of_date y k l m) (λ d. is (d ∷ []))
told (moved-date y k l m n) = and_then (moved y k l m n) (λ r. is (four_of r))
told (moved-name y k l m n) = and_then (moved y k l m n) (λ r. is (r.day_name ∷ []))
told (moved-year-name y k l m n) = and_then (moved y k l m n) (λ r. is (r.year_name ∷ []))
told (ji-of-year y) = and_then (solstice_year_at y) (λ p. is (p.ji ∷ []))
told (bu-of-year y) = and_then (solstice_year_at y) (λ p. is (p.bu ∷ p.year_in_bu ∷ []))
told (head-name y) = and_then (solstice_year_at y) (λ p. is (p.head_name ∷ []))
told (year-name y) = and_then (year_facts_at y) (λ f. is (f.name ∷ []))
told (leap-remainder y) = and_then (solstice_year_at y) (λ p. is (p.leap_remainder ∷ []))
told (first-month y) = and_then (solstice_year_at y) (λ p. is (p.first_month ∷ []))
told (first-day n) = and_then (month_facts_at n) (λ f. is (f.first_day ∷ []))
told (first-name n) = and_then (month_facts_at n) (λ f. is (f.first_name ∷ []))
told (full-moon n) = and_then (quarter_at n 2) (λ q. is (q.day ∷ []))
told (solstice y) = and_then (term_at y 0) (λ t. is (t.day ∷ []))
told (month-of-name y k l) = and_then (day_of_date y k l 1) (λ d. is (month_of_day d ∷ []))
told (leap-month y) = and_then (year_facts_at y) (λ f. is (leap_of f.leap_month))
told (shortcut y) = is (shortcut_number y ∷ [])
told (eclipse-month n) = and_then (month_facts_at n) (λ f. is (bit f.eclipse ∷ []))

pub record Case : Type 0 where
  pub asked : Question
  pub answer : Answer (List ℕ)

abbrev row : Question → List ℕ → Case
row q xs = record { asked = q; answer = is xs }

abbrev refusal : Question → ℕ → Case
refusal q r = record { asked = q; answer = refused r }

-- the paper's eleven starred cases; a mark is 0 for ordinary and 1 for leap
unfoldable pub cases : List Case
cases =
    -- 1. Day 0: civil year 0, month 11, day 1, name 1. Day −1 does not exist: moving there is reason 8.
    row (date-of-day 0) (0 ∷ 11 ∷ 0 ∷ 1 ∷ [])
    ∷ row (name-of-day 0) (1 ∷ [])
    ∷ refusal (moved-date 0 11 false 1 (negsuc 0)) 8
    -- 2. Day 29: civil year 0, month 12, day 1. Day 28 is day 29 of its month 11.
    ∷ row (date-of-day 29) (0 ∷ 12 ∷ 0 ∷ 1 ∷ [])
    ∷ row (date-of-day 28) (0 ∷ 11 ∷ 0 ∷ 29 ∷ [])
    -- 3. Day 14,989,859: civil year 41,040, leap 10, day 30, name 60. The next day is reason 6.
    ∷ row (date-of-day 14989859) (41040 ∷ 10 ∷ 1 ∷ 30 ∷ [])
    ∷ row (name-of-day 14989859) (60 ∷ [])
    ∷ refusal (date-of-day 14989860) 6
    -- 4. (of the solstice year) Year 76 is year 76 of bu 1; year 77 is year 1 of bu 2, whose head name is 40.
    ∷ row (bu-of-year 76) (1 ∷ 76 ∷ [])
    ∷ row (bu-of-year 77) (2 ∷ 1 ∷ [])
    ∷ row (head-name 77) (40 ∷ [])
    -- 5. Solstice year 9,366 (85 CE in 004): ji 1, bu 4, year in bu 18, leap remainder 5; first month 115,830 starts on day 3,420,558, name
    -- 19, full on day 3,420,573, name 34. Day 3,420,558 is civil year 9,365, name 21, month 11, day 1; civil year 9,366 has name 22.
    ∷ row (ji-of-year 9366) (1 ∷ [])
    ∷ row (bu-of-year 9366) (4 ∷ 18 ∷ [])
    ∷ row (year-name 9366) (22 ∷ [])
    ∷ row (leap-remainder 9366) (5 ∷ [])
    ∷ row (first-month 9366) (115830 ∷ [])
    ∷ row (first-day 115830) (3420558 ∷ [])
    ∷ row (first-name 115830) (19 ∷ [])
    ∷ row (name-of-day 3420558) (19 ∷ [])
    ∷ row (full-moon 115830) (3420573 ∷ [])
    ∷ row (name-of-day 3420573) (34 ∷ [])
    ∷ row (date-of-day 3420558) (9365 ∷ 11 ∷ 0 ∷ 1 ∷ [])
    ∷ row (year-name-of-day 3420558) (21 ∷ [])
    -- 6. Its solstice: day 3,420,566, name 27: civil year 9,365, month 11, day 9.
    ∷ row (solstice 9366) (3420566 ∷ [])
    ∷ row (name-of-day 3420566) (27 ∷ [])
    ∷ row (date-of-day 3420566) (9365 ∷ 11 ∷ 0 ∷ 9 ∷ [])
    -- 7. Civil year 9,457 (176 CE): month 1 is 116,957, first name 60; leap month 5 is 116,962.
    ∷ row (month-of-name 9457 1 false) (116957 ∷ [])
    ∷ row (first-name 116957) (60 ∷ [])
    ∷ row (month-of-name 9457 5 true) (116962 ∷ [])
    ∷ row (leap-month 9457) (5 ∷ 116962 ∷ [])
    -- 8. Civil year 11: leap 9, month 134. In solstice year 11 the shortcut would give leap 8.
    ∷ row (leap-month 11) (9 ∷ 134 ∷ [])
    ∷ row (shortcut 11) (8 ∷ [])
    -- 9. Civil year 11, leap 8, day 1: reason 4. Leap 9, day 30: reason 5.
    ∷ refusal (day-of-date 11 8 true 1) 4
    ∷ refusal (day-of-date 11 9 true 30) 5
    -- 10. Month 134 is an eclipse month, 135 is not; 5 is the first, 0 is not one.
    ∷ row (eclipse-month 134) (1 ∷ [])
    ∷ row (eclipse-month 135) (0 ∷ [])
    ∷ row (eclipse-month 5) (1 ∷ [])
    ∷ row (eclipse-month 0) (0 ∷ [])
    ∷ row (eclipse-month 1) (0 ∷ [])
    ∷ row (eclipse-month 2) (0 ∷ [])
    ∷ row (eclipse-month 3) (0 ∷ [])
    ∷ row (eclipse-month 4) (0 ∷ [])
    -- 11. Day 0 moved by 27,759: civil year 76, month 11, day 1, name 40, year name 32.
    ∷ row (moved-date 0 11 false 1 (pos 27759)) (76 ∷ 11 ∷ 0 ∷ 1 ∷ [])
    ∷ row (moved-name 0 11 false 1 (pos 27759)) (40 ∷ [])
    ∷ row (moved-year-name 0 11 false 1 (pos 27759)) (32 ∷ [])
    ∷ []

-- every row: what the definitions say to the question is the paper's answer
abbrev pub KnownDates : Type 0
KnownDates = map (λ (c : Case). told c.asked) cases ≡ map (λ (c : Case). c.answer) cases
