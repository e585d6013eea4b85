-- The facts of a year and of a month as the rule has them, for every number; refusals in the paper's order.
-- Assumes nothing.
use Rattle.std.specs.Prelude.{Option, Some, None, ℕ, List, [], ◌∷◌, leb}
use Rattle.rule.specs.Counts.{day_name, year_name, ji, bu, year_in_bu, head_name}
use Rattle.rule.specs.Rule.{
  month_start,
  small_remainder,
  month_length,
  quarter_day,
  quarter_parts,
  term_day,
  term_parts,
  year_term,
  solstice_first_month,
  leap_remainder,
  months_in_solstice_year,
  leap,
  month_number,
  month_at,
  civil_first_month,
  months_in_civil_year,
  eclipse,
}
use Rattle.rule.specs.Reasons.{Answer, is, guard, within}
use Rattle.rule.specs.Civil.{civil_months_of}
use Rattle.rule.specs.declared.Quarter.{Quarter}
use Rattle.rule.specs.declared.Term.{Term}
use Rattle.facts.specs.declared.SolsticeYear.{SolsticeYear}
use Rattle.facts.specs.declared.LeapMonth.{LeapMonth}
use Rattle.facts.specs.declared.YearFacts.{YearFacts}
use Rattle.facts.specs.declared.MonthFacts.{MonthFacts}

-- a solstice year: place, head name of its bu, first month, leap remainder, 12 or 13
unfoldable pub solstice_year : ℕ → SolsticeYear
solstice_year y =
    record {
      ji = ji y;
      bu = bu y;
      year_in_bu = year_in_bu y;
      head_name = head_name (bu y);
      first_month = solstice_first_month y;
      leap_remainder = leap_remainder y;
      months = months_in_solstice_year y;
    }

unfoldable pub solstice_year_at : ℕ → Answer SolsticeYear
solstice_year_at y = guard (within 1 41040 y) 1 (is (solstice_year y))

-- of the leap months of a civil year: the first, by number and count
abbrev pub first_of : List ℕ → Option LeapMonth
first_of [] = None
first_of (n ∷ ns) = Some (record { number = month_number n; month = n })

unfoldable pub leap_month : ℕ → Option LeapMonth
leap_month y = first_of (civil_months_of leap y)

-- a civil year's own: name, the months that it lists, its leap month
unfoldable pub year_facts : ℕ → YearFacts
year_facts y =
    record {
      name = year_name y;
      first_month = civil_first_month y;
      months = months_in_civil_year y;
      leap_month = leap_month y;
    }

unfoldable pub year_facts_at : ℕ → Answer YearFacts
year_facts_at y = guard (leb y 41040) 1 (is (year_facts y))

-- a month by its count
unfoldable pub month_facts : ℕ → MonthFacts
month_facts n =
    record {
      month = month_at n;
      first_day = month_start n;
      small_remainder = small_remainder n;
      month_length = month_length n;
      first_name = day_name (month_start n);
      eclipse = eclipse n;
    }

unfoldable pub month_facts_at : ℕ → Answer MonthFacts
month_facts_at n = guard (leb n 507599) 7 (is (month_facts n))

-- a quarter of a month: its day and the rest in parts of 3,760
unfoldable pub quarter_of : ℕ → ℕ → Quarter
quarter_of n q = record { day = quarter_day n q; parts = quarter_parts n q }

unfoldable pub quarter_at : ℕ → ℕ → Answer Quarter
quarter_at n q = guard (leb n 507599) 7 (guard (leb q 3) 15 (is (quarter_of n q)))

-- a term of a solstice year: its day and the rest in parts of 32
unfoldable pub term_of : ℕ → ℕ → Term
term_of y k = record { day = term_day (year_term y k); parts = term_parts (year_term y k) }

unfoldable pub term_at : ℕ → ℕ → Answer Term
term_at y k = guard (within 1 41040 y) 1 (guard (leb k 23) 15 (is (term_of y k)))
