-- An answer laid flat into one struct: the reason is 0 and the rest what is answered, or the reason is the paper's number and the
-- rest is nought. Assumes nothing.
use Rattle.emending.specs.declared.Emended.{Emended}
use Rattle.emending.specs.declared.Emended.TheVariants.{Fits, Are}
use Rattle.std.specs.Prelude.{Option, Some, None, ℕ, Bool, true, false}
use Rattle.rule.specs.Rule.{number_of, leap_mark}
use Rattle.rule.specs.Reasons.{Answer, is, refused, refused-with}
use Rattle.rule.specs.declared.Quarter.{Quarter}
use Rattle.rule.specs.declared.Term.{Term}
use Rattle.dates.specs.declared.Date.{Date}
use Rattle.facts.specs.declared.SolsticeYear.{SolsticeYear}
use Rattle.facts.specs.declared.LeapMonth.{LeapMonth}
use Rattle.facts.specs.declared.YearFacts.{YearFacts}
use Rattle.facts.specs.declared.MonthFacts.{MonthFacts}
use Rattle.clerk.specs.declared.Clerk.{Clerk}
use Rattle.planets.specs.declared.Conjunction.{Conjunction}
use Rattle.planets.specs.declared.Next.{Next}
use Rattle.planets.specs.declared.Pair.{Pair}
use Rattle.planets.specs.Planets.{phase_number}
use Rattle.sheet.specs.declared.Counted.{Counted}
use Rattle.offered.specs.declared.CDate.{CDate}
use Rattle.offered.specs.declared.CDay.{CDay}
use Rattle.offered.specs.declared.CSolstice.{CSolstice}
use Rattle.offered.specs.declared.CYear.{CYear}
use Rattle.offered.specs.declared.CMonth.{CMonth}
use Rattle.offered.specs.declared.CClerk.{CClerk}
use Rattle.offered.specs.declared.CQuarter.{CQuarter}
use Rattle.offered.specs.declared.CTerm.{CTerm}
use Rattle.offered.specs.declared.CConjunction.{CConjunction}
use Rattle.offered.specs.declared.CNext.{CNext}
use Rattle.offered.specs.declared.CPair.{CPair}
use Rattle.offered.specs.declared.CFound.{CFound}
use Rattle.offered.specs.declared.CEmended.{CEmended}
use Rattle.offered.specs.declared.CFilled.{CFilled}
use Rattle.offered.specs.declared.CSheetCounts.{CSheetCounts}
use Rattle.offered.specs.declared.CLength.{CLength}

-- what is given laid flat, or the refusal of a number
abbrev pub flat : {A B : Type 0} → (A → B) → (ℕ → B) → Answer A → B
flat given bare (is a) = given a
flat given bare (refused k) = bare k
flat given bare (refused-with k n) = bare k

-- a date
abbrev pub given_date : Date → CDate
given_date d =
    record {
      reason = 0;
      year = d.year;
      number = number_of d.month;
      leap = leap_mark d.month;
      day_of_month = d.day_of_month;
      month_length = d.month_length;
      day_name = d.day_name;
      year_name = d.year_name;
      ji = d.ji;
      bu = d.bu;
      year_in_bu = d.year_in_bu;
      eclipse = d.eclipse;
    }

abbrev pub no_date : ℕ → CDate
no_date k =
    record {
      reason = k;
      year = 0;
      number = 0;
      leap = false;
      day_of_month = 0;
      month_length = 0;
      day_name = 0;
      year_name = 0;
      ji = 0;
      bu = 0;
      year_in_bu = 0;
      eclipse = false;
    }

abbrev pub flat_date : Answer Date → CDate
flat_date = flat given_date no_date

-- a day
abbrev pub given_day : ℕ → CDay
given_day d = record { reason = 0; day = d }

abbrev pub no_day : ℕ → CDay
no_day k = record { reason = k; day = 0 }

abbrev pub flat_day : Answer ℕ → CDay
flat_day = flat given_day no_day

-- a solstice year
abbrev pub given_solstice : SolsticeYear → CSolstice
given_solstice s =
    record {
      reason = 0;
      ji = s.ji;
      bu = s.bu;
      year_in_bu = s.year_in_bu;
      head_name = s.head_name;
      first_month = s.first_month;
      leap_remainder = s.leap_remainder;
      months = s.months;
    }

abbrev pub no_solstice : ℕ → CSolstice
no_solstice k =
    record {
      reason = k;
      ji = 0;
      bu = 0;
      year_in_bu = 0;
      head_name = 0;
      first_month = 0;
      leap_remainder = 0;
      months = 0;
    }

abbrev pub flat_solstice : Answer SolsticeYear → CSolstice
flat_solstice = flat given_solstice no_solstice

-- a leap month, if there is one: whether, its number, its count
abbrev pub has_leap : Option LeapMonth → Bool
has_leap None = false
has_leap (Some l) = true

abbrev pub leap_number : Option LeapMonth → ℕ
leap_number None = 0
leap_number (Some l) = l.number

abbrev pub leap_count : Option LeapMonth → ℕ
leap_count None = 0
leap_count (Some l) = l.month

-- a civil year's own
abbrev pub given_year : YearFacts → CYear
given_year y =
    record {
      reason = 0;
      name = y.name;
      first_month = y.first_month;
      months = y.months;
      has_leap = has_leap y.leap_month;
      leap_number = leap_number y.leap_month;
      leap_month = leap_count y.leap_month;
    }

abbrev pub no_year : ℕ → CYear
no_year k =
    record {
      reason = k;
      name = 0;
      first_month = 0;
      months = 0;
      has_leap = false;
      leap_number = 0;
      leap_month = 0;
    }

abbrev pub flat_year : Answer YearFacts → CYear
flat_year = flat given_year no_year

-- a month
abbrev pub given_month : MonthFacts → CMonth
given_month f =
    record {
      reason = 0;
      number = number_of f.month;
      leap = leap_mark f.month;
      first_day = f.first_day;
      small_remainder = f.small_remainder;
      month_length = f.month_length;
      first_name = f.first_name;
      eclipse = f.eclipse;
    }

abbrev pub no_month : ℕ → CMonth
no_month k =
    record {
      reason = k;
      number = 0;
      leap = false;
      first_day = 0;
      small_remainder = 0;
      month_length = 0;
      first_name = 0;
      eclipse = false;
    }

abbrev pub flat_month : Answer MonthFacts → CMonth
flat_month = flat given_month no_month

-- the clerk at a month: its state as it is
abbrev pub given_clerk : Clerk → CClerk
given_clerk c = record { reason = 0; clerk = c }

abbrev pub no_clerk : ℕ → CClerk
no_clerk k =
    record {
      reason = k;
      clerk = record {
        month_count = 0;
        first_day = 0;
        mid_term_day = 0;
        small_remainder = 0;
        number = 0;
        leap = false;
        month_length = 0;
        first_name = 0;
        eclipse = false;
        eclipse_remainder = 0;
        mid_term_parts = 0;
      };
    }

abbrev pub flat_clerk : Answer Clerk → CClerk
flat_clerk = flat given_clerk no_clerk

-- a quarter
abbrev pub given_quarter : Quarter → CQuarter
given_quarter q = record { reason = 0; day = q.day; parts = q.parts }

abbrev pub no_quarter : ℕ → CQuarter
no_quarter k = record { reason = k; day = 0; parts = 0 }

abbrev pub flat_quarter : Answer Quarter → CQuarter
flat_quarter = flat given_quarter no_quarter

-- a term
abbrev pub given_term : Term → CTerm
given_term t = record { reason = 0; day = t.day; parts = t.parts }

abbrev pub no_term : ℕ → CTerm
no_term k = record { reason = k; day = 0; parts = 0 }

abbrev pub flat_term : Answer Term → CTerm
flat_term = flat given_term no_term

-- a conjunction: 1 a morning one, 2 an evening one, 0 neither
abbrev pub given_conjunction : Conjunction → CConjunction
given_conjunction c = record { reason = 0; day = c.day; parts = c.parts; divisor = c.divisor; phase = phase_number c.phase }

abbrev pub no_conjunction : ℕ → CConjunction
no_conjunction k = record { reason = k; day = 0; parts = 0; divisor = 0; phase = 0 }

abbrev pub flat_conjunction : Answer Conjunction → CConjunction
flat_conjunction = flat given_conjunction no_conjunction

-- the first one on or after a day, with its count
abbrev pub given_next : Next → CNext
given_next n =
    record {
      reason = 0;
      k = n.k;
      day = n.conjunction.day;
      parts = n.conjunction.parts;
      divisor = n.conjunction.divisor;
      phase = phase_number n.conjunction.phase;
    }

abbrev pub no_next : ℕ → CNext
no_next k = record { reason = k; k = 0; day = 0; parts = 0; divisor = 0; phase = 0 }

abbrev pub flat_next : Answer Next → CNext
flat_next = flat given_next no_next

-- a planet's pair
abbrev pub given_pair : Pair → CPair
given_pair p = record { reason = 0; years = p.years; conjunctions = p.conjunctions }

abbrev pub no_pair : ℕ → CPair
no_pair k = record { reason = k; years = 0; conjunctions = 0 }

abbrev pub flat_pair : Answer Pair → CPair
flat_pair = flat given_pair no_pair

-- what a search found: a refusal that says the true total keeps it
abbrev pub flat_found : Answer ℕ → CFound
flat_found (is n) = record { reason = 0; total = n }
flat_found (refused k) = record { reason = k; total = 0 }
flat_found (refused-with k n) = record { reason = k; total = n }

-- what an emendation says: whether days fit, how many of them or of the emendations; a refusal that says the true total keeps it
abbrev pub flat_emended : Answer Emended → CEmended
flat_emended (is (Fits n)) = record { reason = 0; fits = true; total = n }
flat_emended (is (Are n)) = record { reason = 0; fits = false; total = n }
flat_emended (refused k) = record { reason = k; fits = false; total = 0 }
flat_emended (refused-with k n) = record { reason = k; fits = false; total = n }

-- how many records of a drawer were filled: a refusal that says the place of the first day out of range keeps it
abbrev pub flat_filled : Answer ℕ → CFilled
flat_filled (is n) = record { reason = 0; count = n; place = 0 }
flat_filled (refused k) = record { reason = k; count = 0; place = 0 }
flat_filled (refused-with k i) = record { reason = k; count = 0; place = i }

-- a sheet's three counts
abbrev pub given_counts : Counted → CSheetCounts
given_counts c = record { reason = 0; years = c.years; months = c.months; days = c.days }

abbrev pub no_counts : ℕ → CSheetCounts
no_counts k = record { reason = k; years = 0; months = 0; days = 0 }

abbrev pub flat_counts : Answer Counted → CSheetCounts
flat_counts = flat given_counts no_counts

-- a length
abbrev pub given_length : ℕ → CLength
given_length n = record { reason = 0; length = n }

abbrev pub no_length : ℕ → CLength
no_length k = record { reason = k; length = 0 }

abbrev pub flat_length : Answer ℕ → CLength
flat_length = flat given_length no_length
