-- Proofs of the statements about answers laid flat. Assumes nothing.
use Rattle.std.specs.Prelude.{Option, Some, None}
use Prim.Native.Nat.{ℕ, zero, suc}
use mathlib.Core.Path.{◌≡◌, refl, ap}
use mathlib.Core.Bool.{Bool, true, false}
use Rattle.rule.proofs.Leap.{month-again}
use Rattle.rule.specs.Rule.{marked}
use Rattle.rule.specs.declared.Quarter.{Quarter}
use Rattle.rule.specs.declared.Term.{Term}
use Rattle.rule.proofs.Answers.{one-to-one}
use Rattle.dates.specs.declared.Date.{Date}
use Rattle.facts.specs.declared.SolsticeYear.{SolsticeYear}
use Rattle.facts.specs.declared.LeapMonth.{LeapMonth}
use Rattle.facts.specs.declared.YearFacts.{YearFacts}
use Rattle.facts.specs.declared.MonthFacts.{MonthFacts}
use Rattle.planets.specs.declared.Phase.{Phase}
use Rattle.planets.specs.declared.Phase.TheVariants.{Morning, Evening, Neither}
use Rattle.planets.specs.declared.Conjunction.{Conjunction}
use Rattle.planets.specs.declared.Next.{Next}
use Rattle.planets.specs.declared.Pair.{Pair}
use Rattle.planets.specs.Planets.{phase_number}
use Rattle.rule.specs.Reasons.{Answer, is, refused, refused-with}
use Rattle.drawer.specs.Drawer.{to_fill}
use Rattle.offered.specs.Flat.{flat_filled}
use Rattle.sheet.specs.declared.Counted.{Counted}
use Rattle.offered.specs.declared.CDate.{CDate}
use Rattle.offered.specs.declared.CDay.{CDay}
use Rattle.offered.specs.declared.CSolstice.{CSolstice}
use Rattle.offered.specs.declared.CYear.{CYear}
use Rattle.offered.specs.declared.CMonth.{CMonth}
use Rattle.offered.specs.declared.CClerk.{CClerk}
use Rattle.offered.specs.declared.CQuarter.{CQuarter}
use Rattle.offered.specs.declared.CTerm.{CTerm}
use Rattle.offered.specs.declared.CConjunction.{CConjunction}
use Rattle.offered.specs.declared.CNext.{CNext}
use Rattle.offered.specs.declared.CPair.{CPair}
use Rattle.offered.specs.declared.CSheetCounts.{CSheetCounts}
use Rattle.offered.specs.declared.CLength.{CLength}
use Rattle.offered.specs.Flat.{given_date, given_solstice, has_leap, leap_number, leap_count, given_year, given_month, given_quarter, given_term, given_conjunction, given_next, given_pair, given_counts}
use Rattle.offered.specs.Structs as Structs

pub refusals-flat : Structs.RefusalsFlat
refusals-flat =
    record {
      date = λ k. (
        refl,
        record {
          year = refl;
          number = refl;
          leap = refl;
          day-of-month = refl;
          month-length = refl;
          day-name = refl;
          year-name = refl;
          ji = refl;
          bu = refl;
          year-in-bu = refl;
          eclipse = refl;
        },
      );
      day = λ k. (refl, record { day = refl });
      solstice = λ k. (
        refl,
        record {
          ji = refl;
          bu = refl;
          year-in-bu = refl;
          head-name = refl;
          first-month = refl;
          leap-remainder = refl;
          months = refl;
        },
      );
      year = λ k. (
        refl,
        record { name = refl; first-month = refl; months = refl; has-leap = refl; leap-number = refl; leap-month = refl },
      );
      month = λ k. (
        refl,
        record {
          number = refl;
          leap = refl;
          first-day = refl;
          small-remainder = refl;
          month-length = refl;
          first-name = refl;
          eclipse = refl;
        },
      );
      clerk = λ k. (
        refl,
        record {
          month-count = refl;
          first-day = refl;
          mid-term-day = refl;
          small-remainder = refl;
          number = refl;
          leap = refl;
          month-length = refl;
          first-name = refl;
          eclipse = refl;
          eclipse-remainder = refl;
          mid-term-parts = refl;
        },
      );
      quarter = λ k. (refl, record { day = refl; parts = refl });
      term = λ k. (refl, record { day = refl; parts = refl });
      conjunction = λ k. (refl, record { day = refl; parts = refl; divisor = refl; phase = refl });
      next = λ k. (refl, record { count = refl; day = refl; parts = refl; divisor = refl; phase = refl });
      pair = λ k. (refl, record { years = refl; conjunctions = refl });
      found = λ k. (refl, refl);
      too_short = λ k n. (refl, refl);
      emended = λ k. refl;
      emended-too-short = λ k n. refl;
      filled = λ k. refl;
      bad-day = λ k i. refl;
      counts = λ k. (refl, record { years = refl; months = refl; days = refl });
      length = λ k. (refl, record { length = refl });
    }

-- a month, and a leap month, from their parts
abbrev leap_from : Bool → ℕ → ℕ → Option LeapMonth
leap_from true k n = Some (record { number = k; month = n })
leap_from false k n = None

leap-back : (l : Option LeapMonth) → leap_from (has_leap l) (leap_number l) (leap_count l) ≡ l
leap-back None = refl
leap-back (Some l) = refl

-- a phase from its number
abbrev phase_from : ℕ → Phase
phase_from zero = Neither
phase_from (suc zero) = Morning
phase_from (suc (suc n)) = Evening

phase-back : (p : Phase) → phase_from (phase_number p) ≡ p
phase-back Morning = refl
phase-back Evening = refl
phase-back Neither = refl

-- each answer from its struct
abbrev date_from : CDate → Date
date_from r =
    record {
      year = r.year;
      month = marked r.leap r.number;
      day_of_month = r.day_of_month;
      month_length = r.month_length;
      day_name = r.day_name;
      year_name = r.year_name;
      ji = r.ji;
      bu = r.bu;
      year_in_bu = r.year_in_bu;
      eclipse = r.eclipse;
    }

abbrev solstice_from : CSolstice → SolsticeYear
solstice_from r =
    record {
      ji = r.ji;
      bu = r.bu;
      year_in_bu = r.year_in_bu;
      head_name = r.head_name;
      first_month = r.first_month;
      leap_remainder = r.leap_remainder;
      months = r.months;
    }

abbrev year_from : CYear → YearFacts
year_from r =
    record {
      name = r.name;
      first_month = r.first_month;
      months = r.months;
      leap_month = leap_from r.has_leap r.leap_number r.leap_month;
    }

abbrev month_from : CMonth → MonthFacts
month_from r =
    record {
      month = marked r.leap r.number;
      first_day = r.first_day;
      small_remainder = r.small_remainder;
      month_length = r.month_length;
      first_name = r.first_name;
      eclipse = r.eclipse;
    }

abbrev quarter_from : CQuarter → Quarter
quarter_from r = record { day = r.day; parts = r.parts }

abbrev term_from : CTerm → Term
term_from r = record { day = r.day; parts = r.parts }

abbrev conjunction_from : CConjunction → Conjunction
conjunction_from r = record { day = r.day; parts = r.parts; divisor = r.divisor; phase = phase_from r.phase }

abbrev next_from : CNext → Next
next_from r =
    record {
      k = r.k;
      conjunction = record { day = r.day; parts = r.parts; divisor = r.divisor; phase = phase_from r.phase };
    }

abbrev pair_from : CPair → Pair
pair_from r = record { years = r.years; conjunctions = r.conjunctions }

abbrev counts_from : CSheetCounts → Counted
counts_from r = record { years = r.years; months = r.months; days = r.days }

pub nothing-lost : Structs.NothingLost
nothing-lost =
    record {
      date = one-to-one given_date date_from (λ d. rw (month-again d.month));
      day = λ a b e. ap (λ (r : CDay). r.day) e;
      solstice = one-to-one given_solstice solstice_from (λ s. refl);
      year = one-to-one given_year year_from (λ y. rw (leap-back y.leap_month));
      month = one-to-one given_month month_from (λ f. rw (month-again f.month));
      clerk = λ a b e. ap (λ (r : CClerk). r.clerk) e;
      quarter = one-to-one given_quarter quarter_from (λ q. refl);
      term = one-to-one given_term term_from (λ t. refl);
      conjunction = one-to-one given_conjunction conjunction_from (λ c. rw (phase-back c.phase));
      next = one-to-one given_next next_from (λ n. rw (phase-back n.conjunction.phase));
      pair = one-to-one given_pair pair_from (λ p. refl);
      counts = one-to-one given_counts counts_from (λ c. refl);
      length = λ a b e. ap (λ (r : CLength). r.length) e;
    }

-- how many records an answer laid flat says
pub count-is : (a : Answer ℕ) → (flat_filled a).count ≡ to_fill a
count-is (is n) = refl
count-is (refused k) = refl
count-is (refused-with k i) = refl
