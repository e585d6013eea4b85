-- The paper's known dates laid flat and a slip, at which a wrong definition shows at once. Assumes nothing.
use mathlib.Core.Path.{◌≡◌, refl}
use mathlib.Core.Bool.{true, false}
use Rattle.dates.specs.Dates.{date_at, day_of_date}
use Rattle.facts.specs.Facts.{solstice_year_at, year_facts_at, month_facts_at, quarter_at, term_at}
use Rattle.clerk.specs.Clerk.{start_at}
use Rattle.planets.specs.Planets.{conjunction_at, next_at, pair_at}
use Rattle.reading.specs.declared.Field.TheVariants.{Known, Unread}
use Rattle.offered.specs.Flat.{flat_date, flat_day, flat_solstice, flat_year, flat_month, flat_clerk, flat_quarter, flat_term, flat_conjunction, flat_next, flat_pair}
use Rattle.offered.specs.Promises.{reading_of}
use Rattle.dates.proofs.Computing.{dates-computed}
use Rattle.facts.proofs.Computing.{facts-computed}
use Rattle.planets.proofs.Computing.{planets-computed}
use Rattle.offered.proofs.Clerks.{clerks-computed}

-- case 3: the last day, leap 10, and the day after it
pub last-day :
    flat_date (date_at 14989859)
    ≡ record {
      reason = 0;
      year = 41040;
      number = 10;
      leap = true;
      day_of_month = 30;
      month_length = 30;
      day_name = 60;
      year_name = 16;
      ji = 3;
      bu = 20;
      year_in_bu = 76;
      eclipse = true;
    }
unfolding dates-computed
last-day = refl

pub day-after-the-last :
    flat_date (date_at 14989860)
    ≡ record {
      reason = 6;
      year = 0;
      number = 0;
      leap = false;
      day_of_month = 0;
      month_length = 0;
      day_name = 0;
      year_name = 0;
      ji = 0;
      bu = 0;
      year_in_bu = 0;
      eclipse = false;
    }
unfolding date_at
day-after-the-last = refl

-- case 9: "Year 11, leap 8, day 1: reason 4"
pub leap-8-of-11 : flat_day (day_of_date 11 8 true 1) ≡ record { reason = 4; day = 0 }
unfolding dates-computed
leap-8-of-11 = refl

-- cases 5 and 6: the place of solstice year 9,366, its full moon and its solstice
pub place-of-9366 :
    flat_solstice (solstice_year_at 9366)
    ≡ record {
      reason = 0;
      ji = 1;
      bu = 4;
      year_in_bu = 18;
      head_name = 58;
      first_month = 115830;
      leap_remainder = 5;
      months = 12;
    }
unfolding facts-computed
place-of-9366 = refl

pub full-moon-of-115830 : flat_quarter (quarter_at 115830 2) ≡ record { reason = 0; day = 3420573; parts = 918 }
unfolding facts-computed
full-moon-of-115830 = refl

pub solstice-of-9366 : flat_term (term_at 9366 0) ≡ record { reason = 0; day = 3420566; parts = 8 }
unfolding facts-computed
solstice-of-9366 = refl

-- cases 8 and 10: "Year 11: leap 9, month 134", an eclipse month
pub year-11 :
    flat_year (year_facts_at 11)
    ≡ record {
      reason = 0;
      name = 27;
      first_month = 125;
      months = 13;
      has_leap = true;
      leap_number = 9;
      leap_month = 134;
    }
unfolding facts-computed
year-11 = refl

pub month-134 :
    flat_month (month_facts_at 134)
    ≡ record {
      reason = 0;
      number = 9;
      leap = true;
      first_day = 3957;
      small_remainder = 126;
      month_length = 29;
      first_name = 58;
      eclipse = true;
    }
unfolding facts-computed
month-134 = refl

-- W3: the clerk at the head of bu 2, whose mid-term ahead, the second of its solstice year, falls 30 days and 14 parts later; a bu after the last
pub head-of-bu-2 :
    flat_clerk (start_at 2)
    ≡ record {
      reason = 0;
      clerk = record {
        month_count = 940;
        first_day = 27759;
        mid_term_day = 27789;
        small_remainder = 0;
        number = 11;
        leap = false;
        month_length = 29;
        first_name = 40;
        eclipse = false;
        eclipse_remainder = 43;
        mid_term_parts = 14;
      };
    }
unfolding clerks-computed
head-of-bu-2 = refl

pub after-the-last-bu : (flat_clerk (start_at 541)).reason ≡ 21
unfolding start_at
after-the-last-bu = refl

-- W11: the first conjunction of Venus, a morning one; the one that 004 counts to by the end of solstice year 9,455, an evening one;
-- its pair
pub first-of-venus : flat_conjunction (conjunction_at 4 1) ≡ record { reason = 0; day = 292; parts = 281; divisor = 23320; phase = 1 }
unfolding planets-computed
first-of-venus = refl

pub first-of-jupiter : flat_conjunction (conjunction_at 1 1) ≡ record { reason = 0; day = 398; parts = 14641; divisor = 17308; phase = 0 }
unfolding planets-computed
first-of-jupiter = refl

pub venus-in-9455 :
    flat_next (next_at 4 3453334)
    ≡ record { reason = 0; k = 11826; day = 3453334; parts = 11666; divisor = 23320; phase = 2 }
unfolding planets-computed
venus-in-9455 = refl

pub none_left : flat_next (next_at 4 14989855) ≡ record { reason = 20; k = 0; day = 0; parts = 0; divisor = 0; phase = 0 }
unfolding planets-computed
none_left = refl

pub pair-of-venus : flat_pair (pair_at 4) ≡ record { reason = 0; years = 4661; conjunctions = 5830 }
unfolding planets-computed
pair-of-venus = refl

-- the solstice day of case 6, of a slip on which the leap mark and the day of month were not read: what stands there is not taken
pub solstice-slip :
    reading_of
    (record {
      year_name = 22;
      month_number = 11;
      leap_mark = 2;
      day_of_month = 30;
      day_name = 27;
      first_name = 19;
      year_name_known = true;
      month_number_known = true;
      leap_mark_known = false;
      day_of_month_known = false;
      day_name_known = true;
      first_name_known = true;
    })
    ≡ record {
      year_name = Known 22;
      month_number = Known 11;
      leap_mark = Unread;
      day_of_month = Unread;
      day_name = Known 27;
      first_name = Known 19;
    }
solstice-slip = refl
