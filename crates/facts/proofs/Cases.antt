-- Figures of the paper at which a wrong definition shows at once. Assumes nothing.
use Rattle.std.specs.Prelude.{Some}
use mathlib.Core.Path.{◌≡◌, refl}
use Rattle.rule.specs.Reasons.{is, refused}
use Rattle.facts.specs.Facts.{solstice_year, solstice_year_at, leap_month, year_facts_at, month_facts_at, term_at}
use Rattle.facts.proofs.Computing.{facts-computed}

-- year 1 is there
pub year-1-given : solstice_year_at 1 ≡ is (solstice_year 1)
unfolding facts-computed
year-1-given = refl

-- a year and a month past the last are not; of a term's reasons "1 .., then 15"
pub year-41041-refused : year_facts_at 41041 ≡ refused 1
unfolding facts-computed
year-41041-refused = refl

pub month-507600-refused : month_facts_at 507600 ≡ refused 7
unfolding facts-computed
month-507600-refused = refl

pub year-before-term : term_at 0 24 ≡ refused 1
unfolding facts-computed
year-before-term = refl

-- W2: mid-term 10 of year 44 falls two parts before the next midnight, mid-term 16 of year 3 at midnight
pub near-midnight : term_at 44 10 ≡ is (record { day = 15857; parts = 30 })
unfolding facts-computed
near-midnight = refl

pub at-midnight : term_at 3 16 ≡ is (record { day = 974; parts = 0 })
unfolding facts-computed
at-midnight = refl

-- case 4: "year 77 is year 1 of bu 2, whose head name is 40"
pub head-of-77 : (solstice_year 77).head_name ≡ 40
unfolding facts-computed
head-of-77 = refl

-- case 8: "Year 11: leap 9, month 134."
pub leap-of-11 : leap_month 11 ≡ Some (record { number = 9; month = 134 })
unfolding facts-computed
leap-of-11 = refl
