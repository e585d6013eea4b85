-- What holds of the structs into which answers are laid flat, as statements. proofs/Structs.antt proves each under the same name in
-- small letters. Assumes nothing.
use Rattle.std.specs.Prelude.{ℕ, ◌≡◌, ◌≢◌, false, List}
use Rattle.rule.specs.Reasons.{refused, refused-with}
use Rattle.rule.specs.declared.Quarter.{Quarter}
use Rattle.rule.specs.declared.Term.{Term}
use Rattle.dates.specs.declared.Date.{Date}
use Rattle.facts.specs.declared.SolsticeYear.{SolsticeYear}
use Rattle.facts.specs.declared.YearFacts.{YearFacts}
use Rattle.facts.specs.declared.MonthFacts.{MonthFacts}
use Rattle.clerk.specs.declared.Clerk.{Clerk}
use Rattle.planets.specs.declared.Conjunction.{Conjunction}
use Rattle.planets.specs.declared.Next.{Next}
use Rattle.planets.specs.declared.Pair.{Pair}
use Rattle.drawer.specs.Paper.{FirstBad}
use Rattle.sheet.specs.declared.Counted.{Counted}
use Rattle.offered.specs.declared.CDate.{CDate}
use Rattle.offered.specs.declared.CDay.{CDay}
use Rattle.offered.specs.declared.CSolstice.{CSolstice}
use Rattle.offered.specs.declared.CYear.{CYear}
use Rattle.offered.specs.declared.CMonth.{CMonth}
use Rattle.offered.specs.declared.CClerk.{CClerk}
use Rattle.offered.specs.declared.CQuarter.{CQuarter}
use Rattle.offered.specs.declared.CTerm.{CTerm}
use Rattle.offered.specs.declared.CConjunction.{CConjunction}
use Rattle.offered.specs.declared.CNext.{CNext}
use Rattle.offered.specs.declared.CPair.{CPair}
use Rattle.offered.specs.declared.CFound.{CFound}
use Rattle.offered.specs.declared.CEmended.{CEmended}
use Rattle.offered.specs.declared.CFilled.{CFilled}
use Rattle.offered.specs.declared.CSheetCounts.{CSheetCounts}
use Rattle.offered.specs.declared.CLength.{CLength}
use Rattle.offered.specs.Flat.{
  given_date,
  no_date,
  given_day,
  no_day,
  given_solstice,
  no_solstice,
  given_year,
  no_year,
  given_month,
  no_month,
  given_clerk,
  no_clerk,
  given_quarter,
  no_quarter,
  given_term,
  no_term,
  given_conjunction,
  no_conjunction,
  given_next,
  no_next,
  given_pair,
  no_pair,
  flat_found,
  flat_emended,
  flat_filled,
  given_counts,
  no_counts,
  given_length,
  no_length,
}

-- every field but the reason is nought, of each struct
pub record BareDate (r : CDate) : Type 0 where
  pub year : r.year ≡ 0
  pub number : r.number ≡ 0
  pub leap : r.leap ≡ false
  pub day-of-month : r.day_of_month ≡ 0
  pub month-length : r.month_length ≡ 0
  pub day-name : r.day_name ≡ 0
  pub year-name : r.year_name ≡ 0
  pub ji : r.ji ≡ 0
  pub bu : r.bu ≡ 0
  pub year-in-bu : r.year_in_bu ≡ 0
  pub eclipse : r.eclipse ≡ false

pub record BareDay (r : CDay) : Type 0 where
  pub day : r.day ≡ 0

pub record BareSolstice (r : CSolstice) : Type 0 where
  pub ji : r.ji ≡ 0
  pub bu : r.bu ≡ 0
  pub year-in-bu : r.year_in_bu ≡ 0
  pub head-name : r.head_name ≡ 0
  pub first-month : r.first_month ≡ 0
  pub leap-remainder : r.leap_remainder ≡ 0
  pub months : r.months ≡ 0

pub record BareYear (r : CYear) : Type 0 where
  pub name : r.name ≡ 0
  pub first-month : r.first_month ≡ 0
  pub months : r.months ≡ 0
  pub has-leap : r.has_leap ≡ false
  pub leap-number : r.leap_number ≡ 0
  pub leap-month : r.leap_month ≡ 0

pub record BareMonth (r : CMonth) : Type 0 where
  pub number : r.number ≡ 0
  pub leap : r.leap ≡ false
  pub first-day : r.first_day ≡ 0
  pub small-remainder : r.small_remainder ≡ 0
  pub month-length : r.month_length ≡ 0
  pub first-name : r.first_name ≡ 0
  pub eclipse : r.eclipse ≡ false

pub record BareClerk (r : CClerk) : Type 0 where
  pub month-count : r.clerk.month_count ≡ 0
  pub first-day : r.clerk.first_day ≡ 0
  pub mid-term-day : r.clerk.mid_term_day ≡ 0
  pub small-remainder : r.clerk.small_remainder ≡ 0
  pub number : r.clerk.number ≡ 0
  pub leap : r.clerk.leap ≡ false
  pub month-length : r.clerk.month_length ≡ 0
  pub first-name : r.clerk.first_name ≡ 0
  pub eclipse : r.clerk.eclipse ≡ false
  pub eclipse-remainder : r.clerk.eclipse_remainder ≡ 0
  pub mid-term-parts : r.clerk.mid_term_parts ≡ 0

pub record BareQuarter (r : CQuarter) : Type 0 where
  pub day : r.day ≡ 0
  pub parts : r.parts ≡ 0

pub record BareTerm (r : CTerm) : Type 0 where
  pub day : r.day ≡ 0
  pub parts : r.parts ≡ 0

pub record BareConjunction (r : CConjunction) : Type 0 where
  pub day : r.day ≡ 0
  pub parts : r.parts ≡ 0
  pub divisor : r.divisor ≡ 0
  pub phase : r.phase ≡ 0

pub record BareNext (r : CNext) : Type 0 where
  pub count : r.k ≡ 0
  pub day : r.day ≡ 0
  pub parts : r.parts ≡ 0
  pub divisor : r.divisor ≡ 0
  pub phase : r.phase ≡ 0

pub record BarePair (r : CPair) : Type 0 where
  pub years : r.years ≡ 0
  pub conjunctions : r.conjunctions ≡ 0

pub record BareCounts (r : CSheetCounts) : Type 0 where
  pub years : r.years ≡ 0
  pub months : r.months ≡ 0
  pub days : r.days ≡ 0

pub record BareLength (r : CLength) : Type 0 where
  pub length : r.length ≡ 0

-- of a search: but the true total n where it is refused with 12
pub record BareFound (n : ℕ) (a : CFound) : Type 0 where
  pub other : a.reason ≢ 12 → a.total ≡ 0
  pub twelve : a.reason ≡ 12 → a.total ≡ n

-- of an emendation, of which n are the true total
pub record BareEmended (n : ℕ) (a : CEmended) : Type 0 where
  pub fits : a.fits ≡ false
  pub other : a.reason ≢ 12 → a.total ≡ 0
  pub twelve : a.reason ≡ 12 → a.total ≡ n

-- of a drawer: but the place of the first day out of range where it is refused with 6
pub record BareFilled (days : List ℕ) (r : CFilled) : Type 0 where
  pub count : r.count ≡ 0
  pub other : r.reason ≢ 6 → r.place ≡ 0
  pub six : r.reason ≡ 6 → FirstBad days r.place

-- a refusal has its reason's number, and no other field says anything; where a search or an emendation says the true total, or a
-- drawer a place, it is kept
pub record RefusalsFlat : Type 0 where
  pub date : (k : ℕ) → ((no_date k).reason ≡ k) × BareDate (no_date k)
  pub day : (k : ℕ) → ((no_day k).reason ≡ k) × BareDay (no_day k)
  pub solstice : (k : ℕ) → ((no_solstice k).reason ≡ k) × BareSolstice (no_solstice k)
  pub year : (k : ℕ) → ((no_year k).reason ≡ k) × BareYear (no_year k)
  pub month : (k : ℕ) → ((no_month k).reason ≡ k) × BareMonth (no_month k)
  pub clerk : (k : ℕ) → ((no_clerk k).reason ≡ k) × BareClerk (no_clerk k)
  pub quarter : (k : ℕ) → ((no_quarter k).reason ≡ k) × BareQuarter (no_quarter k)
  pub term : (k : ℕ) → ((no_term k).reason ≡ k) × BareTerm (no_term k)
  pub conjunction : (k : ℕ) → ((no_conjunction k).reason ≡ k) × BareConjunction (no_conjunction k)
  pub next : (k : ℕ) → ((no_next k).reason ≡ k) × BareNext (no_next k)
  pub pair : (k : ℕ) → ((no_pair k).reason ≡ k) × BarePair (no_pair k)
  pub found : (k : ℕ) → ((flat_found (refused k)).reason ≡ k) × ((flat_found (refused k)).total ≡ 0)
  pub too_short : (k n : ℕ) → ((flat_found (refused-with k n)).reason ≡ k) × ((flat_found (refused-with k n)).total ≡ n)
  pub emended : (k : ℕ) → flat_emended (refused k) ≡ record { reason = k; fits = false; total = 0 }
  pub emended-too-short : (k n : ℕ) → flat_emended (refused-with k n) ≡ record { reason = k; fits = false; total = n }
  pub filled : (k : ℕ) → flat_filled (refused k) ≡ record { reason = k; count = 0; place = 0 }
  pub bad-day : (k i : ℕ) → flat_filled (refused-with k i) ≡ record { reason = k; count = 0; place = i }
  pub counts : (k : ℕ) → ((no_counts k).reason ≡ k) × BareCounts (no_counts k)
  pub length : (k : ℕ) → ((no_length k).reason ≡ k) × BareLength (no_length k)

-- nothing that was answered is lost: two answers that are laid flat alike are the same
pub record NothingLost : Type 0 where
  pub date : (a b : Date) → given_date a ≡ given_date b → a ≡ b
  pub day : (a b : ℕ) → given_day a ≡ given_day b → a ≡ b
  pub solstice : (a b : SolsticeYear) → given_solstice a ≡ given_solstice b → a ≡ b
  pub year : (a b : YearFacts) → given_year a ≡ given_year b → a ≡ b
  pub month : (a b : MonthFacts) → given_month a ≡ given_month b → a ≡ b
  pub clerk : (a b : Clerk) → given_clerk a ≡ given_clerk b → a ≡ b
  pub quarter : (a b : Quarter) → given_quarter a ≡ given_quarter b → a ≡ b
  pub term : (a b : Term) → given_term a ≡ given_term b → a ≡ b
  pub conjunction : (a b : Conjunction) → given_conjunction a ≡ given_conjunction b → a ≡ b
  pub next : (a b : Next) → given_next a ≡ given_next b → a ≡ b
  pub pair : (a b : Pair) → given_pair a ≡ given_pair b → a ≡ b
  pub counts : (a b : Counted) → given_counts a ≡ given_counts b → a ≡ b
  pub length : (a b : ℕ) → given_length a ≡ given_length b → a ≡ b
