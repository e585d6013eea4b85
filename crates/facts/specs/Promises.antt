-- What the five calls promise: the paper's number and values for each case of an answer, for every input.
-- Assumes nothing.
use Rattle.rule.specs.declared.Reason.{Reason}
use Rattle.std.specs.Prelude.{Result, ℕ, ◌≡◌}
use Rattle.rule.specs.Reasons.{said}
use Rattle.rule.specs.declared.Quarter.{Quarter}
use Rattle.rule.specs.declared.Term.{Term}
use Rattle.facts.specs.declared.SolsticeYear.{SolsticeYear}
use Rattle.facts.specs.declared.YearFacts.{YearFacts}
use Rattle.facts.specs.declared.MonthFacts.{MonthFacts}
use Rattle.facts.specs.Facts.{solstice_year_at, year_facts_at, month_facts_at, quarter_at, term_at}

-- a solstice year's facts
abbrev pub SolsticeYearFacts : ℕ → Result SolsticeYear Reason → Type 0
SolsticeYearFacts y r = said r ≡ solstice_year_at y

-- a civil year's own
abbrev pub YearOwnFacts : ℕ → Result YearFacts Reason → Type 0
YearOwnFacts y r = said r ≡ year_facts_at y

-- a month by its count
abbrev pub MonthByCount : ℕ → Result MonthFacts Reason → Type 0
MonthByCount n r = said r ≡ month_facts_at n

-- a quarter of a month
abbrev pub QuarterOfMonth : ℕ → ℕ → Result Quarter Reason → Type 0
QuarterOfMonth n q r = said r ≡ quarter_at n q

-- a term of a solstice year
abbrev pub TermOfYear : ℕ → ℕ → Result Term Reason → Type 0
TermOfYear y k r = said r ≡ term_at y k
