-- What facts are computed with at named inputs: on an `unfolding` line this name brings all that its own line names. Assumes nothing.
use Prim.Native.Nat.{ℕ}
use Rattle.rule.proofs.Computing.{rule-computed}
use Rattle.facts.specs.Facts.{
  solstice_year,
  solstice_year_at,
  leap_month,
  year_facts,
  year_facts_at,
  month_facts,
  month_facts_at,
  quarter_of,
  quarter_at,
  term_of,
  term_at,
}

unfoldable pub facts-computed : ℕ
unfolding solstice_year solstice_year_at leap_month year_facts year_facts_at month_facts month_facts_at quarter_of quarter_at term_of term_at rule-computed
facts-computed = 0
