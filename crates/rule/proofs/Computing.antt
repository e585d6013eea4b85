-- What the rule is computed with at named inputs: on an `unfolding` line this name brings all that its own line names. Assumes nothing.
use Rattle.std.proofs.Common.{ℕ}
use Rattle.rule.specs.Counts.{day_name, year_name, ji, bu, year_in_bu, head_name}
use Rattle.rule.specs.Lists.{those}
use Rattle.rule.specs.Rule.{
  month_start,
  small_remainder,
  month_length,
  month_of_day,
  quarter_day,
  quarter_parts,
  term_day,
  term_parts,
  mid_term_day,
  solstice_first_month,
  leap_remainder,
  months_in_solstice_year,
  solstice_year_of_month,
  mid_terms_before,
  leap,
  mid_term_number,
  month_number,
  month_at,
  civil_year_of_month,
  civil_first_month,
  months_in_civil_year,
  eclipse,
  shortcut_number,
}

counts : ℕ
unfolding day_name year_name ji bu year_in_bu head_name those
counts = 0

months : ℕ
unfolding month_start small_remainder month_length month_of_day quarter_day quarter_parts mid_terms_before leap mid_term_number month_number month_at eclipse
months = 0

unfoldable pub rule-computed : ℕ
unfolding term_day term_parts mid_term_day solstice_first_month leap_remainder months_in_solstice_year solstice_year_of_month civil_year_of_month civil_first_month months_in_civil_year shortcut_number counts months
rule-computed = 0
