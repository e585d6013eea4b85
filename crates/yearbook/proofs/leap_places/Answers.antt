-- `yearbook::leap_places` meets its contract: antt computes the leap months of a bu, and they are the table. Assumes nothing.
use mathlib.Core.Path.{refl}
use Rattle.rule.specs.Lists.{those}
use Rattle.rule.specs.Rule.{month_start, mid_terms_before, leap}
use Rattle.yearbook.proofs.leap_places.Goals as goal

pub returns : goal.returns
unfolding those leap mid_terms_before month_start
returns c = refl
