-- `rule::term_of` meets its contract: the two formulas themselves. Assumes nothing.
use Rattle.std.proofs.Common.{refl}
use Rattle.rule.specs.Rule.{term_day, term_parts}
use Rattle.rule.proofs.term_of.Goals as goal

pub returns : goal.returns
unfolding term_day term_parts
returns c = (refl, refl)
