-- `rule::solstice_first_month` meets its contract: the formula itself. Assumes nothing.
use Rattle.rule.specs.Rule.{solstice_first_month}
use Rattle.std.proofs.Common.{rules}
use Rattle.rule.proofs.solstice_first_month.Goals as goal

pub returns : goal.returns
unfolding solstice_first_month
returns c = search rules
