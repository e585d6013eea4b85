-- `rule::quarter_of` meets its contract: the two formulas themselves. Assumes nothing.
use Rattle.rule.specs.Rule.{quarter_day, quarter_parts}
use Rattle.std.proofs.Common.{rules}
use Rattle.rule.proofs.quarter_of.Goals as goal

pub returns : goal.returns
unfolding quarter_day quarter_parts
returns c = search rules
