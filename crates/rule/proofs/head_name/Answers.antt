-- `rule::head_name` meets its contract: the name of the bu's first day. Assumes nothing.
use Rattle.rule.specs.Counts.{head_name}
use Rattle.rule.proofs.head_name.Goals as goal

pub returns : goal.returns
unfolding head_name
returns c = c.day_name.ensures
