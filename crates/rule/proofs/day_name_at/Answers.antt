-- `rule::day_name_at` meets its contract: the name in parts of sixty days. Assumes nothing.
use Rattle.rule.proofs.Counts.{name-in-parts}
use Rattle.rule.proofs.day_name_at.Goals as goal

pub returns : goal.returns
returns c = name-in-parts c.args.day c.requires
