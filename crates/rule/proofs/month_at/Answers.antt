-- `rule::month_at` meets its contract: the leap mark and the number, put together. Assumes nothing.
use Rattle.std.proofs.Common.{◌∙◌, ap₂}
use Rattle.rule.specs.Rule.{marked, month_at}
use Rattle.rule.proofs.month_at.Goals as goal

pub returns : goal.returns
unfolding month_at
returns c = c.marked.ensures ∙ ap₂ marked c.is_leap.ensures c.month_number.ensures
