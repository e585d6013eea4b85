-- `rule::is_leap` meets its contract: as many mid-terms before the month's end as before its start. Assumes nothing.
use Rattle.rule.specs.Rule.{leap}
use Rattle.rule.proofs.is_leap.Goals as goal

pub returns : goal.returns
unfolding leap
returns c = cc
