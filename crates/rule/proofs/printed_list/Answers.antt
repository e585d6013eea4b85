-- `rule::printed_list` meets its contract: antt computes the whole of the rule's list, and it is the table. Assumes nothing.
use Rattle.std.proofs.Common.{refl}
use Rattle.rule.specs.Rule.{month_start}
use Rattle.rule.proofs.Lists.{table, entry}
use Rattle.rule.proofs.printed_list.Goals as goal

pub returns : goal.returns
unfolding table month_start
returns c = record { places = refl; entry = entry month_start 940 }
