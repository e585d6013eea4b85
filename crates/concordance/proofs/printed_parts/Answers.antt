-- `concordance::printed_parts` meets its contract. Assumes nothing.
use Rattle.concordance.proofs.Parting.{printed-is}
use Rattle.concordance.proofs.printed_parts.Goals as goal

pub returns : goal.returns
returns c =
    printed-is c.month_facts_at-f.ensures c.number_of.ensures c.leap_mark.ensures
