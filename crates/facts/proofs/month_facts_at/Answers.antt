-- `facts::month_facts_at` meets its contract: the parts, each as the rule has it. Assumes nothing.
use Rattle.facts.proofs.Made.{month-made}
use Rattle.facts.proofs.month_facts_at.Goals as goal

pub returns : goal.returns
returns c =
    month-made c.args.n c.month_at-month.ensures c.month_start-first_day.ensures c.small_remainder.ensures
    c.month_length.ensures c.day_name.ensures c.is_eclipse.ensures
