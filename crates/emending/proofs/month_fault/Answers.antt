-- `emending::month_fault` meets its contract. Assumes nothing.
use mathlib.Core.Path.{sym, ◌∙◌}
use Rattle.emending.proofs.Faulty.{month-more, month-made}
use Rattle.emending.proofs.month_fault.Goals as goal

pub returns-then-is_more : goal.returns-then-is_more
returns-then-is_more c = month-more _ _ c.name_fault-names.ensures (sym c.is_more.ensures ∙ c.if-is_more.true)

pub returns : goal.returns
returns c = month-made _ _ c.name_fault-names.ensures c.number_fault.ensures c.together.ensures
