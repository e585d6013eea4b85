-- `clerk::at_head` meets its contract: the parts, each as the definition has it. Assumes nothing.
use mathlib.Core.Path.{refl}
use Rattle.clerk.specs.Clerk.{head}
use Rattle.clerk.proofs.at_head.Goals as goal

pub returns : goal.returns
unfolding head
returns c = rw (c.mid_term_ahead-ahead.ensures, c.days_on.ensures, c.day_name.ensures) refl
