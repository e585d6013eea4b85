-- `drawer::drawer_at` meets its contract. Assumes nothing.
use Rattle.std.proofs.Common.{sym, ◌∙◌, arith}
use Rattle.drawer.proofs.Days.{too_many, too_few, by-days, all-in-range}
use Rattle.drawer.proofs.drawer_at.Goals as goal

pub returns-then-n-gt4096 : goal.returns-then-n-gt4096
returns-then-n-gt4096 c = sym (too_many _ _ (omega arith))

pub returns-then-room-n : goal.returns-then-room-n
returns-then-room-n c = sym (too_few _ _ (omega arith) (omega arith))

pub returns-then-all_in_range : goal.returns-then-all_in_range
returns-then-all_in_range c =
    sym (by-days _ _ (omega arith) (omega arith) ∙ all-in-range _ (sym c.all_in_range.ensures ∙ c.if-all_in_range.true))

pub returns : goal.returns
returns c = c.first_outside.ensures ∙ sym (by-days _ _ (omega arith) (omega arith))
