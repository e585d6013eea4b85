-- `sheet::count_at` meets its contract. Assumes nothing.
use native.Mathlib.Omega.{arith}
use mathlib.Core.Path.{◌≡◌, sym}
use borrow.Author.Tests.{le-leb, lt-leb}
use Rattle.sheet.specs.Sheet.{count_of, count_read}
use mathlib.Core.Path.{◌∙◌}
use Rattle.sheet.proofs.count_at.Goals as goal

pub returns-then-not-is_whole : goal.returns-then-not-is_whole
unfolding count_read
returns-then-not-is_whole c k h = let whole = c.is_whole in rw (sym whole.ensures ∙ c.if-not-is_whole.true)

pub returns-then-most-n : goal.returns-then-most-n
unfolding count_read
returns-then-most-n c k h =
    let args = c.args in let number = c.number_in-n in let whole = c.is_whole in let e : count_of args.s.now ≡ number.result = sym number.ensures.0 in rw (sym whole.ensures ∙ c.if-not-is_whole.false, lt-leb (count_of args.s.now) k.items (omega arith))

pub returns : goal.returns
unfolding count_read
returns c k h =
    let args = c.args in let number = c.number_in-n in let whole = c.is_whole in let e : count_of args.s.now ≡ number.result = sym number.ensures.0 in rw (sym whole.ensures ∙ c.if-not-is_whole.false, le-leb (count_of args.s.now) k.items (omega arith), e)
