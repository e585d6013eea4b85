-- `forms::move_of` meets its contract. Assumes nothing.
use Prim.Native.Nat.{ℕ}
use mathlib.Core.Path.{ap, ◌∙◌}
use mathlib.Core.List.{List}
use lib.IntN.{pos}
use Rattle.fields.specs.Paper.{value_from}
use Rattle.capped.specs.Capped.{capped}
use Rattle.forms.specs.Forms.{back}
use Rattle.forms.proofs.Scanning.{to_the_end}
use Rattle.forms.proofs.Moves.{plus, minus, no_move, move-back, move-on}
use Rattle.forms.proofs.move_of.Goals as goal

pub returns-then-s-eq0 : goal.returns-then-s-eq0
returns-then-s-eq0 c = no_move c.args.s.now c.if-s-eq0.true

pub returns-then-s-eq45 : goal.returns-then-s-eq45
returns-then-s-eq45 c =
    minus c.value_of.result (record { fits = c.value_of.type_inv }) ∙ ap back (c.value_of.ensures ∙ ap (λ (s : List ℕ). capped (value_from 0 s)) (to_the_end 1 c.args.s.now)) ∙ move-back c.args.s.now c.if-s-eq0.false c.if-s-eq45.true

pub returns : goal.returns
returns c =
    plus c.value_of-2.result (record { fits = c.value_of-2.type_inv }) ∙ ap pos c.value_of-2.ensures ∙ move-on c.args.s.now c.if-s-eq0.false c.if-s-eq45.false
