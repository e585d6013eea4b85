-- `forms::admits` meets its contract: an arm for each letter, and any other field. Assumes nothing.
use native.Mathlib.Omega.{arith}
use mathlib.Core.Path.{ap₂, sym, ◌∙◌}
use mathlib.Core.Bool.{Bool, ◌||◌}
use Rattle.forms.specs.Forms.{admits}
use Rattle.forms.proofs.Likeness.{no-letter}
use Rattle.forms.proofs.admits.Goals as goal

pub returns-in-110 : goal.returns-in-110
unfolding admits
returns-in-110 c = rw (sym c.letter.ensures ∙ c.in-110.is) c.is_decimal.ensures

pub returns-in-109 : goal.returns-in-109
unfolding admits
returns-in-109 c = rw (sym c.letter.ensures ∙ c.in-109.is) c.is_mark.ensures

pub returns-in-115 : goal.returns-in-115
unfolding admits
returns-in-115 c =
    rw (sym c.letter.ensures ∙ c.in-115.is)
    (ap₂ (λ (a b : Bool). a || b) c.is_decimal-in-115.ensures c.is_back.ensures)

pub returns-in-102 : goal.returns-in-102
unfolding admits
returns-in-102 c =
    rw (sym c.letter.ensures ∙ c.in-102.is)
    (ap₂ (λ (a b : Bool). a || b) c.is_decimal-in-102.ensures c.same.ensures)

pub returns-in-103 : goal.returns-in-103
unfolding admits
returns-in-103 c =
    rw (sym c.letter.ensures ∙ c.in-103.is)
    (ap₂ (λ (a b : Bool). a || b) c.is_mark-in-103.ensures c.same-in-103.ensures)

pub returns-in_default : goal.returns-in_default
returns-in_default c =
    c.same-in_default.ensures
    ∙ no-letter _ _ (λ i. omega (arith, i)) (λ i. omega (arith, i)) (λ i. omega (arith, i))
    (λ i. omega (arith, i)) (λ i. omega (arith, i))
