-- `forms::past` meets its contract. Assumes nothing.
use mathlib.Core.Path.{sym, ◌∙◌}
use Rattle.forms.proofs.Likeness.{other_word_lem, kept-place, this_place, next_place}
use Rattle.forms.proofs.past.Goals as goal

pub returns-then-k-i : goal.returns-then-k-i
returns-then-k-i c = kept-place _ _ _ _ c.if-k-i.true

pub returns-then-begins_otherwise : goal.returns-then-begins_otherwise
returns-then-begins_otherwise c =
    next_place _ _ _ _ c.if-k-i.false (other_word_lem _ _ (sym c.begins_otherwise.ensures ∙ c.if-begins_otherwise.true))

pub returns-then-form-lt2 : goal.returns-then-form-lt2
returns-then-form-lt2 c = this_place _ _ _ _ c.if-k-i.false c.past_this.ensures c.is_like.ensures

pub returns : goal.returns
returns c = this_place _ _ _ _ c.if-k-i.false c.past_this-2.ensures c.is_like-2.ensures
