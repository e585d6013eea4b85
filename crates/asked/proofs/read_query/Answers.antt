-- `asked::read_query` meets its contract: a note, or the query of the line's form. Assumes nothing.
use mathlib.Core.Path.{refl, sym, ◌∙◌}
use Rattle.asked.specs.Asked.{read_by}
use Rattle.asked.proofs.read_query.Goals as goal

pub returns-then-is_hashed : goal.returns-then-is_hashed
unfolding read_by
returns-then-is_hashed c = rw (sym c.is_hashed.ensures ∙ c.if-is_hashed.true) refl

pub returns : goal.returns
unfolding read_by
returns c =
    rw (sym c.is_hashed.ensures ∙ c.if-is_hashed.false, c.query_of.ensures, c.form_number.ensures) refl
