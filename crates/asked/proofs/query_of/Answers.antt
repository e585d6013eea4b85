-- `asked::query_of` meets its contract: an arm for each row of the table. Assumes nothing.
use native.Mathlib.Omega.{arith}
use mathlib.Core.Path.{refl, ap, sym, ◌∙◌}
use mir.Syntax.{w64}
use mir.Val.{SFits}
use mir.ValLaws.{to_z-of_z}
use Rattle.forms.specs.Forms.{fields_in}
use Rattle.asked.specs.declared.Query.{Query}
use Rattle.asked.specs.Asked.{table, query_at}
use Rattle.asked.proofs.Rows.{arm, beyond}
use borrow.Author.Rules.{rules}
use Rattle.asked.proofs.query_of.Goals as goal

pub returns-in-10 : goal.returns-in-10
unfolding table query_at
returns-in-10 c =
    let w = c.read_places-w.result in let f : SFits w64 w.s5 = search rules in ap (Query.Move w.n1 w.n2 w.m3 w.n4) (to_z-of_z w64 w.s5 f) ∙ arm (fields_in c.args.line.now) c.read_places-w.ensures c.in-10.is refl

pub returns-in-11 : goal.returns-in-11
unfolding table query_at
returns-in-11 c =
    let w = c.read_places-w.result in ap (λ s. Query.Search s w.n7 w.n8) c.read_slip.ensures ∙ arm (fields_in c.args.line.now) c.read_places-w.ensures c.in-11.is refl

pub returns-in-12 : goal.returns-in-12
unfolding table query_at
returns-in-12 c =
    let w = c.read_places-w.result in ap (λ s. Query.Emend s w.n7 w.n8) c.read_slip-in-12.ensures ∙ arm (fields_in c.args.line.now) c.read_places-w.ensures c.in-12.is refl

pub returns-in_default : goal.returns-in_default
unfolding table query_at
returns-in_default c = sym (beyond (table _ _) _ (omega arith))
