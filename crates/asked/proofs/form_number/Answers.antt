-- `asked::form_number` meets its contract: the forms that the line is held against are those of the table, by computing. Assumes nothing.
use mathlib.Core.Path.{◌∙◌}
use Rattle.forms.proofs.Likeness.{past_all, past_all_lem, and-past}
use Rattle.asked.specs.Asked.{forms, forms_of, table}
use Rattle.asked.proofs.form_number.Goals as goal

pub returns : goal.returns
unfolding forms forms_of table past_all
returns c =
    let e2 = and-past _ _ _ c.past-k1.ensures c.past-k2.ensures in
    let e3 = and-past _ _ _ e2 c.past-k3.ensures in
    let e4 = and-past _ _ _ e3 c.past-k4.ensures in
    let e5 = and-past _ _ _ e4 c.past-k5.ensures in
    let e6 = and-past _ _ _ e5 c.past-k6.ensures in
    let e7 = and-past _ _ _ e6 c.past-k7.ensures in
    let e8 = and-past _ _ _ e7 c.past-k8.ensures in
    let e9 = and-past _ _ _ e8 c.past-k9.ensures in
    let e10 = and-past _ _ _ e9 c.past-k10.ensures in
    let e11 = and-past _ _ _ e10 c.past-k11.ensures in
    let e12 = and-past _ _ _ e11 c.past-k12.ensures in
    let e13 = and-past _ _ _ e12 c.past-k13.ensures in
    let e14 = and-past _ _ _ e13 c.past-k14.ensures in
    let e15 = and-past _ _ _ e14 c.past.ensures in
    e15 ∙ past_all_lem _ forms
