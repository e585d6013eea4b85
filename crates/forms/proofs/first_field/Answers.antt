-- `forms::first_field_lem` meets its contract. Assumes nothing.
use native.Mathlib.Omega.{arith}
use Rattle.forms.proofs.Fields.{end-in, front-is}
use Rattle.forms.proofs.first_field.Goals as goal

pub slice_bounds-result-end : goal.slice_bounds-result-end
slice_bounds-result-end c = end-in c.args.s.now 0 _ (omega arith) c.end_of-to.ensures

pub returns : goal.returns
returns c = front-is c.args.s.now _ c.end_of-to.ensures
