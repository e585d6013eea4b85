-- `forms::after_first` meets its contract. Assumes nothing.
use native.Mathlib.Omega.{arith}
use Rattle.forms.proofs.Fields.{end-in, none_after, some_after}
use Rattle.forms.proofs.after_first.Goals as goal

pub returns-then-to-s : goal.returns-then-to-s
returns-then-to-s c = none_after c.args.s.now _ c.end_of-to.ensures c.if-to-s.true

pub overflow_add-result : goal.overflow_add-result
overflow_add-result c =
    let h = end-in c.args.s.now 0 _ (omega arith) c.end_of-to.ensures in record { fits = omega (arith, h) }

pub slice_bounds-result-count-2 : goal.slice_bounds-result-count-2
slice_bounds-result-count-2 c =
    let h = end-in c.args.s.now 0 _ (omega arith) c.end_of-to.ensures in omega (arith, h, c.if-to-s.false)

pub slice_bounds-result-start-2 : goal.slice_bounds-result-start-2
slice_bounds-result-start-2 c =
    let h = end-in c.args.s.now 0 _ (omega arith) c.end_of-to.ensures in omega (arith, h, c.if-to-s.false)

pub returns : goal.returns
returns c = some_after c.args.s.now _ c.end_of-to.ensures
