-- `sheet::lay_sheet` meets its contract. Assumes nothing.
use Prim.Native.Nat.{◌+◌, ◌*◌}
use native.Mathlib.Omega.{arith}
use mathlib.Core.Path.{refl}
use mathlib.Core.List.{[], ◌∷◌}
use lib.ListN.{length}
use Rattle.sheet.specs.Sheet.{ranged, year_items, month_items, day_items, sheet_of}
use Rattle.sheet.proofs.Laying.{laid-section, laid_next, laid_none}
use Rattle.sheet.proofs.lay_sheet.Goals as goal

pub returns : goal.returns
unfolding sheet_of
returns c =
    let args = c.args in let y = args.years.now in let m = args.months.now in let d = args.days.now in let p = 2 + 2 * length y in let q = p + (2 + 4 * length m) in laid_next (ranged year_items) (ranged month_items ∷ ranged day_items ∷ []) (y, (m, (d, tt))) args.out.now _ _ 0 p (omega arith) (laid-section (ranged year_items) y args.out.now _ _ 0 2 (omega arith) c.lay_number.ensures c.lay_each.ensures) (laid_next (ranged month_items) (ranged day_items ∷ []) (m, (d, tt)) _ _ _ p q refl (laid-section (ranged month_items) m _ _ _ p (p + 2) (omega arith) c.lay_number-2.ensures c.lay_each-2.ensures) (laid_next (ranged day_items) [] (d, tt) _ _ _ q (q + (2 + 4 * length d)) refl (laid-section (ranged day_items) d _ _ _ q (q + 2) (omega arith) c.lay_number-3.ensures c.lay_each-3.ensures) (laid_none _ _)))
