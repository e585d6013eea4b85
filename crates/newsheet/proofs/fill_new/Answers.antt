-- `newsheet::fill_new` meets its contract: the fourth list is filled from where the three sections end. Assumes nothing.
use Prim.Native.Nat.{ℕ}
use native.Mathlib.Omega.{arith}
use mathlib.Core.Path.{ap, ◌∙◌}
use mathlib.Core.List.{List}
use lib.ListN.{drop}
use lib.Seq.{sets}
use Rattle.rule.proofs.Stores.{part-all}
use Rattle.newsheet.specs.New.{eights}
use Rattle.newsheet.proofs.Calls.{fill-three, three-there, readings-few, readings-long, readings-room, readings-stored}
use Rattle.newsheet.proofs.fill_new.Goals as goal

pub fill_sheet-requires : goal.fill_sheet-requires
fill_sheet-requires c = fill-three c.requires

pub end-end-requires : goal.end-end-requires
end-end-requires c = (three-there c.requires).few

pub slice_bounds-fill_readings-count : goal.slice_bounds-fill_readings-count
slice_bounds-fill_readings-count c = omega (arith, c.end-end.ensures, (three-there c.requires).long)

pub slice_bounds-fill_readings-start : goal.slice_bounds-fill_readings-start
slice_bounds-fill_readings-start c = omega (arith, c.end-end.ensures, (three-there c.requires).long)

pub fill_readings-requires : goal.fill_readings-requires
fill_readings-requires c =
    let args = c.args in let p = c.requires in let e = (part-all _ args.s.now ∙ ap (λ (i : ℕ). drop i args.s.now) c.end-end.ensures) in (readings-few p, readings-long p _ e, readings-room p)

pub returns : goal.returns
returns c =
    let args = c.args in let e = (part-all _ args.s.now ∙ ap (λ (i : ℕ). drop i args.s.now) c.end-end.ensures) in record { three = c.fill_sheet.ensures; readings = c.fill_readings.ensures ∙ ap (λ (xs : List ℕ). sets args.readings.now 0 (eights xs)) (readings-stored c.requires _ e) }
