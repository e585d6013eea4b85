-- `answered::eight_at` meets its contract. Assumes nothing.
use Prim.Native.Nat.{◌-◌, ◌*◌}
use native.Mathlib.Omega.{arith}
use mathlib.Core.Path.{ap, sym, ◌∙◌}
use lib.ListN.{length, take, drop, length-drop}
use Rattle.rule.proofs.Stores.{part-all}
use Rattle.newsheet.proofs.Eights.{first-eight}
use Rattle.answered.proofs.eight_at.Goals as goal

pub returns : goal.returns
returns c =
    let a = c.args in let l = a.list.now in let e = part-all (8 * a.j) l in sym (first-eight (take (length l - 8 * a.j) (drop (8 * a.j) l)) (omega (arith, ap length e, length-drop (8 * a.j) l))) ∙ ap (take 8) e
