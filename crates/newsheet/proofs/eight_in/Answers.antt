-- `newsheet::eight_in` meets its contract. Assumes nothing.
use native.Mathlib.Omega.{arith}
use mathlib.Core.Path.{ap, ◌∙◌}
use Rattle.rule.proofs.Stores.{part-all}
use Rattle.octets.specs.Bytes.{number}
use Rattle.newsheet.proofs.Eights.{eight-given}
use Rattle.newsheet.proofs.eight_in.Goals as goal

pub returns : goal.returns
returns c =
    let s = c.args.s.now in eight-given s _ _ c.requires (λ i. omega (arith, c.type_inv.s i)) (c.number_in-first.ensures.0 ∙ ap (number 4) (part-all 6 s)) (c.number_in-last.ensures.0 ∙ ap (number 4) (part-all 10 s))
