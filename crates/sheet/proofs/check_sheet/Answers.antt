-- `sheet::check_sheet` meets its contract. Assumes nothing.
use Rattle.rule.proofs.Answers.{handed_on}
use native.Mathlib.Omega.{arith}
use mathlib.Core.Path.{sym, ◌∙◌}
use Rattle.sheet.proofs.Reading.{Three, three, three-refused, bytes_after, nothing-after}
use mathlib.Core.List.{[]}
use Rattle.sheet.proofs.check_sheet.Goals as goal

pub end-requires : goal.end-requires
end-requires c =
    let found : Three c.args.s.now c.in_ok-c.c = three _ _ (sym c.in_ok-c.ensures) in
    (found).few

pub returns-then-end-s : goal.returns-then-end-s
returns-then-end-s c =
    let found : Three c.args.s.now c.in_ok-c.c = three _ _ (sym c.in_ok-c.ensures) in
    let f = found in sym (bytes_after _ _ f (omega (arith, c.end.ensures)))

pub returns-in_err-c : goal.returns-in_err-c
returns-in_err-c c =
    handed_on _ _ c.from_residual.ensures.1 ∙ sym (three-refused _ [] _ _ (sym c.in_err-c.ensures))

pub returns : goal.returns
returns c =
    let found : Three c.args.s.now c.in_ok-c.c = three _ _ (sym c.in_ok-c.ensures) in
    let f = found in sym (nothing-after _ _ f (omega (arith, c.end.ensures)))
