-- `newsheet::to_new` meets its contract. Assumes nothing.
use native.Mathlib.Omega.{arith}
use mathlib.Core.Path.{sym, ◌∙◌}
use Rattle.std.proofs.lemmas.Result.{err_from_is_err_and}
use Rattle.rule.proofs.Stores.{from_front}
use Rattle.rule.specs.declared.Reason.TheVariants.{LentTooShort}
use Rattle.newsheet.proofs.Calls.{to-new-refused, to-new-bad, to-new-short, to-new-copied}
use Rattle.newsheet.proofs.to_new.Goals as goal

pub returns-then-out-n : goal.returns-then-out-n
returns-then-out-n c =
    to-new-refused _ _ LentTooShort (to-new-short _ c.args.out.now _ (sym c.in_ok-check_sheet.ensures) (omega (arith, c.if-out-n.true)))

pub returns-in_err-check_sheet : goal.returns-in_err-check_sheet
returns-in_err-check_sheet c =
    let p = err_from_is_err_and c.from_residual.result c.from_residual.ensures.1 in
    rw (p.1, p.2) (to-new-refused _ _ c.in_err-check_sheet.field-0.0 (to-new-bad _ c.args.out.now _ (sym c.in_err-check_sheet.ensures)))

pub returns : goal.returns
returns c =
    rw (c.copy_bytes.ensures ∙ from_front c.args.bytes.now c.args.out.now (omega (arith, c.if-out-n.false)))
    (to-new-copied _ c.args.out.now _ (sym c.in_ok-check_sheet.ensures) (omega (arith, c.if-out-n.false)))
