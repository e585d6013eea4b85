-- `sheet::write_sheet` meets its contract. Assumes nothing.
use Rattle.std.proofs.lemmas.Result.{err_from_is_err_and}
use native.Mathlib.Omega.{arith}
use mathlib.Core.Path.{sym}
use Rattle.rule.specs.declared.Reason.TheVariants.{LentTooShort}
use Rattle.sheet.proofs.Sheets.{write-refused, write-bad, write-short, to-lay, write-laid}
use Rattle.sheet.proofs.write_sheet.Goals as goal

pub returns-then-out-n : goal.returns-then-out-n
returns-then-out-n c =
    write-refused _ _ _ _ LentTooShort (write-short _ _ _ c.args.out.now c.in_ok-n.n (sym c.in_ok-n.ensures) (omega arith))

pub lay_sheet-requires : goal.lay_sheet-requires
lay_sheet-requires c =
    let args = c.args in to-lay args.years.now args.months.now args.days.now args.out.now c.in_ok-n.n (sym c.in_ok-n.ensures) (omega arith)

pub returns-in_err-n : goal.returns-in_err-n
returns-in_err-n c =
    let p = err_from_is_err_and c.from_residual.result c.from_residual.ensures.1 in rw (p.1, p.2) (write-refused _ _ _ _ c.in_err-n.field-0.0 (write-bad _ _ _ c.args.out.now _ (sym c.in_err-n.ensures)))

pub returns : goal.returns
returns c =
    write-laid _ _ _ c.args.out.now c.in_ok-n.n (sym c.in_ok-n.ensures) (omega arith) _ c.lay_sheet.ensures
