-- `sheet::read_sheet` meets its contract. Assumes nothing.
use Rattle.std.proofs.lemmas.Result.{err_from_is_err_and}
use mathlib.Core.Path.{sym}
use Rattle.rule.specs.declared.Reason.TheVariants.{LentTooShort}
use Rattle.sheet.proofs.Sheets.{read-refused, read-bad, read_short, to_fill, read-filled}
use Rattle.sheet.proofs.read_sheet.Goals as goal

pub returns-then-not-has_room : goal.returns-then-not-has_room
returns-then-not-has_room c =
    let args = c.args in let room = c.has_room in read-refused _ _ _ _ LentTooShort (read_short _ args.years.now args.months.now args.days.now c.in_ok-c.c (sym c.in_ok-c.ensures) room.result room.ensures c.if-not-has_room.true)

pub fill_sheet-requires : goal.fill_sheet-requires
fill_sheet-requires c =
    let args = c.args in let room = c.has_room in to_fill _ args.years.now args.months.now args.days.now c.in_ok-c.c (sym c.in_ok-c.ensures) room.result room.ensures c.if-not-has_room.false

pub returns-in_err-c : goal.returns-in_err-c
returns-in_err-c c =
    let args = c.args in let p = err_from_is_err_and c.from_residual.result c.from_residual.ensures.1 in rw (p.1, p.2) (read-refused _ _ _ _ c.in_err-c.field-0.0 (read-bad _ args.years.now args.months.now args.days.now _ (sym c.in_err-c.ensures)))

pub returns : goal.returns
returns c =
    let room = c.has_room in read-filled _ _ _ _ c.in_ok-c.c (sym c.in_ok-c.ensures) room.result room.ensures c.if-not-has_room.false _ _ _ c.fill_sheet.ensures
