-- `newsheet::read_new` meets its contract. Assumes nothing.
use native.Mathlib.Omega.{arith}
use mathlib.Core.Path.{◌≡◌, sym}
use Rattle.std.proofs.lemmas.Result.{err_from_is_err_and}
use Rattle.rule.specs.Reasons.{is}
use Rattle.rule.specs.declared.Reason.TheVariants.{LentTooShort}
use Rattle.newsheet.proofs.Fourth.{whole}
use Rattle.newsheet.proofs.Calls.{read-new-refused, read-new-bad, few-readings, three-short, readings-short, to-fill-new, read-new-filled}
use Rattle.newsheet.proofs.read_new.Goals as goal

pub returns-then-not-has_room : goal.returns-then-not-has_room
returns-then-not-has_room c =
    let good : whole c.args.bytes.now ≡ is c.in_ok-c.c = sym c.in_ok-c.ensures in
    let room = c.has_room in let args = c.args in read-new-refused _ _ _ _ _ LentTooShort (three-short _ args.years.now args.months.now args.days.now args.readings.now _ good room.result room.ensures c.if-not-has_room.true)

pub overflow_mul-c : goal.overflow_mul-c
overflow_mul-c c =
    let good : whole c.args.bytes.now ≡ is c.in_ok-c.c = sym c.in_ok-c.ensures in
    let args = c.args in omega (arith, few-readings _ args.years.now args.months.now args.days.now args.readings.now _ good)

pub returns-then-readings-c : goal.returns-then-readings-c
returns-then-readings-c c =
    let good : whole c.args.bytes.now ≡ is c.in_ok-c.c = sym c.in_ok-c.ensures in
    let args = c.args in read-new-refused _ _ _ _ _ LentTooShort (readings-short _ args.years.now args.months.now args.days.now args.readings.now _ good (omega (arith, c.if-readings-c.true)))

pub fill_new-requires : goal.fill_new-requires
fill_new-requires c =
    let good : whole c.args.bytes.now ≡ is c.in_ok-c.c = sym c.in_ok-c.ensures in
    let room = c.has_room in let args = c.args in to-fill-new _ args.years.now args.months.now args.days.now args.readings.now _ good room.result room.ensures c.if-not-has_room.false (omega (arith, c.if-readings-c.false))

pub returns-in_err-c : goal.returns-in_err-c
returns-in_err-c c =
    let args = c.args in
    let p = err_from_is_err_and c.from_residual.result c.from_residual.ensures.1 in
    rw (p.1, p.2) (read-new-refused _ _ _ _ _ c.in_err-c.field-0.0 (read-new-bad _ args.years.now args.months.now args.days.now args.readings.now _ (sym c.in_err-c.ensures)))

pub returns : goal.returns
returns c =
    let good : whole c.args.bytes.now ≡ is c.in_ok-c.c = sym c.in_ok-c.ensures in
    let room = c.has_room in let args = c.args in read-new-filled _ args.years.now args.months.now args.days.now args.readings.now _ good room.result room.ensures c.if-not-has_room.false (omega (arith, c.if-readings-c.false)) _ _ _ _ c.fill_new.ensures
