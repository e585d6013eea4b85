-- `newsheet::to_old` meets its contract. Assumes nothing.
use Prim.Native.Nat.{◌-◌}
use native.Mathlib.Omega.{arith}
use mathlib.Core.Path.{◌≡◌, sym, ◌∙◌}
use lib.ListN.{length, take}
use lib.Seq.{length-take-le}
use Rattle.std.proofs.lemmas.Result.{err_from_is_err_and}
use Rattle.rule.proofs.Stores.{from_front}
use Rattle.rule.specs.declared.Reason.TheVariants.{LentTooShort, ReadingsPresent}
use Rattle.newsheet.proofs.Calls.{to-old-refused, to-old-bad, two-at-least, to-old-present, to-old-short, to-old-copied}
use Rattle.newsheet.proofs.to_old.Goals as goal

pub returns-then-c-gt0 : goal.returns-then-c-gt0
returns-then-c-gt0 c =
    to-old-refused _ _ ReadingsPresent (to-old-present _ c.args.out.now c.in_ok-c.c (sym c.in_ok-c.ensures) (omega (arith, c.if-c-gt0.true)))

pub overflow_sub-n : goal.overflow_sub-n
overflow_sub-n c =
    two-at-least _ c.args.out.now c.in_ok-c.c (sym c.in_ok-c.ensures)

pub returns-then-out-n : goal.returns-then-out-n
returns-then-out-n c =
    to-old-refused _ _ LentTooShort (to-old-short _ c.args.out.now c.in_ok-c.c (sym c.in_ok-c.ensures) (omega (arith, c.if-c-gt0.false)) c.if-out-n.true)

pub returns-in_err-c : goal.returns-in_err-c
returns-in_err-c c =
    let p = err_from_is_err_and c.from_residual.result c.from_residual.ensures.1 in
    rw (p.1, p.2) (to-old-refused _ _ c.in_err-c.field-0.0 (to-old-bad _ c.args.out.now _ (sym c.in_err-c.ensures)))

pub returns : goal.returns
returns c =
    let s = c.args.bytes.now in
    let n = length s - 2 in
    let e : length (take n s) ≡ n = length-take-le n s (omega arith) in
    rw (c.copy_bytes.ensures ∙ from_front (take n s) c.args.out.now (omega (arith, e, c.if-out-n.false)), e)
    (to-old-copied _ c.args.out.now c.in_ok-c.c (sym c.in_ok-c.ensures) (omega (arith, c.if-c-gt0.false)) c.if-out-n.false)
