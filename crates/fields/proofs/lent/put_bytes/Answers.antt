-- `fields::lent::put_bytes` meets its contract. Assumes nothing.
use Rattle.std.proofs.Common.{◌≡◌, ◌+◌, ◌-◌, length, refl, sym, ◌∙◌, arith}
use mathlib.Core.List.{append_assoc}
use lib.ListN.{take, drop}
use lib.Seq.{sets-eq, drop-drop}
use Rattle.fields.proofs.lent.put_bytes.Goals as goal

pub returns : goal.returns
returns c =
    let at = c.args.at in
    let out = c.args.out.now in
    let s = c.args.s.now in
    let n = length s in
    let e : at + n - at ≡ n = omega arith in
    record {
      stored =
          rw (c.copy_from_slice.ensures.after, e, drop-drop n at out)
          (sym (append_assoc (take at out) s (drop (at + n) out)) ∙ sym (sets-eq s out at (omega (arith, c.requires))));
      next = refl;
      few = omega arith;
    }
