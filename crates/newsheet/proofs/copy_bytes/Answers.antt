-- `newsheet::copy_bytes` meets its contract. Assumes nothing.
use Rattle.std.proofs.Common.{ℕ, ◌≡◌, ◌+◌, ◌≤◌, ◌<◌, List, length, drop, get_or, refl, sym, ◌∙◌}
use lib.ListN.{set, length-set, drop_of_length-le}
use lib.Seq.{sets, drop-cons}
use native.Mathlib.Numerals.{add-one}
use Rattle.newsheet.proofs.copy_bytes.Goals as goal

-- the byte at i, and what is left after it
next : (s out : List ℕ) (i : ℕ) → i < length s → sets (set out i (get_or s i 0)) (i + 1) (drop (i + 1) s) ≡ sets out i (drop i s)
next s out i h = rw (drop-cons s i 0 h, add-one i) refl

done : (s out : List ℕ) (i : ℕ) → length s ≤ i → sets out i (drop i s) ≡ out
done s out i h = rw (drop_of_length-le s h) refl

pub loop-i-init : goal.loop-i-init
loop-i-init c = (refl, refl)

pub loop-i-preserved : goal.loop-i-preserved
loop-i-preserved c =
    let l = c.loop-i in
    (length-set l.out l.i _ ∙ l.invariant.0, next c.args.bytes.now l.out l.i c.loop-i-test.true ∙ l.invariant.1)

pub returns : goal.returns
returns c =
    let l = c.loop-i in sym (done c.args.bytes.now l.out l.i c.loop-i-test.false) ∙ l.invariant.1
