-- `fields::lent::put_digits` meets its contract: at each call the number is a tenth. Assumes nothing.
use native.Mathlib.Omega.{arith}
use mathlib.Core.Path.{ap, sym}
use lib.ListN.{length}
use Rattle.fields.proofs.Decimals.{decimal-one, decimal-more, decimal-some, length_more}
use Rattle.fields.proofs.Puts.{put-kept, wide, then, put_as}
use Rattle.fields.proofs.lent.+put_digits.Goals as goal

pub put_byte-requires : goal.put_byte-requires
put_byte-requires t c = omega (arith, decimal-some c.args.n)

pub returns-then-n-lt10 : goal.returns-then-n-lt10
returns-then-n-lt10 t c =
    let e = decimal-one c.args.n (omega arith) in
    wide (omega (arith, ap length e)) (put_as (sym e) c.put_byte.ensures)

pub put_digits-to-requires : goal.put_digits-to-requires
put_digits-to-requires t c = (omega arith, omega (arith, length_more c.args.n (omega arith)))

pub put_byte-requires-2 : goal.put_byte-requires-2
put_byte-requires-2 t c =
    let p = c.put_digits-to.ensures in
    omega (arith, put-kept p, p.few, length_more c.args.n (omega arith))

pub returns : goal.returns
returns t c =
    wide (omega (arith, length_more c.args.n (omega arith)))
    (put_as (sym (decimal-more c.args.n (omega arith))) (then c.put_digits-to.ensures c.put_byte-2.ensures))
