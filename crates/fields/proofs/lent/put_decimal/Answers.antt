-- `fields::lent::put_decimal` meets its contract: a number of 32 bits has ten digits at most. Assumes nothing.
use native.Mathlib.Omega.{arith}
use Rattle.fields.proofs.Decimals.{decimal-short}
use Rattle.fields.proofs.Puts.{wide}
use Rattle.fields.proofs.lent.put_decimal.Goals as goal

pub put_digits-requires : goal.put_digits-requires
put_digits-requires c = omega (arith, decimal-short 9 c.args.n (omega arith))

pub returns : goal.returns
returns c = wide (decimal-short 9 c.args.n (omega arith)) c.put_digits.ensures
