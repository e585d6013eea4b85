-- `capped::cap` meets its contract, by its test. Assumes nothing.
use native.Mathlib.Omega.{arith}
use Rattle.capped.proofs.cap.Goals as goal

pub overflow_cast-result : goal.overflow_cast-result
overflow_cast-result c = omega (arith, c.if-n-lt4294967295.true)

pub returns-then-n-lt4294967295 : goal.returns-then-n-lt4294967295
returns-then-n-lt4294967295 c = omega (arith, c.if-n-lt4294967295.true)

pub returns-else-n-lt4294967295 : goal.returns-else-n-lt4294967295
returns-else-n-lt4294967295 c = omega (arith, c.if-n-lt4294967295.false)
