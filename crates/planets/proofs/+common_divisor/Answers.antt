-- `planets::common_divisor` meets its contract. The measure is the second number. Assumes nothing.
use Prim.Native.Nat.{ℕ}
use mathlib.Core.Path.{sym, subst}
use Rattle.planets.specs.Divisors.{CommonDivisor}
use Rattle.planets.proofs.Divisors.{with_none, of-remainder}
use Rattle.planets.proofs.+common_divisor.Goals as goal

pub returns-then-b-eq0 : goal.returns-then-b-eq0
returns-then-b-eq0 t c =
    let a = c.args.a in
    subst (λ (b : ℕ). CommonDivisor a b a) (sym c.if-b-eq0.true) (with_none a)

pub returns : goal.returns
returns t c = of-remainder c.args.a c.args.b c.common_divisor.result c.common_divisor.ensures
