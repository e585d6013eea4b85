-- `yearbook::days_named` meets its contract: days of a name are a division. Assumes nothing.
use native.Mathlib.Omega.{arith}
use Rattle.yearbook.proofs.Passing.{names-counted}
use Rattle.yearbook.proofs.days_named.Goals as goal

pub returns : goal.returns
returns c =
    let a = c.args in
    omega (arith, names-counted a.k a.from a.to c.requires.0 c.requires.1 c.requires.2)
