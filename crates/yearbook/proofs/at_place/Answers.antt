-- `yearbook::at_place` meets its contract: months at a place of their bu are a division. Assumes nothing.
use native.Mathlib.Omega.{arith}
use Rattle.yearbook.proofs.Passing.{places-counted}
use Rattle.yearbook.proofs.at_place.Goals as goal

pub returns : goal.returns
returns c =
    let a = c.args in
    let e = places-counted a.place a.from a.to c.requires.0 c.requires.1 in
    (omega (arith, e), omega (arith, e))
