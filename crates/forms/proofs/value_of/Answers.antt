-- `forms::value_of` meets its contract. Assumes nothing.
use Prim.Native.Nat.{ℕ, ◌+◌}
use native.Mathlib.Omega.{arith}
use mathlib.Core.Path.{ap, sym, ◌∙◌}
use lib.ListN.{drop}
use Rattle.fields.specs.Paper.{value_from}
use Rattle.capped.specs.Capped.{capped}
use Rattle.forms.proofs.Scanning.{value-next, value-last}
use Rattle.forms.proofs.value_of.Goals as goal

pub loop-b-preserved : goal.loop-b-preserved
loop-b-preserved c = (
  omega (arith, c.one_more-v.ensures),
  ap (λ (v : ℕ). capped (value_from v (drop (c.loop-b.b-index + 1) c.args.s.now))) c.one_more-v.ensures
      ∙ value-next c.args.s.now c.loop-b.b-index c.loop-b.v c.loop-b-test.true ∙ c.loop-b.invariant.1,
)

pub returns : goal.returns
returns c = sym (value-last c.args.s.now c.loop-b.b-index c.loop-b.v c.loop-b-test.false c.loop-b.invariant.0) ∙ c.loop-b.invariant.1
