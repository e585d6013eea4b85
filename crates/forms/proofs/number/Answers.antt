-- `forms::number` meets its contract. Assumes nothing.
use Prim.Native.Nat.{ℕ, ◌+◌}
use native.Mathlib.Omega.{arith}
use mathlib.Core.Path.{ap, sym, ◌∙◌}
use lib.ListN.{drop}
use Rattle.fields.specs.Paper.{value_from}
use Rattle.capped.specs.Capped.{capped}
use Rattle.forms.specs.Forms.{first_field}
use Rattle.forms.proofs.Scanning.{number-next, number-over, number-last}
use Rattle.forms.proofs.number.Goals as goal

pub returns-then-b-eq32 : goal.returns-then-b-eq32
returns-then-b-eq32 c =
    let l = c.loop-b in sym (number-over c.args.s.now l.b-index l.v c.loop-b-test.true c.if-b-eq32.true l.invariant.0) ∙ l.invariant.1

pub loop-b-preserved : goal.loop-b-preserved
loop-b-preserved c =
    let l = c.loop-b in let s = c.args.s.now in (
      omega (arith, c.one_more-v.ensures),
      ap (λ (v : ℕ). capped (value_from v (first_field (drop (l.b-index + 1) s)))) c.one_more-v.ensures
          ∙ number-next s l.b-index l.v c.loop-b-test.true c.if-b-eq32.false ∙ l.invariant.1,
    )

pub returns : goal.returns
returns c = let l = c.loop-b in sym (number-last c.args.s.now l.b-index l.v c.loop-b-test.false l.invariant.0) ∙ l.invariant.1
