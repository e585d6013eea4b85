-- `yearbook::name_counts` meets its contract: one name after the other. Assumes nothing.
use native.Mathlib.Omega.{arith}
use Prim.Native.Nat.{ℕ}
use mathlib.Core.Path.{ap₂, ◌∙◌}
use mathlib.Core.List.{List}
use lib.ListN.{set, replicate, length-replicate}
use Rattle.yearbook.specs.Figures.{passing, has_name}
use Rattle.yearbook.proofs.Each.{each-stored}
use Rattle.yearbook.proofs.Names.{names-begin, names-done}
use Rattle.yearbook.proofs.name_counts.Goals as goal

pub loop-i-init : goal.loop-i-init
loop-i-init c = names-begin _

pub loop-i-preserved : goal.loop-i-preserved
loop-i-preserved c =
    let a = c.args in
    let i = c.loop-i.i in
    let f : ℕ → ℕ = λ k. passing (has_name k) a.from a.to in
    ap₂ (λ (m : List ℕ) (x : ℕ). set m i x) c.loop-i.invariant c.days_named.ensures
    ∙ each-stored f i (replicate 60 0) (omega (arith, length-replicate {A = ℕ} 60 0))

pub returns : goal.returns
returns c = c.loop-i.invariant ∙ names-done c.args.from c.args.to c.loop-i.i c.loop-i.auto.i-end c.loop-i-test.false
