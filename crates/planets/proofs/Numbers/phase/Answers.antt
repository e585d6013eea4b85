-- `planets::Numbers::phase` meets its contract: by the planet's mark, then by the count's parity. Assumes nothing.
use Prim.Native.Nat.{ℕ, ◌%◌}
use mathlib.Core.Path.{ap, sym, ◌∙◌}
use mathlib.Core.Bool.{Bool, cond}
use lib.Dec.{eqb}
use borrow.Author.Tests.{not-true, not-false, ne_eqb}
use Rattle.planets.specs.declared.Phase.TheVariants.{Morning, Evening, Neither}
use Rattle.planets.specs.Planets.{phase}
use Rattle.planets.proofs.Numbers.phase.Goals as goal

pub returns-then-not-self : goal.returns-then-not-self
unfolding phase
returns-then-not-self c =
    let a = c.args in
    sym (ap (λ (b : Bool). cond b (cond (eqb (a.k % 2) 1) Morning Evening) Neither) (not-true a.self.by_turns c.if-not-self.true))

pub returns-then-k-eq1 : goal.returns-then-k-eq1
unfolding phase
returns-then-k-eq1 c =
    let a = c.args in
    let so = not-false a.self.by_turns c.if-not-self.false in
    let turns = ap (λ (b : Bool). cond b (cond (eqb (a.k % 2) 1) Morning Evening) Neither) so in
    sym (turns ∙ ap (λ (r : ℕ). cond (eqb r 1) Morning Evening) c.if-k-eq1.true)

pub returns-else-k-eq1 : goal.returns-else-k-eq1
unfolding phase
returns-else-k-eq1 c =
    let a = c.args in
    let so = not-false a.self.by_turns c.if-not-self.false in
    let turns = ap (λ (b : Bool). cond b (cond (eqb (a.k % 2) 1) Morning Evening) Neither) so in
    sym (turns ∙ ap (λ (b : Bool). cond b Morning Evening) (ne_eqb (a.k % 2) 1 c.if-k-eq1.false))
