-- What a start, a step and a walk answer: laws for their returns. Assumes nothing.
use Prim.Native.Nat.{ℕ, zero, suc, ◌+◌, ◌-◌, ◌≤◌, ◌<◌}
use native.Mathlib.Numerals.{add-one}
use native.Mathlib.Omega.{arith}
use mathlib.Core.Path.{◌≡◌, ap, sym, ◌∙◌}
use mathlib.Core.Logic.{◌↔◌}
use mathlib.Core.Bool.{true}
use lib.Dec.{ltb}
use borrow.Author.Tests.{ltb-true, lt-ltb}
use Rattle.rule.specs.Reasons.{Answer, is, refused, and_then}
use Rattle.rule.proofs.Answers.{both_true}
use Rattle.clerk.specs.declared.Clerk.{Clerk}
use Rattle.clerk.specs.Clerk.{before_last, step_at, walked}

-- a clerk stands before the last month by its count and by its first day
pub before_last_lem : (c : Clerk) → (before_last c ≡ true) ↔ ((c.month_count < 507599) × (c.first_day < 14989830))
before_last_lem c =
    both_true (ltb c.month_count 507599) (ltb c.first_day 14989830)
    (ltb-true c.month_count 507599, lt-ltb c.month_count 507599)
    (ltb-true c.first_day 14989830, lt-ltb c.first_day 14989830)

-- a walk that was refused stays so
pub walked-refused : (b i j k : ℕ) → walked b i ≡ refused k → walked b (i + j) ≡ refused k
unfolding walked
walked-refused b i zero k e = ap (walked b) {x = i + 0} {y = i} (omega arith) ∙ e
walked-refused b i (suc j) k e =
    ap (walked b) {x = i + suc j} {y = suc (i + j)} (omega arith) ∙ ap (λ a. and_then a step_at) (walked-refused b i j k e)

-- a walk whose next step goes on, and one whose next step is refused
pub walked_next : (b i : ℕ) (at : Clerk) (a : Answer Clerk) → is at ≡ walked b i → a ≡ step_at at → a ≡ walked b (i + 1)
unfolding walked
walked_next b i at a e f = f ∙ ap (λ w. and_then w step_at) {x = is at} {y = walked b i} e ∙ ap (walked b) (sym (add-one i))

pub walked-ends : (b i steps k : ℕ) → refused k ≡ walked b i → i ≤ steps → refused k ≡ walked b steps
walked-ends b i steps k e l = sym (walked-refused b i (steps - i) k (sym e)) ∙ ap (walked b) {x = i + (steps - i)} {y = steps} (omega arith)
