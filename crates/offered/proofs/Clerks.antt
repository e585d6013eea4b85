-- The clerk's answers laid flat: what the statements of the calls for C have of them at named inputs. Assumes nothing.
use Prim.Native.Nat.{ℕ, ◌+◌}
use native.Mathlib.Numerals.{add-one}
use mathlib.Core.Path.{◌≡◌, refl, ap, sym, ◌∙◌}
use lib.Dec.{leb}
use Rattle.rule.specs.Reasons.{is, guard, within, and_then}
use Rattle.rule.proofs.Computing.{rule-computed}
use Rattle.facts.specs.Facts.{month_facts_at}
use Rattle.clerk.specs.declared.Clerk.{Clerk}
use Rattle.clerk.specs.Clerk.{carried, over, round, days_on, term_ahead, holds, stepped, step_at, head, start_at, walked, shown}
use Rattle.clerk.specs.Paper.{count_of}
use Rattle.clerk.proofs.Gone.{walk-gone, walk-closed}
use Rattle.clerk.proofs.Paper as Clerks
use Rattle.clerk.proofs.Steps.{term_at, clerk_at}
use Rattle.offered.specs.declared.CClerk.{CClerk}
use Rattle.offered.specs.Flat.{flat_clerk}
use Rattle.offered.specs.Promises.{CClerkWalk}

-- what a walk comes to, without its steps
pub at-walk :
    (b k : ℕ) {r : CClerk} → CClerkWalk b k r →
    r ≡ flat_clerk (guard (within 1 540 b) 21 (guard (leb (count_of b k) 507599) 7 (is (clerk_at (count_of b k)))))
at-walk b k p = p ∙ ap flat_clerk (walk-closed b k)

-- a step more
pub step-more : (b k : ℕ) (c : Clerk) → is c ≡ walked b k → step_at c ≡ walked b (k + 1)
unfolding walked
step-more b k c p = ap (λ a. and_then a step_at) {x = is c} {y = walked b k} p ∙ ap (walked b) (sym (add-one k))

-- what the clerk of a walk shows, and its count
pub shows-month : (b k : ℕ) (c : Clerk) → is c ≡ walked b k → is (shown c) ≡ month_facts_at (count_of b k)
shows-month b k c p = (Clerks.shows-what-the-rule-gives b k c (shown c) (walk-gone b k c p) refl).1

pub counts-month : (b k : ℕ) (c : Clerk) → is c ≡ walked b k → c.month_count ≡ count_of b k
counts-month b k c p = (Clerks.shows-what-the-rule-gives b k c (shown c) (walk-gone b k c p) refl).0

-- what the clerk is computed with at named inputs: on an `unfolding` line this name brings all that its own line names
unfoldable pub clerks-computed : ℕ
unfolding carried over round days_on term_ahead holds stepped step_at head start_at shown clerk_at term_at rule-computed
clerks-computed = 0
