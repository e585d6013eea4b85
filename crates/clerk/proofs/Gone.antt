-- Where so many steps from a bu's head lead: to the month of that count, and no further than the last. Assumes nothing.
use Rattle.std.specs.Prelude.{Ok}
use Prim.Native.Nat.{ℕ, zero, suc, ◌+◌, ◌-◌, ◌*◌, ◌≤◌, ◌<◌}
use native.Mathlib.Omega.{arith}
use mathlib.Core.Path.{◌≡◌, refl, ap, sym, ◌∙◌}
use mathlib.Core.Bool.{Bool, true, false}
use lib.Dec.{leb}
use borrow.Author.Tests.{leb-true, leb-false}
use Rattle.rule.specs.Rule.{month_start, month_at}
use Rattle.rule.specs.Reasons.{Answer, is, refused, refused-with, guard, within, and_then}
use Rattle.rule.proofs.Answers.{within-true, holds-all, passes, stops, same-given, given-not, fails}
use Rattle.rule.proofs.Months.{start-rises}
use Rattle.rule.proofs.Computing.{rule-computed}
use Rattle.facts.specs.Facts.{month_facts}
use Rattle.clerk.specs.declared.Clerk.{Clerk}
use Rattle.clerk.specs.Clerk.{before_last, stepped, step_at, head, start_at, walked, shown, StartsAt, StepsOn}
use Rattle.clerk.specs.Paper.{BuInRange, Gone, at-the-head, one_more, count_of}
use Rattle.clerk.proofs.Answered.{before_last_lem, walked-refused}
use Rattle.clerk.proofs.Steps.{clerk_at, step-at, head_at}

-- what is given by one guard
given : {A : Type 0} (t : Bool) (k : ℕ) (x a : A) → is a ≡ guard t k (is x) → (t ≡ true) × (a ≡ x)
given t k x a p = let h = (holds-all t k (is x) a).0 (sym p) in (h.0, sym ((same-given x a).0 h.1))

pub start-given : (b : ℕ) (c : Clerk) → StartsAt b (Ok c) → BuInRange b × (c ≡ head b)
unfolding start_at
start-given b c p = let g = given (within 1 540 b) 21 (head b) c p in ((within-true 1 540 b).0 g.0, g.1)

pub step_given : (c d : Clerk) → StepsOn c (Ok d) → (c.month_count < 507599) × (d ≡ stepped c)
unfolding step_at
step_given c d p = let g = given (before_last c) 7 (stepped c) d p in (((before_last_lem c).0 g.0).0, g.1)

-- a count, once more
count-on : (b k : ℕ) → count_of b k + 1 ≡ count_of b (suc k)
count-on b k = omega arith

-- the count of the clerk at month n, its first day, and what it shows
pub count_at : (n : ℕ) → (clerk_at n).month_count ≡ n
unfolding clerk_at
count_at n = refl

first-at : (n : ℕ) → (clerk_at n).first_day ≡ month_start n
unfolding clerk_at
first-at n = refl

pub shown-at : (n : ℕ) → shown (clerk_at n) ≡ month_facts n
unfolding shown clerk_at month_facts month_at
shown-at n = refl

-- where they lead
pub gone_at : (b k : ℕ) (c : Clerk) → Gone b k c → BuInRange b × (count_of b k ≤ 507599) × (c ≡ clerk_at (count_of b k))
gone_at b zero c (at-the-head p) =
    let s = start-given b c p in
    (s.0, omega (arith, s.0.1), s.1 ∙ head_at b ∙ ap clerk_at {y = count_of b 0} (omega arith))
gone_at b (suc k) d (one_more {c = c} g p) =
    let before = gone_at b k c g in
    let s = step_given c d p in
    let n : c.month_count ≡ count_of b k = ap (λ (e : Clerk). e.month_count) before.2 ∙ count_at (count_of b k) in
    (before.0, omega (arith, s.0, n), s.1 ∙ ap stepped before.2 ∙ step-at (count_of b k) ∙ ap clerk_at (count-on b k))

last-start : month_start 507599 ≡ 14989830
unfolding rule-computed
last-start = refl

-- of the clerk at month n, the count says whether it stands before the last
pub before_at : (n : ℕ) → n < 507599 → before_last (clerk_at n) ≡ true
before_at n l =
    (before_last_lem (clerk_at n)).1
    (omega (arith, count_at n, l), omega (arith, first-at n, start-rises n 507599 l, last-start))

-- and they do lead there
pub gone-to : (b k : ℕ) → BuInRange b → count_of b k ≤ 507599 → Gone b k (clerk_at (count_of b k))
unfolding start_at step_at
gone-to b zero r l =
    at-the-head
    (ap is (ap clerk_at {x = count_of b 0} {y = 940 * (b - 1)} (omega arith) ∙ sym (head_at b))
    ∙ sym (passes (within 1 540 b) 21 (is (head b)) ((within-true 1 540 b).1 r)))
gone-to b (suc k) r l =
    let n = count_of b k in
    let i : count_of b k < 507599 = omega (arith, l) in
    one_more (gone-to b k r (omega (arith, l)))
    (ap is (ap clerk_at (sym (count-on b k)) ∙ sym (step-at n)) ∙ sym (passes (before_last (clerk_at n)) 7 (is (stepped (clerk_at n))) (before_at n i)))

-- a walk is a start and so many steps
pub walk-gone : (b k : ℕ) (d : Clerk) → is d ≡ walked b k → Gone b k d
unfolding walked
walk-gone b zero d p = at-the-head p
walk-gone b (suc k) d p = go (walk-gone b k) (walked b k) refl p
  where
    go : ((c : Clerk) → is c ≡ walked b k → Gone b k c) → (a : Answer Clerk) → walked b k ≡ a → is d ≡ and_then a step_at → Gone b (suc k) d
    go before (is c) e q = one_more (before c (sym e)) q
    go before (refused j) e q = absurd (given-not (refused j) d j (sym q) refl)
    go before (refused-with j m) e q = absurd (let o : ◌≡◌ {A = ℕ} 0 1 = cc in omega arith)

pub gone-walk : (b k : ℕ) (d : Clerk) → Gone b k d → is d ≡ walked b k
unfolding walked
gone-walk b zero d (at-the-head p) = p
gone-walk b (suc k) d (one_more {c = c} g p) = p ∙ ap (λ a. and_then a step_at) {x = is c} {y = walked b k} (gone-walk b k c g)

-- what a walk comes to
step-last : step_at (clerk_at 507599) ≡ refused 7
unfolding step_at
step-last =
    stops (before_last (clerk_at 507599)) 7 (is (stepped (clerk_at 507599)))
    ((fails (before_last (clerk_at 507599)) (before_last_lem (clerk_at 507599))).1 (λ h. omega (arith, h.0, count_at 507599)))

pub walk-there : (b k : ℕ) → BuInRange b → count_of b k ≤ 507599 → walked b k ≡ is (clerk_at (count_of b k))
walk-there b k r l = sym (gone-walk b k (clerk_at (count_of b k)) (gone-to b k r l))

-- one that passes the last month
passed-last : (b k : ℕ) → BuInRange b → 507599 < count_of b k → walked b k ≡ refused 7
unfolding walked
passed-last b k r l =
    let j = 507599 - 940 * (b - 1) in
    let e : count_of b j ≡ 507599 = omega (arith, r.1) in
    let there : walked b j ≡ is (clerk_at 507599) = walk-there b j r (omega (arith, e)) ∙ ap (λ n. is (clerk_at n)) e in
    let over : walked b (suc j) ≡ refused 7 = ap (λ a. and_then a step_at) there ∙ step-last in
    ap (walked b) {x = k} {y = suc j + (k - suc j)} (omega (arith, l, r.1)) ∙ walked-refused b (suc j) (k - suc j) 7 over

pub walk-closed : (b k : ℕ) → walked b k ≡ guard (within 1 540 b) 21 (guard (leb (count_of b k) 507599) 7 (is (clerk_at (count_of b k))))
unfolding walked start_at
walk-closed b k = go (within 1 540 b) (leb (count_of b k) 507599) refl refl
  where
    go : (w l : Bool) → within 1 540 b ≡ w → leb (count_of b k) 507599 ≡ l → walked b k ≡ guard w 21 (guard l 7 (is (clerk_at (count_of b k))))
    go false l e f =
        ap (walked b) {x = k} {y = 0 + k} (omega arith) ∙ walked-refused b 0 k 21 (stops (within 1 540 b) 21 (is (head b)) e)
    go true true e f =
        walk-there b k ((within-true 1 540 b).0 e) (leb-true (count_of b k) 507599 f)
    go true false e f = passed-last b k ((within-true 1 540 b).0 e) (leb-false (count_of b k) 507599 f)
