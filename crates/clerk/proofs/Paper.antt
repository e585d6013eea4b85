-- The statements of specs/Paper.antt, proved. Assumes nothing.
use Rattle.std.specs.Prelude.{Result, Ok, Err}
use Prim.Native.Nat.{ℕ, ◌+◌, ◌-◌, ◌*◌, ◌≤◌, ◌<◌}
use native.Mathlib.Omega.{arith}
use mathlib.Core.Path.{◌≡◌, refl, ap, sym, subst, ◌∙◌}
use mathlib.Core.Logic.Iff
use mathlib.Core.Logic.{◌↔◌}
use mathlib.Core.Bool.{Bool, true, false, false≢true, and-eq-true_iff}
use lib.Dec.{eqb, leb}
use borrow.Author.Tests.{eqb-true}
use Rattle.rule.specs.Counts.{year_in_bu}
use Rattle.rule.specs.Rule.{month_length, term_day, term_parts, mid_term_day, solstice_first_month, big, pair_starts}
use Rattle.rule.specs.Reasons.{Answer, is, refused, reason_number, guard, within, reason_of}
use Rattle.rule.specs.declared.Reason.{Reason}
use Rattle.rule.specs.declared.Reason.TheVariants.{NoSuchMonth, NoSuchBu}
use Rattle.rule.proofs.Answers.{said-once, within-true, at_most, one-refused, one_only, two-first, two-second, two-only}
use Rattle.rule.proofs.Computing.{rule-computed}
use Rattle.facts.specs.declared.MonthFacts.{MonthFacts}
use Rattle.facts.proofs.Given.{month-given}
use Rattle.clerk.specs.declared.Clerk.{Clerk}
use Rattle.clerk.specs.Clerk.{before_last, stepped, step_at, head, start_at, walked, shown, StartsAt, StepsOn, WalksOn, Shows}
use Rattle.clerk.specs.Paper.{BuInRange, BuHead, OneOn, count_of}
use Rattle.clerk.specs.Paper
use Rattle.clerk.proofs.Answered.{before_last_lem}
use Rattle.clerk.proofs.Steps.{term_at, clerk_at}
use Rattle.clerk.proofs.Gone.{start-given, step_given, gone_at, gone-to, before_at, walk-gone, gone-walk, walk-there, walk-closed, shown-at}
use Rattle.clerk.proofs.Additions.{one_on}

-- the count and the length of the clerk at month n
fields_at : (n : ℕ) → ((clerk_at n).month_count ≡ n) × ((clerk_at n).month_length ≡ month_length n)
unfolding clerk_at
fields_at n = (refl, refl)

pub shows-what-the-rule-gives : Paper.ShowsWhatTheRuleGives
shows-what-the-rule-gives b k c f g s =
    let a = gone_at b k c g in
    let n = count_of b k in
    (ap (λ (d : Clerk). d.month_count) a.2 ∙ (fields_at n).0, ap is (s ∙ ap shown a.2 ∙ shown-at n) ∙ sym (month-given n a.1))

pub goes-as-far-as-the-last : Paper.GoesAsFarAsTheLast
goes-as-far-as-the-last b k r l = (clerk_at (count_of b k), gone-to b k r l)

-- one guard: its reason and no other, exactly where what it tests does not hold
refused-exactly : {A P : Type 0} (t : Bool) (k : ℕ) (x : A) (why r : Reason) → ((t ≡ true) ↔ P) → reason_of k ≡ r → reason_number r ≡ k →
    (refused (reason_number why) ≡ guard t k (is x)) ↔ ((why ≡ r) × (P → ⊥))
refused-exactly {A} t k x why r e f n = (
  λ p.
      let w : why ≡ r = one_only why t k x p ∙ f in
      (w, (one-refused t k x e).0 (sym p ∙ ap (λ (q : Reason). refused (reason_number q)) w ∙ ap refused n)),
  λ h. ap (λ (q : Reason). refused (reason_number q)) h.0 ∙ ap refused n ∙ sym ((one-refused t k x e).1 h.1),
)

pub refused-outside-the-bu : Paper.RefusedOutsideTheBu
unfolding start_at
refused-outside-the-bu b why = refused-exactly (within 1 540 b) 21 (head b) why NoSuchBu (within-true 1 540 b) refl refl

pub any-state : Paper.AnyState
unfolding step_at
any-state c why = refused-exactly (before_last c) 7 (stepped c) why NoSuchMonth (before_last_lem c) refl refl

pub refused-at-the-last : Paper.RefusedAtTheLast
refused-at-the-last b k c why g =
    let n = count_of b k in
    let a = gone_at b k c g in
    let count : c.month_count ≡ n = ap (λ (d : Clerk). d.month_count) a.2 ∙ (fields_at n).0 in
    let before : n < 507599 → (c.month_count < 507599) × (c.first_day < 14989830) =
    λ l. (before_last_lem c).0 (ap before_last a.2 ∙ before_at n l) in (
      λ p.
          let h = (any-state c why).0 p in
          let no : ¬ (n < 507599) = λ l. h.1 (before l) in
          (h.0, omega (arith, a.1, no)),
      λ h. (any-state c why).1 (h.0, λ l. omega (arith, l.0, count, h.1)),
    )

-- a bu has 76 years, 940 months, 912 mid-terms and 27,759 days
module _ (k : ℕ) where
  first-year : year_in_bu (76 * k + 1) ≡ 1
  unfolding year_in_bu
  first-year = omega arith

  first-month : 940 * k ≡ solstice_first_month (76 * k + 1)
  unfolding solstice_first_month
  first-month = omega arith

  mid-term : (mid_term_day (912 * k) ≡ 27759 * k) × (term_parts (2 * (912 * k)) ≡ 0)
  unfolding mid_term_day term_day term_parts
  mid-term = (omega arith, omega arith)

pub starts-at-a-bu's-head : Paper.StartsAtABusHead
unfolding head
starts-at-a-bu's-head b c p = let s = start-given b c p in subst (BuHead b) (sym s.1) (made s.0)
  where
    made : BuInRange b → BuHead b (head b)
    made r =
        record {
          in-range = r;
          first-year = first-year (b - 1);
          first-month = first-month (b - 1);
          first-day = refl;
          midnight = refl;
          eleven = refl;
          ordinary = refl;
          mid-term = mid-term (b - 1);
        }

pub one-step-by-additions : Paper.OneStepByAdditions
one-step-by-additions c d p = subst (OneOn c) (sym (step_given c d p).1) (one_on c)

pub one-state-a-month : Paper.OneStateAMonth
one-state-a-month a b j k c d g h e = (gone_at a j c g).2 ∙ ap clerk_at e ∙ sym (gone_at b k d h).2

pub walk-is-the-steps : Paper.WalkIsTheSteps
walk-is-the-steps b k c = (walk-gone b k c, gone-walk b k c)

beyond : (b k : ℕ) → (BuInRange b × (count_of b k ≤ 507599 → ⊥)) ↔ (BuInRange b × (507599 < count_of b k))
beyond b k = (
  λ h. (h.0, let no : ¬ (count_of b k ≤ 507599) = h.1 in omega (arith, no)),
  λ h. (h.0, λ l. omega (arith, h.1, l)),
)

pub reasons-of-a-walk : Paper.ReasonsOfAWalk
reasons-of-a-walk b k =
    let w = within 1 540 b in
    let l = leb (count_of b k) 507599 in
    let x = clerk_at (count_of b k) in
    let closed : (a : Answer Clerk) → (a ≡ walked b k) ↔ (guard w 21 (guard l 7 (is x)) ≡ a) =
    λ a. (λ p. sym (p ∙ walk-closed b k), λ p. sym p ∙ sym (walk-closed b k)) in
    let later = two-second w l 21 7 (λ e. omega (arith, e)) x (within-true 1 540 b) (at_most (count_of b k) 507599) in
    record {
      twenty-one = Iff.trans (closed (refused 21)) (two-first w l 21 7 (λ e. omega (arith, e)) x (within-true 1 540 b) (at_most (count_of b k) 507599));
      seven = Iff.trans (closed (refused 7)) (Iff.trans later (beyond b k));
      only = λ why p. two-only why w l 21 7 x (p ∙ walk-closed b k);
    }

pub second-of-two-big-walked : Paper.SecondOfTwoBigWalked
unfolding pair_starts big
second-of-two-big-walked b k n c g e p =
    let w = (and-eq-true_iff (eqb (month_length n) 30) (eqb (month_length (n + 1)) 30)).0 p in
    ap (λ (d : Clerk). d.month_length) (gone_at b k c g).2 ∙ (fields_at (count_of b k)).1 ∙ ap month_length e ∙ eqb-true (month_length (n + 1)) 30 w.1

pub unique-clerk : Paper.UniqueClerk
unique-clerk =
    record {
      start = λ b r s p q. said-once r s (p ∙ sym q);
      step = λ c r s p q. said-once r s (p ∙ sym q);
      walk = λ b j r s p q. said-once r s (p ∙ sym q);
      show = λ c f g p q. p ∙ sym q;
    }

-- the clerk of a walk
walked_to : (b k : ℕ) (c : Clerk) → WalksOn b k (Ok c) → c ≡ clerk_at (count_of b k)
walked_to b k c p = (gone_at b k c (walk-gone b k c p)).2

-- what stands at the months named below
month-2 : clerk_at 2
    ≡ record {
      month_count = 2;
      first_day = 59;
      mid_term_day = 91;
      small_remainder = 58;
      number = 1;
      leap = false;
      month_length = 29;
      first_name = 60;
      eclipse = false;
      eclipse_remainder = 69;
      mid_term_parts = 10;
    }
unfolding clerk_at term_at rule-computed
month-2 = refl

at-2 : (c : Clerk) → WalksOn 1 2 (Ok c) → (c.first_day ≡ 59) × (c.small_remainder ≡ 58) × (c.mid_term_day ≡ 91) × (c.mid_term_parts ≡ 10) × (c.number ≡ 1)
at-2 c p = let e = walked_to 1 2 c p ∙ month-2 in (
  ap (λ (d : Clerk). d.first_day) e,
  ap (λ (d : Clerk). d.small_remainder) e,
  ap (λ (d : Clerk). d.mid_term_day) e,
  ap (λ (d : Clerk). d.mid_term_parts) e,
  ap (λ (d : Clerk). d.number) e,
)

at-3 : (c : Clerk) → WalksOn 1 3 (Ok c) → c.first_name ≡ 29
unfolding clerk_at term_at rule-computed
at-3 c p = ap (λ (d : Clerk). d.first_name) (walked_to 1 3 c p)

at_5 : (c : Clerk) → WalksOn 1 5 (Ok c) → (c.eclipse_remainder ≡ 3) × (c.eclipse ≡ true)
unfolding clerk_at term_at rule-computed
at_5 c p = let e = walked_to 1 5 c p in (ap (λ (d : Clerk). d.eclipse_remainder) e, ap (λ (d : Clerk). d.eclipse) e)

at-32 : (c : Clerk) → WalksOn 1 32 (Ok c) → (c.leap ≡ true) × (c.number ≡ 6)
unfolding clerk_at term_at rule-computed
at-32 c p = let e = walked_to 1 32 c p in (ap (λ (d : Clerk). d.leap) e, ap (λ (d : Clerk). d.number) e)

at-129 : (c : Clerk) → WalksOn 1 129 (Ok c) → c.month_length ≡ 30
unfolding clerk_at term_at rule-computed
at-129 c p = ap (λ (d : Clerk). d.month_length) (walked_to 1 129 c p)

head-2 : (c : Clerk) → StartsAt 2 (Ok c) → (c.month_count ≡ 940) × (c.first_day ≡ 27759) × (c.eclipse_remainder ≡ 43)
unfolding head
head-2 c p =
    let e = (start-given 2 c p).1 in
    (ap (λ (d : Clerk). d.month_count) e, ap (λ (d : Clerk). d.first_day) e, ap (λ (d : Clerk). d.eclipse_remainder) e)

head-1 : (c : Clerk) → StartsAt 1 (Ok c) → (c.month_count ≡ 0) × (c.first_day ≡ 0)
unfolding head
head-1 c p = let e = (start-given 1 c p).1 in (ap (λ (d : Clerk). d.month_count) e, ap (λ (d : Clerk). d.first_day) e)

-- the clerk's count of a walk, and the first day that is shown
counted : (b k : ℕ) (c : Clerk) → WalksOn b k (Ok c) → c.month_count ≡ count_of b k
counted b k c p = ap (λ (d : Clerk). d.month_count) (walked_to b k c p) ∙ (fields_at (count_of b k)).0

shown-day : (c : Clerk) (f : MonthFacts) → Shows c f → f.first_day ≡ c.first_day
unfolding shown
shown-day c f s = ap (λ (g : MonthFacts). g.first_day) s

shown-eclipse : (c : Clerk) (f : MonthFacts) → Shows c f → f.eclipse ≡ c.eclipse
unfolding shown
shown-eclipse c f s = ap (λ (g : MonthFacts). g.eclipse) s

day-0 : (c : Clerk) → WalksOn 1 0 (Ok c) → c.first_day ≡ 0
unfolding clerk_at term_at rule-computed
day-0 c p = ap (λ (d : Clerk). d.first_day) (walked_to 1 0 c p)

day-29 : (c : Clerk) → WalksOn 1 1 (Ok c) → c.first_day ≡ 29
unfolding clerk_at term_at rule-computed
day-29 c p = ap (λ (d : Clerk). d.first_day) (walked_to 1 1 c p)

-- no walk that stays in range is refused
not-refused : (b k : ℕ) (why : Reason) → BuInRange b → count_of b k ≤ 507599 → WalksOn b k (Err why) → ⊥
not-refused b k why r l p =
    let o : is (clerk_at (count_of b k)) ≡ refused (reason_number why) = sym (walk-there b k r l) ∙ sym p in
    let z : ◌≡◌ {A = ℕ} 0 1 = cc in
    omega arith

-- a step's two answers are of two months
same_step : (c d : Clerk) (r : Result Clerk Reason) → c.month_count < d.month_count → d.month_count < 507599 → d.first_day < 14989830 →
    StepsOn c r → StepsOn d r → ⊥
same_step c d (Ok e) l n f p q =
    omega (arith, l, (one-step-by-additions c e p).count, (one-step-by-additions d e q).count)
same_step c d (Err why) l n f p q = ((any-state d why).0 q).1 (n, f)

pub wrong-clerks : Paper.WrongClerks
wrong-clerks =
    record {
      day-not-carried = λ c p e. omega (arith, e, (at-2 c p).0);
      parts-not-carried = λ c p e. omega (arith, e, (at-2 c p).1);
      term-day-not-carried = λ c p e. omega (arith, e, (at-2 c p).2);
      term-parts-not-carried = λ c p e. omega (arith, e, (at-2 c p).3);
      eclipse-not-carried = λ c p e. omega (arith, e, (at_5 c p).0);
      eclipse-missed = λ c p e. false≢true (sym e ∙ (at_5 c p).1);
      number-not-round = λ c p e. omega (arith, e, (at-2 c p).4);
      name-not-round = λ c p e. omega (arith, e, at-3 c p);
      by-instant = λ c p e. false≢true (sym e ∙ (at-32 c p).0);
      leap-renumbered = λ c p e. omega (arith, e, (at-32 c p).1);
      head-between = λ c p e. omega (arith, e, (head-2 c p).1);
      head-from-0 = λ c p e. omega (arith, e, (head-2 c p).0);
      head-as-the-first = λ c p e. omega (arith, e, (head-2 c p).2);
      never-stepping = λ c p. omega (arith, (one-step-by-additions c c p).count);
      one-step-for-all = λ c d p q r s t.
          same_step c d r (omega (arith, (head-1 c p).0, (head-2 d q).0)) (omega (arith, (head-2 d q).0)) (omega (arith, (head-2 d q).1)) s t;
      walks-one-too-few = λ c p q. omega (arith, (head-1 c p).0, counted 1 1 c q);
      past-the-last = λ c p. omega (arith, (gone_at 540 940 c (walk-gone 540 940 c p)).1);
      stops-before = λ why p. not-refused 540 939 why (omega arith, omega arith) (omega arith) p;
      stops-at-a-bu = λ why p. not-refused 1 940 why (omega arith, omega arith) (omega arith) p;
      start-refused = λ why p. ((refused-outside-the-bu 1 why).0 p).1 (omega arith, omega arith);
      last-bu-refused = λ why p. ((refused-outside-the-bu 540 why).0 p).1 (omega arith, omega arith);
      bu-0 = λ c p. omega (arith, (start-given 0 c p).0.0);
      bu-541 = λ c p. omega (arith, (start-given 541 c p).0.1);
      step-refused = λ c why p q. ((any-state c why).0 q).1 (omega (arith, (head-1 c p).0), omega (arith, (head-1 c p).1));
      by-turns = λ c p e. omega (arith, e, at-129 c p);
      eclipse-not-shown = λ c f p s e. false≢true (sym e ∙ shown-eclipse c f s ∙ (at_5 c p).1);
      shown-fixed = λ c d f p q s t. omega (arith, shown-day c f s, shown-day d f t, day-0 c p, day-29 d q);
    }
