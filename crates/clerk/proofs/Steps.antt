-- The law of the clerk's steps: at month n it has what the rule gives for n, at a bu's head and after each step. Assumes nothing.
use Prim.Native.Nat.{ℕ, ◌+◌, ◌-◌, ◌*◌, ◌/◌, ◌%◌, ◌≤◌, ◌<◌}
use native.Mathlib.Omega.{arith}
use mathlib.Core.Path.{◌≡◌, refl, ap, sym, ◌∙◌}
use mathlib.Core.Logic.{⊎_elim}
use mathlib.Core.Bool.{Bool, true, false, not}
use lib.Dec.{ltb}
use borrow.Author.Tests.{lt-ltb, le-ltb}
use Rattle.rule.specs.Counts.{day_name}
use Rattle.rule.specs.Rule.{
  month_start,
  small_remainder,
  month_length,
  term_day,
  term_parts,
  mid_term_day,
  mid_terms_before,
  mid_term_number,
  leap,
  month_number,
  eclipse,
}
use Rattle.rule.specs.declared.Term.{Term}
use Rattle.rule.proofs.Months.{start-next, start-bu, length-big, length-small, length-range}
use Rattle.rule.proofs.Pairs.{remainder-on, remainder-below, lt-or-le}
use Rattle.rule.proofs.Leap.{before-iff, before-pos, leap-stays, ordinary-rises, leap-shift, number-shift}
use Rattle.rule.proofs.Terms.{before-shift}
use Rattle.rule.proofs.Computing.{rule-computed}
use Rattle.clerk.specs.declared.Clerk.{Clerk}
use Rattle.clerk.specs.Clerk.{carried, over, round, days_on, term_ahead, mid_term_ahead, ahead_then, number_then, stepped, head}
use Rattle.clerk.proofs.Carries.{
  carried-below,
  carried-over,
  over_below,
  over-over,
  round-within,
  round-past,
  days-small,
  days-big,
  term_made,
  stepped-made,
}

-- a term, and a mid-term, counted from the origin
unfoldable pub term_at : ℕ → Term
term_at t = record { day = term_day t; parts = term_parts t }

-- the clerk at month n: what the rule gives, and the next mid-term
unfoldable pub clerk_at : ℕ → Clerk
clerk_at n =
    record {
      month_count = n;
      first_day = month_start n;
      mid_term_day = (term_at (2 * mid_terms_before (n + 1))).day;
      small_remainder = small_remainder n;
      number = month_number n;
      leap = leap n;
      month_length = month_length n;
      first_name = day_name (month_start n);
      eclipse = eclipse n;
      eclipse_remainder = 23 * (n + 1) % 135;
      mid_term_parts = (term_at (2 * mid_terms_before (n + 1))).parts;
    }

-- 29 days and 499 parts of 940
days-at : (n : ℕ) → month_length n ≡ days_on (small_remainder n)
days-at n =
    ⊎_elim
    (λ (h : small_remainder n < 441). length-small n h ∙ sym (days-small (small_remainder n) h))
    (λ (h : 441 ≤ small_remainder n). length-big n h ∙ sym (days-big (small_remainder n) h))
    (lt-or-le (small_remainder n) 441)

rest_at : (n : ℕ) → small_remainder (n + 1) ≡ carried 940 (small_remainder n + 499)
rest_at n =
    let r = small_remainder n in
    ⊎_elim
    (λ (h : r + 499 < 940). omega (arith, remainder-on n 1, carried-below 940 (r + 499) h))
    (λ (h : 940 ≤ r + 499). omega (arith, remainder-on n 1, remainder-below n, carried-over 940 (r + 499) h))
    (lt-or-le (r + 499) 940)

-- names come round
name-on : (d l : ℕ) → l ≤ 60 → day_name (d + l) ≡ round 60 (day_name d + l)
unfolding day_name
name-on d l h =
    ⊎_elim
    (λ (g : 60 < d % 60 + 1 + l). omega (arith, round-past 60 (d % 60 + 1 + l) g))
    (λ (g : d % 60 + 1 + l ≤ 60). omega (arith, round-within 60 (d % 60 + 1 + l) g))
    (lt-or-le 60 (d % 60 + 1 + l))

-- 23 of 135
eclipse-on : (x : ℕ) → (x + 23) % 135 ≡ carried 135 (x % 135 + 23)
eclipse-on x =
    ⊎_elim
    (λ (g : x % 135 + 23 < 135). omega (arith, carried-below 135 (x % 135 + 23) g))
    (λ (g : 135 ≤ x % 135 + 23). omega (arith, carried-over 135 (x % 135 + 23) g))
    (lt-or-le (x % 135 + 23) 135)

-- 15 days and 7 parts of 32
module _ (x : ℕ) where
  day-on : (x + 487) / 32 ≡ x / 32 + 15 + over 32 (x % 32 + 7)
  day-on =
      ⊎_elim
      (λ (g : x % 32 + 7 < 32). omega (arith, over_below 32 (x % 32 + 7) g))
      (λ (g : 32 ≤ x % 32 + 7). omega (arith, over-over 32 (x % 32 + 7) g))
      (lt-or-le (x % 32 + 7) 32)

  parts-on : (x + 487) % 32 ≡ carried 32 (x % 32 + 7)
  parts-on =
      ⊎_elim
      (λ (g : x % 32 + 7 < 32). omega (arith, carried-below 32 (x % 32 + 7) g))
      (λ (g : 32 ≤ x % 32 + 7). omega (arith, carried-over 32 (x % 32 + 7) g))
      (lt-or-le (x % 32 + 7) 32)

term-on : (t : ℕ) → term_at (t + 1) ≡ term_ahead (term_at t)
unfolding term_at term_day term_parts
term-on t =
    let e : 487 * (t + 1) ≡ 487 * t + 487 = omega arith in
    term_made (record { day = 487 * t / 32; parts = 487 * t % 32 }) (487 * (t + 1) / 32) (487 * (t + 1) % 32)
    (ap (λ (x : ℕ). x / 32) e ∙ day-on (487 * t)) (ap (λ (x : ℕ). x % 32) e ∙ parts-on (487 * t))

mid-on : (m : ℕ) → term_at (2 * (m + 1)) ≡ mid_term_ahead (term_at (2 * m))
mid-on m = ap term_at {y = 2 * m + 1 + 1} (omega arith) ∙ term-on (2 * m + 1) ∙ ap term_ahead (term-on (2 * m))

-- whether the next month holds the mid-term ahead
mid-day : (m : ℕ) → (term_at (2 * m)).day ≡ mid_term_day m
unfolding term_at mid_term_day
mid-day m = refl

held_at : (n : ℕ) → not (leap (n + 1)) ≡ ltb (term_at (2 * mid_terms_before (n + 1))).day (month_start n + month_length n + month_length (n + 1))
held_at n = go (leap (n + 1)) refl
  where
    m : ℕ
    m = mid_terms_before (n + 1)

    t : ℕ
    t = (term_at (2 * m)).day

    end : ℕ
    end = month_start n + month_length n + month_length (n + 1)

    ends : end ≡ month_start (n + 1 + 1)
    ends = omega (arith, start-next n, start-next (n + 1))

    go : (b : Bool) → leap (n + 1) ≡ b → not b ≡ ltb t end
    go true e =
        let no : ¬ (t < end) = λ h. omega (arith, leap-stays (n + 1) e, (before-iff (n + 1 + 1) m).1 (omega (arith, h, ends, mid-day m))) in
        sym (le-ltb t end (omega arith))
    go false e =
        sym (lt-ltb t end (omega (arith, ends, mid-day m, (before-iff (n + 1 + 1) m).0 (omega (arith, ordinary-rises (n + 1) e)))))

-- the mid-term ahead and the number then
ahead-at : (n : ℕ) → term_at (2 * mid_terms_before (n + 1 + 1)) ≡ ahead_then (not (leap (n + 1))) (term_at (2 * mid_terms_before (n + 1)))
ahead-at n = go (leap (n + 1)) refl
  where
    go : (b : Bool) → leap (n + 1) ≡ b → term_at (2 * mid_terms_before (n + 1 + 1)) ≡ ahead_then (not b) (term_at (2 * mid_terms_before (n + 1)))
    go true e = ap (λ (m : ℕ). term_at (2 * m)) (leap-stays (n + 1) e)
    go false e = ap (λ (m : ℕ). term_at (2 * m)) (ordinary-rises (n + 1) e) ∙ mid-on (mid_terms_before (n + 1))

number-on : (m : ℕ) → 1 ≤ m → mid_term_number m ≡ round 12 (mid_term_number (m - 1) + 1)
unfolding mid_term_number
number-on m l =
    let x = (m - 1 + 10) % 12 + 1 + 1 in
    ⊎_elim
    (λ (g : 12 < x). omega (arith, round-past 12 x g))
    (λ (g : x ≤ 12). omega (arith, round-within 12 x g))
    (lt-or-le 12 x)

numbered-at : (n : ℕ) → month_number (n + 1) ≡ number_then (not (leap (n + 1))) (month_number n)
unfolding month_number
numbered-at n = go (leap (n + 1)) refl
  where
    go : (b : Bool) → leap (n + 1) ≡ b →
        mid_term_number (mid_terms_before (n + 1 + 1) - 1) ≡ number_then (not b) (mid_term_number (mid_terms_before (n + 1) - 1))
    go true e = ap (λ (m : ℕ). mid_term_number (m - 1)) (leap-stays (n + 1) e)
    go false e =
        ap mid_term_number {y = mid_terms_before (n + 1)} (omega (arith, ordinary-rises (n + 1) e)) ∙ number-on (mid_terms_before (n + 1)) (before-pos n)

not-not : (b : Bool) → not (not b) ≡ b
not-not true = refl
not-not false = refl

-- a step from month n comes to month n + 1
pub step-at : (n : ℕ) → stepped (clerk_at n) ≡ clerk_at (n + 1)
unfolding clerk_at eclipse
step-at n =
    let eclipse-rest : 23 * (n + 1 + 1) % 135 ≡ carried 135 (23 * (n + 1) % 135 + 23) =
    ap (λ (x : ℕ). x % 135) {y = 23 * (n + 1) + 23} (omega arith) ∙ eclipse-on (23 * (n + 1)) in
    let name : day_name (month_start (n + 1)) ≡ round 60 (day_name (month_start n) + month_length n) =
    ap day_name (start-next n) ∙ name-on (month_start n) (month_length n) (omega (arith, length-range n)) in
    let made =
    stepped-made (clerk_at n) (month_length n) (small_remainder (n + 1)) (month_length (n + 1)) (not (leap (n + 1)))
    (term_at (2 * mid_terms_before (n + 1 + 1))) (month_number (n + 1)) (day_name (month_start (n + 1))) (23 * (n + 1 + 1) % 135)
    (days-at n) (rest_at n) (days-at (n + 1)) (held_at n) (ahead-at n) (numbered-at n) name eclipse-rest in
    sym made ∙ rw (← start-next n, not-not (leap (n + 1)))

-- the head of a bu is the first of its 940 months
first-before : mid_terms_before 1 ≡ 1
unfolding rule-computed
first-before = refl

head-mid : (k : ℕ) → term_at (2 * (912 * k)) ≡ record { day = 27759 * k; parts = 0 }
unfolding term_at term_day term_parts
head-mid k =
    let day : 487 * (2 * (912 * k)) / 32 ≡ 27759 * k = omega arith in
    let parts : 487 * (2 * (912 * k)) % 32 ≡ 0 = omega arith in
    cc

head-term : (k : ℕ) → mid_term_ahead (record { day = 27759 * k; parts = 0 }) ≡ term_at (2 * mid_terms_before (940 * k + 1))
head-term k =
    let e : mid_terms_before (940 * k + 1) ≡ 912 * k + 1 =
    ap mid_terms_before {y = 1 + 940 * k} (omega arith) ∙ omega (arith, before-shift k 1, first-before) in
    sym (ap (λ (m : ℕ). term_at (2 * m)) e ∙ mid-on (912 * k) ∙ ap mid_term_ahead (head-mid k))

first-month : (month_number 0 ≡ 11) × (leap 0 ≡ false)
unfolding rule-computed
first-month = (refl, refl)

head-rest : (k : ℕ) → small_remainder (940 * k) ≡ 0
unfolding small_remainder
head-rest k = omega arith

pub head_at : (b : ℕ) → head b ≡ clerk_at (940 * (b - 1))
unfolding head clerk_at eclipse
head_at b =
    let k = b - 1 in
    let here : 0 + 940 * k ≡ 940 * k = omega arith in
    let day : 27759 * k ≡ month_start (940 * k) = sym (start-bu k) in
    let term = head-term k in
    let rest : 0 ≡ small_remainder (940 * k) = sym (head-rest k) in
    let number : 11 ≡ month_number (940 * k) = sym (ap month_number (sym here) ∙ number-shift k 0 ∙ first-month.0) in
    let mark : false ≡ leap (940 * k) = sym (ap leap (sym here) ∙ leap-shift k 0 ∙ first-month.1) in
    let length : days_on 0 ≡ month_length (940 * k) = ap days_on rest ∙ sym (days-at (940 * k)) in
    let eclipse-rest : (23 + 20 * k) % 135 ≡ 23 * (940 * k + 1) % 135 = omega arith in
    cc
