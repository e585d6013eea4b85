-- Laws of the emendations of the days of a month, and of a month's part of a window. Assumes nothing.
use Prim.Native.Nat.{ℕ, ◌+◌, ◌-◌, ◌*◌, ◌≤◌, ◌<◌, min}
use native.Mathlib.Omega.{arith}
use mathlib.Core.Path.{◌≡◌, ap, ap₂, sym, ◌∙◌}
use mathlib.Core.Bool.{true}
use mathlib.Core.List.{List, [], ◌++◌, append-nil}
use lib.ListN.{length, length-append}
use Rattle.rule.specs.Rule.{month_start, month_of_day}
use Rattle.rule.proofs.Months.{of-day-only, start-inside, start-least}
use Rattle.reading.specs.declared.Reading.{Reading}
use Rattle.reading.specs.Readings.{PartOfMonth}
use Rattle.reading.proofs.Runs.{Walk, at-most-all}
use Rattle.emending.specs.declared.Fault.{Fault}
use Rattle.emending.specs.Faults.{together, is_more, month_fault, day_fault, fault, laid_out, is_one, gathered, days_out, emendations, emendable, NoneBetween}
use Rattle.emending.proofs.Gathering.{
  none-gathered,
  gathered-on,
  gathered-more,
  gathered-same,
  gathered-nothing,
  length-on,
  four-a-day,
}
use Rattle.emending.proofs.Faulty.{more-is}

module _ (r : Reading) (m : Fault) (s : ℕ) where
  pub days-none : (a : ℕ) → days_out r m s a (a - a) ≡ []
  unfolding days_out
  days-none a = none-gathered (λ d. laid_out d (together m (day_fault r s d))) a

  pub days-more : (a b : ℕ) → a ≤ b → days_out r m s a (b + 1 - a) ≡ days_out r m s a (b - a) ++ laid_out b (together m (day_fault r s b))
  unfolding days_out
  days-more a b h = gathered-more (λ d. laid_out d (together m (day_fault r s d))) a b h

  -- four numbers a day at most
  pub days-four : (a k : ℕ) → length (days_out r m s a k) ≤ 4 * k
  unfolding days_out
  days-four a k =
      omega (arith, four-a-day (λ d. together m (day_fault r s d)) a k, at-most-all (λ d. is_one (together m (day_fault r s d))) a k)

  -- those so far and one more are no more than all
  pub days-on : (a b c : ℕ) → a ≤ b → b < c →
      length (days_out r m s a (b - a)) + length (laid_out b (together m (day_fault r s b))) ≤ length (days_out r m s a (c - a))
  unfolding days_out
  days-on a b c h g =
      let f : ℕ → List ℕ = λ d. laid_out d (together m (day_fault r s d)) in
      omega (
        arith,
        length-on f a (b + 1) c (omega arith) (omega arith),
        ap length (gathered-more f a b h) ∙ length-append (gathered f a (b - a)) (f b),
      )

-- the days of a part of a month: its own fault is looked at once
module _ {n from to : ℕ} (h : PartOfMonth n from to) (r : Reading) where
  of-month : (i : ℕ) → i < to - from → month_of_day (from + i) ≡ n
  of-month i l = of-day-only n (from + i) (omega (arith, h.low), omega (arith, h.high))

  fault-as : {m : Fault} → m ≡ month_fault r n → (i : ℕ) → i < to - from → fault r (from + i) ≡ together m (day_fault r (month_start n) (from + i))
  unfolding fault
  fault-as {m} e i l =
      ap (λ (k : ℕ). together (month_fault r k) (day_fault r (month_start k) (from + i))) (of-month i l)
      ∙ ap (λ (x : Fault). together x (day_fault r (month_start n) (from + i))) (sym e)

  pub month-out : {m : Fault} {s : ℕ} → m ≡ month_fault r n → s ≡ month_start n → days_out r m s from (to - from) ≡ emendations r from (to - from)
  unfolding days_out emendations
  month-out {m} {s} e f =
      gathered-same (λ d. laid_out d (together m (day_fault r s d))) (λ d. laid_out d (fault r d)) from (to - from)
      (λ i l.
      ap (λ (k : ℕ). laid_out (from + i) (together m (day_fault r k (from + i)))) f
      ∙ sym (ap (laid_out (from + i)) (fault-as e i l)))

  pub month-none : {m : Fault} → m ≡ month_fault r n → is_more m ≡ true → emendations r from (to - from) ≡ []
  unfolding emendations
  month-none {m} e g =
      gathered-same (λ d. laid_out d (fault r d)) (λ d. []) from (to - from)
      (λ i l. ap (laid_out (from + i)) (fault-as e i l ∙ ap (λ (x : Fault). together x (day_fault r (month_start n) (from + i))) (more-is m g)))
      ∙ gathered-nothing from (to - from)

-- the emendations from `first` up to `day` and on up to `to`
module _ (r : Reading) where
  pub emended-none : (a : ℕ) → emendations r a (a - a) ≡ []
  unfolding emendations
  emended-none a = none-gathered (λ d. laid_out d (fault r d)) a

  pub emended-on : (a b c : ℕ) → a ≤ b → b ≤ c → emendations r a (c - a) ≡ emendations r a (b - a) ++ emendations r b (c - b)
  unfolding emendations
  emended-on a b c h g = gathered-on (λ d. laid_out d (fault r d)) a b c h g

  pub emended-length : (a b c : ℕ) → a ≤ b → b ≤ c →
      length (emendations r a (c - a)) ≡ length (emendations r a (b - a)) + length (emendations r b (c - b))
  emended-length a b c h g = ap length (emended-on a b c h g) ∙ length-append (emendations r a (b - a)) (emendations r b (c - b))

  -- four numbers an emendation, and one emendation a day at most
  pub emended-four : (a k : ℕ) → length (emendations r a k) ≡ 4 * length (emendable r a k)
  unfolding emendations emendable
  emended-four a k = four-a-day (fault r) a k

  pub emended-few : (a k : ℕ) → length (emendable r a k) ≤ k
  unfolding emendable
  emended-few a k = at-most-all (λ d. is_one (fault r d)) a k

-- months passed over
start-not-less : (n m : ℕ) → n ≤ m → month_start n ≤ month_start m
unfolding month_start
start-not-less n m h = omega arith

module _ (r : Reading) (end n : ℕ) where
  pub none_between : NoneBetween r end n n
  none_between = emended-none r (min (month_start n) end)

  pub one-month-more : (m : ℕ) {x : Fault} → end ≤ 14989860 → n ≤ m → month_start m < end → x ≡ month_fault r m → is_more x ≡ true →
      NoneBetween r end n m → NoneBetween r end n (m + 1)
  one-month-more m l h g e f z =
      let s = min (month_start n) end in
      let b = min (month_start (m + 1)) end in
      let rises = start-not-less n m h in
      let here : min (month_start m) end ≡ month_start m = omega arith in
      let part : PartOfMonth m (month_start m) b =
      record { month = start-inside m (omega (arith, l, g)); low = omega arith; some = omega (arith, start-least m); high = omega arith } in
      emended-on r s (month_start m) b (omega (arith, rises)) (omega (arith, start-least m))
      ∙ ap (λ (l : List ℕ). l ++ emendations r (month_start m) (b - month_start m)) (ap (λ (d : ℕ). emendations r s (d - s)) (sym here) ∙ z)
      ∙ month-none part r e f

-- a walk that goes on behind months passed over
module _ (end : ℕ) {first to d n m : ℕ} (p : first < month_start n) (e : to ≡ min (month_start n) end) (h : n ≤ m) (f : d ≡ min (month_start m) end) where
  pub skips-on : (to ≤ d) × (d ≤ end)
  skips-on = omega (arith, e, f, start-not-less n m h)

  pub walk-skips : Walk first end d m
  walk-skips =
      record { here = omega (arith, p, f, start-not-less n m h); passed = omega (arith, p, start-not-less n m h, start-least m) }

  pub nothing-more : (r : Reading) → first ≤ to → NoneBetween r end n m → emendations r first (d - first) ≡ emendations r first (to - first)
  nothing-more r l z =
      emended-on r first to d l skips-on.0
      ∙ ap (λ (x : List ℕ). emendations r first (to - first) ++ x) (ap₂ (λ (a b : ℕ). emendations r a (b - a)) e f ∙ z)
      ∙ append-nil (emendations r first (to - first))
