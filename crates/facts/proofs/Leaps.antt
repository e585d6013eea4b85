-- The look along a run of months for its first leap one, and a year's leap month by it. Assumes nothing.
use Rattle.std.specs.Prelude.{Some, None}
use Prim.Native.Nat.{ℕ, suc, ◌+◌, ◌-◌, ◌≤◌, ◌<◌}
use native.Mathlib.Omega.{arith}
use mathlib.Core.Path.{◌≡◌, refl, ap, sym, ◌∙◌}
use mathlib.Core.Bool.{true, false}
use mathlib.Core.List.{List, [], ◌∷◌}
use Rattle.rule.specs.Lists.{those}
use Rattle.rule.specs.Counts.{CivilYearInRange}
use Rattle.rule.specs.Rule.{leap, month_number, InCivilYear, civil_first_month, months_in_civil_year}
use Rattle.rule.specs.Civil.{civil_months_of}
use Rattle.rule.proofs.Lists.{first-hit, empty, hit-counts, none_pass, head-passes}
use Rattle.rule.proofs.CivilYears.{civil-so-many}
use Rattle.rule.proofs.Civil.{one-civil-year-a-month, one-leap-in-a-civil-year}
use Rattle.facts.specs.declared.LeapMonth.{LeapMonth}
use Rattle.facts.specs.Facts.{first_of, leap_month}

-- before a run's first month none is leap
pub none-yet : (first n : ℕ) → n ≤ first → those leap first (n - first) ≡ []
unfolding those
none-yet first n h = ap (those leap first) {x = n - first} {y = 0} (omega (arith, h))

-- month n of a run, before which none is leap: leap, it is the first of them; else none is up to the next
module _ (first months n : ℕ) (from : first ≤ n) (none : those leap first (n - first) ≡ []) where
  here : first + (n - first) ≡ n
  here = omega (arith, from)

  pub found : n < first + months → leap n ≡ true → first_of (those leap first months) ≡ Some (record { number = month_number n; month = n })
  found h l =
      let i = n - first in
      let w = first-hit leap first i (months - suc i) none (ap leap here ∙ l) in
      ap (λ (k : ℕ). first_of (those leap first k)) {y = suc i + (months - suc i)} (omega (arith, from, h))
      ∙ ap first_of w.1
      ∙ ap (λ (m : ℕ). Some (record { number = month_number m; month = m })) here

  pub still-none : leap n ≡ false → those leap first (n + 1 - first) ≡ []
  unfolding those
  still-none l =
      let e : n + 1 - first ≡ suc (n - first) = omega (arith, from) in
      let no : leap (first + (n - first)) ≡ false = ap leap here ∙ l in
      ap (those leap first) e ∙ rw (none, no)

-- a civil year's leap months are at most one, so that a month of the year that is leap is the first of them
pub leap-found : (y n : ℕ) → InCivilYear y n → leap n ≡ true → leap_month y ≡ Some (record { number = month_number n; month = n })
unfolding leap_month
leap-found y n i h = found (civil_first_month y) (months_in_civil_year y) n its.0 none its.1 h
  where
    in-year : CivilYearInRange y
    in-year = one-civil-year-a-month.in-range y n i

    its : (civil_first_month y ≤ n) × (n < civil_first_month y + months_in_civil_year y)
    its = (civil-so-many y n in-year).0 i

    none : those leap (civil_first_month y) (n - civil_first_month y) ≡ []
    none =
        let f = civil_first_month y in
        let here : leap (f + (n - f)) ≡ true = ap leap {x = f + (n - f)} (omega (arith, its)) ∙ h in
        empty (those leap f (n - f)) (omega (arith, hit-counts leap f (n - f) (months_in_civil_year y) (omega (arith, its)) here, one-leap-in-a-civil-year y in-year))

-- and a year none of whose months is leap has none
pub leap-none : (y : ℕ) → CivilYearInRange y → ((n : ℕ) → InCivilYear y n → leap n ≡ false) → leap_month y ≡ None
unfolding leap_month
leap-none y l h =
    ap first_of
    (empty (civil_months_of leap y)
    (none_pass leap (civil_first_month y) (months_in_civil_year y) (λ i j. h (civil_first_month y + i) ((civil-so-many y (civil_first_month y + i) l).1 (omega arith, omega arith)))))

-- what stands as the year's leap month is a month of that year that is leap, and its number
pub leap-is : (y k n : ℕ) → CivilYearInRange y → leap_month y ≡ Some (record { number = k; month = n }) → InCivilYear y n × (leap n ≡ true) × (month_number n ≡ k)
unfolding leap_month
leap-is y k n l f = go (civil_months_of leap y) refl
  where
    go : (ns : List ℕ) → civil_months_of leap y ≡ ns → InCivilYear y n × (leap n ≡ true) × (month_number n ≡ k)
    go [] e = absurd (let g : leap_month y ≡ None = ap first_of e in let o : ◌≡◌ {A = ℕ} 0 1 = cc in omega arith)
    go (x ∷ xs) e =
        let g : Some (record { number = month_number x; month = x }) ≡ Some (record { number = k; month = n }) = sym (ap first_of e) ∙ f in
        let one : ◌≡◌ {A = LeapMonth} (record { number = month_number x; month = x }) (record { number = k; month = n }) = cc in
        let same : x ≡ n = ap (λ (m : LeapMonth). m.month) one in
        let number : month_number x ≡ k = ap (λ (m : LeapMonth). m.number) one in
        let h = head-passes leap (civil_first_month y) (months_in_civil_year y) x xs e in (
          (civil-so-many y n l).1 (omega (arith, h.1), omega (arith, h.2)),
          sym (ap leap same) ∙ h.0,
          sym (ap month_number same) ∙ number,
        )
