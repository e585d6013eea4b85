-- A reading's faults with a day, by the six fields of the paper. Assumes nothing.
use Prim.Native.Nat.{ℕ}
use native.Mathlib.Omega.{arith}
use mathlib.Core.Path.{◌≡◌, refl, ap, ap₂, sym, ◌∙◌}
use mathlib.Core.Logic.{◌↔◌, ◌⊎◌, inl, inr, ⊎_elim, ◌≢◌}
use mathlib.Core.Bool.{Bool, true, false, cond}
use lib.Dec.{eqb}
use borrow.Author.Tests.{eq-eqb, eqb-true, eqb-false}
use Rattle.rule.specs.Counts.{day_name, year_name}
use Rattle.rule.specs.Rule.{month_start, month_of_day, civil_year_of_month}
use Rattle.rule.proofs.Leap as Leaps
use Rattle.rule.proofs.Answers.{one-to-one}
use Rattle.dates.specs.Dates.{date_in, date_of}
use Rattle.reading.specs.declared.Field.{Field}
use Rattle.reading.specs.declared.Field.TheVariants.{Known, Unread}
use Rattle.reading.specs.declared.Reading.{Reading}
use Rattle.reading.specs.Readings.{mark_number, six_of, field_fits}
use Rattle.reading.specs.Paper.{FieldFits, ReadingFits}
use Rattle.reading.proofs.Paper.{field_fits_lem}
use Rattle.emending.specs.declared.Place.{Place}
use Rattle.emending.specs.declared.Place.TheVariants.{YearName, MonthNumber, LeapMark, DayOfMonth, DayName, FirstName}
use Rattle.emending.specs.declared.Fault.{Fault}
use Rattle.emending.specs.declared.Fault.TheVariants.{Without, One, More}
use Rattle.emending.specs.Faults.{place_number, read_in, fault_in, together, name_fault, number_fault, month_fault, day_fault, fault}
use Rattle.emending.specs.Paper.{field_at, value_at, OnlyFault, right_at, reading_righted}
use Rattle.emending.proofs.Faulty.{one-fault}

-- one fault of two parts is that of one of them, and no fault is none of either
one_of_two : {i : Place} {k v : ℕ} (a b : Fault) → together a b ≡ One i k v → ((a ≡ One i k v) × (b ≡ Without)) ⊎ ((a ≡ Without) × (b ≡ One i k v))
one_of_two Without b e = inr (refl, e)
one_of_two (One j l w) Without e = inl (e, refl)
one_of_two (One j l w) (One j' l' w') e = absurd (let o : ◌≡◌ {A = ℕ} 0 1 = cc in omega arith)
one_of_two (One j l w) More e = absurd (let o : ◌≡◌ {A = ℕ} 0 1 = cc in omega arith)
one_of_two More b e = absurd (let o : ◌≡◌ {A = ℕ} 0 1 = cc in omega arith)

none_of_two : (a b : Fault) → together a b ≡ Without → (a ≡ Without) × (b ≡ Without)
none_of_two Without b e = (refl, e)
none_of_two (One j l w) Without e = absurd (let o : ◌≡◌ {A = ℕ} 0 1 = cc in omega arith)
none_of_two (One j l w) (One j' l' w') e = absurd (let o : ◌≡◌ {A = ℕ} 0 1 = cc in omega arith)
none_of_two (One j l w) More e = absurd (let o : ◌≡◌ {A = ℕ} 0 1 = cc in omega arith)
none_of_two More b e = absurd (let o : ◌≡◌ {A = ℕ} 0 1 = cc in omega arith)

-- what holds at each of the six places
by_place : (T : Place → Type 0) → T YearName → T MonthNumber → T LeapMark → T DayOfMonth → T DayName → T FirstName → (q : Place) → T q
by_place T a b c d e f YearName = a
by_place T a b c d e f MonthNumber = b
by_place T a b c d e f LeapMark = c
by_place T a b c d e f DayOfMonth = d
by_place T a b c d e f DayName = e
by_place T a b c d e f FirstName = f

-- the faults of the six, as `fault` puts them together
abbrev names : (Place → Fault) → Fault
names g = together (g YearName) (g FirstName)

abbrev numbers : (Place → Fault) → Fault
numbers g = together (g MonthNumber) (g LeapMark)

abbrev own : (Place → Fault) → Fault
own g = together (g DayOfMonth) (g DayName)

abbrev six : (Place → Fault) → Fault
six g = together (together (names g) (numbers g)) (own g)

-- one fault of the six: at one place, and none at the others
module _ (g : Place → Fault) (i : Place) (k v : ℕ) where
  abbrev OneAt : Place → Type 0
  OneAt p = (g p ≡ One i k v) × ((q : Place) → place_number q ≢ place_number p → g q ≡ Without)

  abbrev Not : Place → Place → Type 0
  Not p q = place_number q ≢ place_number p → g q ≡ Without

  -- one of two places, the other four being without fault
  abbrev This : Fault → Fault → Type 0
  This a b = (a ≡ One i k v) × (b ≡ Without)

  abbrev That : Fault → Fault → Type 0
  That a b = (a ≡ Without) × (b ≡ One i k v)

  of-names : names g ≡ One i k v → numbers g ≡ Without → own g ≡ Without → (p : Place) × OneAt p
  of-names e f h =
      let y = none_of_two _ _ f in
      let z = none_of_two _ _ h in
      ⊎_elim
      (λ (u : This (g YearName) (g FirstName)).
      (YearName, (u.0, by_place (Not YearName) (λ n. absurd (n refl)) (λ n. y.0) (λ n. y.1) (λ n. z.0) (λ n. z.1) (λ n. u.1))))
      (λ (u : That (g YearName) (g FirstName)).
      (FirstName, (u.1, by_place (Not FirstName) (λ n. u.0) (λ n. y.0) (λ n. y.1) (λ n. z.0) (λ n. z.1) (λ n. absurd (n refl)))))
      (one_of_two _ _ e)

  of-numbers : names g ≡ Without → numbers g ≡ One i k v → own g ≡ Without → (p : Place) × OneAt p
  of-numbers e f h =
      let y = none_of_two _ _ e in
      let z = none_of_two _ _ h in
      ⊎_elim
      (λ (u : This (g MonthNumber) (g LeapMark)).
      (MonthNumber, (u.0, by_place (Not MonthNumber) (λ n. y.0) (λ n. absurd (n refl)) (λ n. u.1) (λ n. z.0) (λ n. z.1) (λ n. y.1))))
      (λ (u : That (g MonthNumber) (g LeapMark)).
      (LeapMark, (u.1, by_place (Not LeapMark) (λ n. y.0) (λ n. u.0) (λ n. absurd (n refl)) (λ n. z.0) (λ n. z.1) (λ n. y.1))))
      (one_of_two _ _ f)

  of-own : names g ≡ Without → numbers g ≡ Without → own g ≡ One i k v → (p : Place) × OneAt p
  of-own e f h =
      let y = none_of_two _ _ e in
      let z = none_of_two _ _ f in
      ⊎_elim
      (λ (u : This (g DayOfMonth) (g DayName)).
      (DayOfMonth, (u.0, by_place (Not DayOfMonth) (λ n. y.0) (λ n. z.0) (λ n. z.1) (λ n. absurd (n refl)) (λ n. u.1) (λ n. y.1))))
      (λ (u : That (g DayOfMonth) (g DayName)).
      (DayName, (u.1, by_place (Not DayName) (λ n. y.0) (λ n. z.0) (λ n. z.1) (λ n. u.0) (λ n. absurd (n refl)) (λ n. y.1))))
      (one_of_two _ _ h)

  one-of-six : six g ≡ One i k v → (p : Place) × OneAt p
  one-of-six e =
      ⊎_elim
      (λ (w : This (together (names g) (numbers g)) (own g)).
      ⊎_elim (λ (x : This (names g) (numbers g)). of-names x.0 x.1 w.1) (λ (x : That (names g) (numbers g)). of-numbers x.0 x.1 w.1)
      (one_of_two _ _ w.0))
      (λ (w : That (together (names g) (numbers g)) (own g)). let x = none_of_two _ _ w.0 in of-own x.0 x.1 w.1)
      (one_of_two _ _ e)

  one-in-six : (p : Place) → OneAt p → six g ≡ One i k v
  one-in-six YearName h =
      rw (
        h.0,
        h.1 MonthNumber (λ n. omega (arith, n)),
        h.1 LeapMark (λ n. omega (arith, n)),
        h.1 FirstName (λ n. omega (arith, n)),
        h.1 DayOfMonth (λ n. omega (arith, n)),
        h.1 DayName (λ n. omega (arith, n)),
      )
  one-in-six MonthNumber h =
      rw (
        h.0,
        h.1 YearName (λ n. omega (arith, n)),
        h.1 LeapMark (λ n. omega (arith, n)),
        h.1 FirstName (λ n. omega (arith, n)),
        h.1 DayOfMonth (λ n. omega (arith, n)),
        h.1 DayName (λ n. omega (arith, n)),
      )
  one-in-six LeapMark h =
      rw (
        h.0,
        h.1 YearName (λ n. omega (arith, n)),
        h.1 MonthNumber (λ n. omega (arith, n)),
        h.1 FirstName (λ n. omega (arith, n)),
        h.1 DayOfMonth (λ n. omega (arith, n)),
        h.1 DayName (λ n. omega (arith, n)),
      )
  one-in-six DayOfMonth h =
      rw (
        h.0,
        h.1 YearName (λ n. omega (arith, n)),
        h.1 MonthNumber (λ n. omega (arith, n)),
        h.1 LeapMark (λ n. omega (arith, n)),
        h.1 FirstName (λ n. omega (arith, n)),
        h.1 DayName (λ n. omega (arith, n)),
      )
  one-in-six DayName h =
      rw (
        h.0,
        h.1 YearName (λ n. omega (arith, n)),
        h.1 MonthNumber (λ n. omega (arith, n)),
        h.1 LeapMark (λ n. omega (arith, n)),
        h.1 FirstName (λ n. omega (arith, n)),
        h.1 DayOfMonth (λ n. omega (arith, n)),
      )
  one-in-six FirstName h =
      rw (
        h.0,
        h.1 YearName (λ n. omega (arith, n)),
        h.1 MonthNumber (λ n. omega (arith, n)),
        h.1 LeapMark (λ n. omega (arith, n)),
        h.1 DayOfMonth (λ n. omega (arith, n)),
        h.1 DayName (λ n. omega (arith, n)),
      )

-- a field without fault fits, and one with a fault is known and differs
fitted : (i : Place) (f : Field) (v : ℕ) → fault_in i f v ≡ Without ↔ FieldFits f v
fitted i f v = (λ e. (field_fits_lem f v).0 (tested (field_fits f v) (read_in f) v e), λ h. ap (λ (b : Bool). cond b Without (One i (read_in f) v)) ((field_fits_lem f v).1 h))
  where
    tested : (b : Bool) (k w : ℕ) → cond b Without (One i k w) ≡ Without → b ≡ true
    tested true k w e = refl
    tested false k w e = absurd (let o : ◌≡◌ {A = ℕ} 0 1 = cc in omega arith)

at-fault : (i : Place) (f : Field) (v : ℕ) {j : Place} {k w : ℕ} → fault_in i f v ≡ One j k w → (j ≡ i) × (f ≡ Known k) × (w ≡ v) × (k ≢ w)
at-fault i Unread v e = absurd (let o : ◌≡◌ {A = ℕ} 0 1 = cc in omega arith)
at-fault i (Known l) v {j} {k} {w} e = go (eqb l v) refl
  where
    go : (t : Bool) → eqb l v ≡ t → (j ≡ i) × (Known l ≡ Known k) × (w ≡ v) × (k ≢ w)
    go true t =
        let f : Without ≡ One j k w = sym (ap (λ (b : Bool). cond b Without (One i l v)) t) ∙ e in
        absurd (let o : ◌≡◌ {A = ℕ} 0 1 = cc in omega arith)
    go false t =
        let f : One i l v ≡ One j k w = sym (ap (λ (b : Bool). cond b Without (One i l v)) t) ∙ e in
        let a : i ≡ j = cc in
        let b : l ≡ k = cc in
        let c : v ≡ w = cc in
        (sym a, ap Known b, sym c, λ x. let o : false ≡ true = sym t ∙ eq-eqb l v (b ∙ x ∙ sym c) in let z : ◌≡◌ {A = ℕ} 0 1 = cc in omega arith)

-- the six faults of a reading with a day
abbrev fault_at : Reading → ℕ → Place → Fault
fault_at r d q = fault_in q (field_at r q) (value_at d q)

as-six : (r : Reading) (d : ℕ) → fault r d ≡ six (fault_at r d)
unfolding fault month_fault name_fault number_fault day_fault six_of date_of date_in
as-six r d =
    let n = month_of_day d in
    ap₂ (λ (x y : ℕ).
    together
    (together (together (fault_in YearName r.year_name (year_name (civil_year_of_month n))) (fault_in FirstName r.first_name (day_name (month_start n))))
    (together (fault_in MonthNumber r.month_number x) (fault_in LeapMark r.leap_mark y)))
    (day_fault r (month_start n) d))
    (sym (Leaps.number_at n)) (ap mark_number (sym (Leaps.mark-at n)))

-- a day with one fault: the place and the two numbers
pub found-fault : (r : Reading) (d : ℕ) {i : Place} {k v : ℕ} → fault r d ≡ One i k v → (p : Place) × (i ≡ p) × OnlyFault r d p k v
found-fault r d {i} {k} {v} e =
    let w = one-of-six (fault_at r d) i k v (sym (as-six r d) ∙ e) in
    let p = w.0 in
    let h = at-fault p (field_at r p) (value_at d p) w.1.0 in (
      p,
      h.0,
      record {
        was_read = h.1;
        should-be = h.2;
        disagrees = h.3;
        others = λ q n. (fitted q (field_at r q) (value_at d q)).0 (w.1.1 q n);
      },
    )

pub made_fault : (r : Reading) (d : ℕ) (p : Place) (k v : ℕ) → OnlyFault r d p k v → fault r d ≡ One p k v
made_fault r d p k v o =
    as-six r d
    ∙ one-in-six (fault_at r d) p k v p (
      sym (one-fault p (value_at d p) o.was_read (λ e. o.disagrees (e ∙ sym o.should-be)))
          ∙ ap (One p k) (sym o.should-be),
      λ q n. (fitted q (field_at r q) (value_at d q)).1 (o.others q n),
    )

-- a place is read back from its number
place_of : ℕ → Place
place_of n =
    cond (eqb n 1) YearName
    (cond (eqb n 2) MonthNumber (cond (eqb n 3) LeapMark (cond (eqb n 4) DayOfMonth (cond (eqb n 5) DayName FirstName))))

pub one_place : (p q : Place) → place_number p ≡ place_number q → p ≡ q
unfolding place_of
one_place = one-to-one place_number place_of (by_place (λ p. place_of (place_number p) ≡ p) refl refl refl refl refl refl)

-- a field put right fits, and the others as they did
righted : (r : Reading) (d : ℕ) (p q : Place) (k v : ℕ) → OnlyFault r d p k v → FieldFits (right_at r p v q) (value_at d q)
righted r d p q k v o = go (eqb (place_number q) (place_number p)) refl
  where
    go : (t : Bool) → eqb (place_number q) (place_number p) ≡ t → FieldFits (cond t (Known v) (field_at r q)) (value_at d q)
    go true e =
        let f : p ≡ q = sym (one_place q p (eqb-true (place_number q) (place_number p) e)) in
        inr (ap Known (o.should-be ∙ ap (value_at d) f))
    go false e = o.others q (eqb-false (place_number q) (place_number p) e)

pub fits-righted : (r : Reading) (d : ℕ) (p : Place) (k v : ℕ) → OnlyFault r d p k v → ReadingFits (reading_righted r p v) d
fits-righted r d p k v o =
    record {
      year-name = righted r d p YearName k v o;
      month-number = righted r d p MonthNumber k v o;
      leap-mark = righted r d p LeapMark k v o;
      day-of-month = righted r d p DayOfMonth k v o;
      day-name = righted r d p DayName k v o;
      first-name = righted r d p FirstName k v o;
    }
