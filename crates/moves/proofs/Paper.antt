-- Demand 3, proved, each statement under its name in small letters. Assumes nothing.
use Rattle.std.specs.Prelude.{Result}
use Prim.Native.Nat.{ℕ, ◌+◌, ◌-◌, ◌/◌, ◌≤◌, ◌<◌}
use native.Mathlib.Omega.{arith}
use mathlib.Core.Path.{◌≡◌, refl, ap, sym, ◌∙◌, subst, subst₂}
use mathlib.Core.Logic.Iff
use mathlib.Core.Logic.{◌↔◌, eq_comm, ⊎_elim}
use mathlib.Core.Bool.{Bool, true, false}
use lib.Dec.{leb}
use lib.IntN.{ℤ, pos, negsuc, ◌+ℤ◌, +ℤ_assoc}
use borrow.Author.Tests.{leb-true, leb-false}
use Rattle.rule.specs.Counts.{DayInRange, day_name, year_name, ji, bu, year_in_bu}
use Rattle.rule.specs.Rule.{month_start, month_length, month_of_day, solstice_year_of_month, civil_year_of_month, month_at, number_of, leap_mark}
use Rattle.rule.specs.Paper.{further}
use Rattle.rule.specs.Reasons.{Answer, is, refused, refused-with, reason_number, reason_of}
use Rattle.rule.specs.declared.Reason.{Reason}
use Rattle.rule.proofs.Months
use Rattle.rule.proofs.Years
use Rattle.rule.proofs.Pairs.{lt-or-le}
use Rattle.rule.proofs.Paper.{eclipses-kept}
use Rattle.rule.proofs.CivilYears
use Rattle.rule.proofs.Counts
use Rattle.rule.proofs.Leap as Leaps
use Rattle.rule.proofs.Answers.{given-not, reason-back, said-once}
use Rattle.dates.specs.declared.Date.{Date}
use Rattle.dates.specs.Dates.{date_in, date_of, day_of_date}
use Rattle.rule.specs.Reasons.{said}
use Rattle.dates.proofs.Cases
use Rattle.dates.proofs.Days
use Rattle.dates.specs.Paper.{AgreesWith}
use Rattle.dates.proofs.Laws.{own_day, back-to-day, agrees}
use Rattle.moves.specs.Moves.{landed, moved}
use Rattle.moves.specs.Paper as Paper
use Rattle.moves.specs.Paper.{SeventySixLater}
use Rattle.moves.proofs.Landing

-- a landing in range, and outside it
landing : (z : ℤ) → (landed z ≡ refused 8) ↔ (((e : ℕ) × (z ≡ pos e) × DayInRange e) → ⊥)
landing (pos d) = (out, back)
  where
    out : landed (pos d) ≡ refused 8 → ((e : ℕ) × (pos d ≡ pos e) × DayInRange e) → ⊥
    out h w =
        let f : d ≡ w.0 = let g : pos d ≡ pos w.0 = w.1 in cc in
        let a : ◌≡◌ {A = Answer Date} (is (date_of d)) (refused 8) = sym (Landing.lands d (omega (arith, w.2))) ∙ h in
        let o : ◌≡◌ {A = ℕ} 0 1 = cc in
        omega arith

    back : (((e : ℕ) × (pos d ≡ pos e) × DayInRange e) → ⊥) → landed (pos d) ≡ refused 8
    back w = let o : ¬ (d ≤ 14989859) = λ h. w (d, refl, h) in Landing.lands-out d (omega arith)
landing (negsuc d) = (λ h w. let g : negsuc d ≡ pos w.0 = w.1 in let o : ◌≡◌ {A = ℕ} 0 1 = cc in omega arith, λ w. refl)

-- a landing has no reason but 8
only-eight : (z : ℤ) (r : ℕ) → landed z ≡ refused r → r ≡ 8
only-eight (pos d) r = go (leb d 14989859) refl
  where
    go : (b : Bool) → leb d 14989859 ≡ b → landed (pos d) ≡ refused r → r ≡ 8
    go true e h = absurd (given-not (landed (pos d)) (date_of d) r (Landing.lands d (leb-true d 14989859 e)) h)
    go false e h = let a : ◌≡◌ {A = Answer Date} (refused 8) (refused r) = sym (Landing.lands-out d (leb-false d 14989859 e)) ∙ h in cc
only-eight (negsuc d) r = λ h. let a : ◌≡◌ {A = Answer Date} (refused 8) (refused r) = h in cc

pub move-of-a-date-exactly : Paper.MoveOfADateExactly
move-of-a-date-exactly y k l m d n found =
    record {
      gives = λ e f r a. to-date a (ends ∙ ap landed f ∙ Landing.lands e r ∙ sym (Days.a-day e r));
      eight = λ why. (
        λ h.
            let only : reason_number why ≡ 8 = only-eight (pos d +ℤ n) (reason_number why) (sym ends ∙ sym h) in
            (sym (reason-back why) ∙ ap reason_of only, (landing (pos d +ℤ n)).0 (sym ends ∙ sym h ∙ ap refused only)),
        λ w. ap (λ (why : Reason). refused (reason_number why)) w.0 ∙ sym (ends ∙ (landing (pos d +ℤ n)).1 w.1),
      );
    }
  where
    ends : moved y k l m n ≡ landed (pos d +ℤ n)
    ends = Landing.moved-found y k l m n d (sym found)

    to-date : {x z : Answer Date} (a : Result Date Reason) → x ≡ z → (said a ≡ x) ↔ (said a ≡ z)
    to-date a e = (λ h. h ∙ e, λ h. h ∙ sym e)

pub date's-own-reasons : Paper.DatesOwnReasons
date's-own-reasons y k l m n why h =
    Iff.trans eq_comm (Iff.trans (own (day_of_date y k l m) refl, Landing.moved-refused y k l m n (reason_number why)) eq_comm)
  where
    r : ℕ
    r = reason_number why

    own : (a : Answer ℕ) → day_of_date y k l m ≡ a → moved y k l m n ≡ refused r → day_of_date y k l m ≡ refused r
    own (is d) e g = absurd (h (only-eight (pos d +ℤ n) r (sym (Landing.moved-found y k l m n d e) ∙ g)))
    own (refused j) e g = let a : ◌≡◌ {A = Answer Date} (refused j) (refused r) = sym (Landing.moved-refused y k l m n j e) ∙ g in e ∙ ap refused (cc)
    own (refused-with j i) e g =
        let a : ◌≡◌ {A = Answer Date} (refused-with j i) (refused r) = sym (Landing.moved-refused-with y k l m n j i e) ∙ g in
        absurd (let o : ◌≡◌ {A = ℕ} 0 1 = cc in omega arith)

-- a landing that is answered: the day, in range, whose date it is
pub record Landed (z : ℤ) (r : Date) : Type 0 where
  pub e : ℕ
  pub there : z ≡ pos e
  pub inside : DayInRange e
  pub date : r ≡ date_of e

landed_at : (z : ℤ) (r : Date) → landed z ≡ is r → Landed z r
landed_at (pos d) r = go (leb d 14989859) refl
  where
    go : (b : Bool) → leb d 14989859 ≡ b → landed (pos d) ≡ is r → Landed (pos d) r
    go true e h =
        let i : DayInRange d = leb-true d 14989859 e in
        let a : ◌≡◌ {A = Answer Date} (is (date_of d)) (is r) = sym (Landing.lands d i) ∙ h in
        record { e = d; there = refl; inside = i; date = cc }
    go false e h =
        let a : ◌≡◌ {A = Answer Date} (refused 8) (is r) = sym (Landing.lands-out d (leb-false d 14989859 e)) ∙ h in
        absurd (let o : ◌≡◌ {A = ℕ} 0 1 = cc in omega arith)
landed_at (negsuc d) r = λ h. let a : ◌≡◌ {A = Answer Date} (refused 8) (is r) = h in absurd (let o : ◌≡◌ {A = ℕ} 0 1 = cc in omega arith)

-- a move that is answered: the date has a day, from which it lands
answered : (y k : ℕ) (l : Bool) (m : ℕ) (n : ℤ) (r : Date) → moved y k l m n ≡ is r → (d : ℕ) × (day_of_date y k l m ≡ is d) × Landed (pos d +ℤ n) r
answered y k l m n r h = go (day_of_date y k l m) refl
  where
    go : (a : Answer ℕ) → day_of_date y k l m ≡ a → (d : ℕ) × (day_of_date y k l m ≡ is d) × Landed (pos d +ℤ n) r
    go (is d) e = (d, e, landed_at (pos d +ℤ n) r (sym (Landing.moved-found y k l m n d e) ∙ h))
    go (refused j) e = absurd (given-not (moved y k l m n) r j h (Landing.moved-refused y k l m n j e))
    go (refused-with j i) e =
        let a : ◌≡◌ {A = Answer Date} (refused-with j i) (is r) = sym (Landing.moved-refused-with y k l m n j i e) ∙ h in
        absurd (let o : ◌≡◌ {A = ℕ} 0 1 = cc in omega arith)

-- from a date's own four things a move starts at its day; the day of month by itself, so that a statement's reaches omega
from-date : (e m : ℕ) (n : ℤ) (r : Date) → DayInRange e → r ≡ date_of e → m ≡ r.day_of_month →
    moved r.year (number_of r.month) (leap_mark r.month) m n ≡ landed (pos e +ℤ n)
from-date e m n r i f own =
    Landing.moved-found r.year (number_of r.month) (leap_mark r.month) m n e
    (ap (day_of_date r.year (number_of r.month) (leap_mark r.month)) own ∙ ap own_day f ∙ back-to-day e i)

pub moves-add : Paper.MovesAdd
moves-add y k l m a b date second whole p q s =
    let w = answered y k l m a date (sym p) in
    let at : Landed (pos w.0 +ℤ a) date = w.2 in
    said-once second whole
    (q
    ∙ from-date at.e _ b date at.inside at.date (omega arith)
    ∙ ap (λ (z : ℤ). landed (z +ℤ b)) (sym at.there)
    ∙ ap landed (+ℤ_assoc (pos w.0) a b)
    ∙ sym (Landing.moved-found y k l m (a +ℤ b) w.0 w.1)
    ∙ sym s)

-- the two dates of a date moved by nought and by n: those of a day and of the day n later
two-dates : (y k : ℕ) (l : Bool) (m n : ℕ) (r s : Date) → is r ≡ moved y k l m (pos 0) → is s ≡ moved y k l m (pos n) →
    (d : ℕ) × (date_of d ≡ r) × (date_of (d + n) ≡ s)
two-dates y k l m n r s p q =
    let v = answered y k l m (pos 0) r (sym p) in
    let w = answered y k l m (pos n) s (sym q) in
    let here : Landed (pos (v.0 + 0)) r = v.2 in
    let there : Landed (pos (w.0 + n)) s = w.2 in
    let f : v.0 ≡ w.0 = let g : ◌≡◌ {A = Answer ℕ} (is v.0) (is w.0) = sym v.1 ∙ w.1 in cc in
    let a : v.0 + 0 ≡ here.e = let g : pos (v.0 + 0) ≡ pos here.e = here.there in cc in
    let b : w.0 + n ≡ there.e = let g : pos (w.0 + n) ≡ pos there.e = there.there in cc in
    (here.e, sym here.date, ap date_of {x = here.e + n} (omega arith) ∙ sym there.date)

-- bu b and ji j where the bu goes one on, to c and h
module _ (b c j h : ℕ) (rb : (1 ≤ b) × (b ≤ 20)) (rj : (1 ≤ j) × (j ≤ 3)) (e : c ≡ further 20 1 b) (f : h ≡ further 3 ((b - 1 + 1) / 20) j) where
  another : ¬ (further 3 1 j ≡ j)
  another g = omega (arith, rj, g)

  stays : b < 20 → h ≡ j
  stays few = let q : (b - 1 + 1) / 20 ≡ 0 = omega (arith, few) in f ∙ ap (λ (i : ℕ). further 3 i j) q ∙ omega (arith, rj)

  goes_on : 20 ≤ b → (b ≡ 20) × (c ≡ 1) × (h ≡ further 3 1 j)
  goes_on last =
      let q : (b - 1 + 1) / 20 ≡ 1 = omega (arith, last, rb) in
      (omega (arith, last, rb), omega (arith, last, rb, e), f ∙ ap (λ (i : ℕ). further 3 i j) q)

  one-bu-on : ((h ≡ further 3 1 j) ↔ ((b ≡ 20) × (c ≡ 1))) × ((h ≡ j) ↔ ((b ≡ 20) × (c ≡ 1) → ⊥))
  one-bu-on = (
    (
      λ g. ⊎_elim (λ few. absurd (another (sym g ∙ stays few))) (λ last. ((goes_on last).0, (goes_on last).1)) (lt-or-le b 20),
      λ w. (goes_on (omega (arith, w.0))).2,
    ),
    (
      λ g w. another (sym (goes_on (omega (arith, w.0))).2 ∙ g),
      λ out. ⊎_elim stays (λ last. absurd (out ((goes_on last).0, (goes_on last).1))) (lt-or-le b 20),
    ),
  )

-- the date 27,759 days later
later : (d : ℕ) → SeventySixLater (date_of d) (date_of (d + 27759))
unfolding date_of date_in
later d =
    record {
      month = ap month_at e ∙ Leaps.month-shift 1 (month_of_day d);
      day-of-month = ap (λ (n : ℕ). d + 27759 - month_start n + 1) e ∙ omega (arith, Months.start-shift 1 (month_of_day d), Months.of-day-low d);
      month-length = ap month_length e ∙ Months.length_shift 1 (month_of_day d);
      year = omega (arith, ap civil_year_of_month e, CivilYears.civil-shift 1 (month_of_day d));
      day-name = Counts.day-name-further 1 d;
      year-name =
          ap (λ (n : ℕ). year_name (civil_year_of_month n)) e
          ∙ ap year_name (CivilYears.civil-shift 1 (month_of_day d))
          ∙ Counts.year-name-further 1 (civil_year_of_month (month_of_day d));
      year-in-bu = ap year_in_bu f ∙ Counts.year-in-bu-kept 1 y pos-y;
      bu = bu-on;
      ji-on = on.0;
      ji-stays = on.1;
    }
  where
    e : month_of_day (d + 27759) ≡ month_of_day d + 940
    e = Months.of-day-shift 1 d

    y : ℕ
    y = solstice_year_of_month (month_of_day d)

    z : ℕ
    z = solstice_year_of_month (month_of_day (d + 27759))

    f : z ≡ y + 76
    f = ap solstice_year_of_month e ∙ Years.of-month-shift 1 (month_of_day d)

    pos-y : 1 ≤ y
    pos-y = ((Years.of-month y (month_of_day d)).1 refl).0

    bu-on : bu z ≡ further 20 1 (bu y)
    bu-on = ap bu f ∙ Counts.bu-further 1 y pos-y

    on : ((ji z ≡ further 3 1 (ji y)) ↔ ((bu y ≡ 20) × (bu z ≡ 1))) × ((ji z ≡ ji y) ↔ ((bu y ≡ 20) × (bu z ≡ 1) → ⊥))
    on =
        one-bu-on (bu y) (bu z) (ji y) (ji z) (Counts.place y).bu-range (Counts.place y).ji-range bu-on
        (ap ji f ∙ Counts.ji-further 1 y pos-y)

pub law-of-76 : Paper.LawOf76
law-of-76 y k l m r s p q = let w = two-dates y k l m 27759 r s p q in subst₂ SeventySixLater w.1 w.2 (later w.0)

pub eclipse-mark-kept : Paper.EclipseMarkKept
unfolding date_of date_in
eclipse-mark-kept y k l m r s p q =
    let w = two-dates y k l m 749493 r s p q in
    ap (λ (t : Date). t.eclipse) (sym w.2) ∙ eclipses-kept.days w.0 ∙ ap (λ (t : Date). t.eclipse) w.1

pub eclipse-excepted : Paper.EclipseExcepted
eclipse-excepted a b p q =
    record {
      r = date_of 27758;
      s = date_of 55517;
      here = said-once a _ (p ∙ by 0 (omega arith));
      later = said-once b _ (q ∙ by 27759 (omega arith));
      in_one = ap (λ (t : Date). t.eclipse) Cases.date-27758;
      in-none = Cases.no-eclipse-55517;
    }
  where
    by : (n : ℕ) → DayInRange (27758 + n) → moved 76 10 true 30 (pos n) ≡ is (date_of (27758 + n))
    by n h = Landing.moved-found 76 10 true 30 (pos n) 27758 Cases.last-of-bu-1 ∙ Landing.lands (27758 + n) h

pub moved-agrees : Paper.MovedAgrees
moved-agrees y k l m n r p =
    let at : Landed (pos (answered y k l m n r (sym p)).0 +ℤ n) r = (answered y k l m n r (sym p)).2 in
    (at.e, subst (AgreesWith at.e) (sym at.date) (agrees at.e at.inside))

pub unique-move : Paper.UniqueMove
unique-move y k l m n a b p q = said-once a b (p ∙ sym q)

pub wrong-moves : Paper.WrongMoves
unfolding date_of date_in day_name
wrong-moves =
    record {
      refusing-all = λ why h. given-not (moved 0 11 false 1 (pos 0)) (date_of 0) (reason_number why) (by 0 (omega arith)) (sym h);
      never-moving = λ a p q.
          let e : ◌≡◌ {A = Answer Date} (is (date_of 0)) (is (date_of 27759)) = sym (by 0 (omega arith)) ∙ sym p ∙ q ∙ by 27759 (omega arith) in
          let f : date_of 0 ≡ date_of 27759 = cc in
          omega (arith, ap (λ (s : Date). s.day_name) f);
      wrapping-back = λ r h. given-not (moved 0 11 false 1 (negsuc 0)) r 8 (sym h) (Landing.moved-found 0 11 false 1 (negsuc 0) 0 Cases.first-date);
      wrapping-on = λ r h.
          given-not (moved 41040 10 true 30 (pos 1)) r 8 (sym h)
          (Landing.moved-found 41040 10 true 30 (pos 1) 14989859 Cases.last-date ∙ Landing.lands-out 14989860 (omega arith));
      ji-left = λ r h g. omega (arith, its-ji 1444 11 false 1 527421 Cases.first-of-bu-20 (omega arith) r h, Cases.ji-555180, g);
      ji-not-round = λ r h g. omega (arith, its-ji 4560 10 true 30 1665539 Cases.last-of-a-yuan (omega arith) r h, Cases.ji-1693298, g);
    }
  where
    by : (n : ℕ) → DayInRange (0 + n) → moved 0 11 false 1 (pos n) ≡ is (date_of (0 + n))
    by n h = Landing.moved-found 0 11 false 1 (pos n) 0 Cases.first-date ∙ Landing.lands (0 + n) h

    its-ji : (y k : ℕ) (l : Bool) (m d : ℕ) → day_of_date y k l m ≡ is d → d ≤ 14962100 → (r : Date) → is r ≡ moved y k l m (pos 27759) → r.ji ≡ (date_of (d + 27759)).ji
    its-ji y k l m d e i r h =
        let f : is r ≡ is (date_of (d + 27759)) = h ∙ Landing.moved-found y k l m (pos 27759) d e ∙ Landing.lands (d + 27759) (omega arith) in
        let g : r ≡ date_of (d + 27759) = cc in
        ap (λ (s : Date). s.ji) g
