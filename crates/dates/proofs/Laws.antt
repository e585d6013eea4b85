-- Laws of the two definitions, `date_of` and `day_of_date`, over which the statements are proved. Assumes nothing.
use Prim.Native.Nat.{ℕ, ◌+◌, ◌-◌, ◌*◌, ◌/◌, ◌≤◌, ◌<◌}
use native.Mathlib.Omega.{arith}
use mathlib.Core.Path.{◌≡◌, refl, ap, sym, ◌∙◌, subst}
use mathlib.Core.Logic.Iff
use mathlib.Core.Logic.{◌↔◌, ◌⊎◌, inl, inr, ⊎_elim}
use mathlib.Core.Bool.{Bool, true, false}
use lib.Dec.{leb}
use borrow.Author.Tests.{leb-false, lt-leb}
use Rattle.rule.specs.Counts.{CivilYearInRange, DayInRange, MonthInRange, elapsed, year_name, ji, bu, year_in_bu}
use Rattle.rule.specs.Rule.{
  month_start,
  month_length,
  InMonth,
  month_of_day,
  solstice_year_of_month,
  leap,
  month_number,
  marked,
  month_at,
  number_of,
  leap_mark,
  civil_year_of_month,
  InCivilYear,
  eclipse,
}
use Rattle.rule.specs.Reasons.{Answer, is, refused, within, guard}
use Rattle.rule.specs.Paper.{IsMonth}
use Rattle.rule.specs.declared.Month.TheVariants.{Leap}
use Rattle.rule.proofs.Months
use Rattle.rule.proofs.CivilYears.{of-civil, civil-range}
use Rattle.rule.proofs.Leap as Leaps
use Rattle.rule.proofs.Pairs.{lt-or-le}
use Rattle.rule.proofs.Counts.{place, only-ji, only-bu, only-year}
use Rattle.rule.proofs.Eclipses.{eclipse-rule}
use Rattle.rule.proofs.Years.{of-month}
use Rattle.rule.proofs.Paper.{is-month, month-is}
use Rattle.rule.proofs.Answers.{
  within-true,
  fails,
  holds-where,
  same_test,
  exactly,
  same-given,
  Never,
  never-is,
  never-guard,
  fails-here,
  fails-later,
  holds-all,
  then-iff,
  inside,
  test_iff,
  at_most,
  under,
}
use Rattle.dates.specs.declared.Date.{Date}
use Rattle.dates.specs.Dates.{
  NumberInRange,
  DayOfMonthInRange,
  date_in,
  date_of,
  date_at,
  number_there,
  mid_term_of,
  named_month,
  month_asked,
  is_there,
  day_in_month,
  day_of_named,
  day_of_date,
}
use Rattle.dates.specs.Paper.{HasPlace, IsDate, IsDayOf, AsksFor, AgreesWith, NotInYear}
use Rattle.dates.proofs.Named

is-date : (d : ℕ) → DayInRange d → IsDate d (date_of d)
unfolding date_of date_in
is-date d h =
    record {
      n = month_of_day d;
      on-its-days = (Months.of-day-low d, Months.of-day-high d);
      of-its-year = (of-civil (civil_year_of_month (month_of_day d)) (month_of_day d)).1 ((Months.of-day-range d).0 h, refl);
      its-month = is-month (month_of_day d);
      besides = record {
        its-day = omega (arith, Months.of-day-low d);
        its-length = sym (Months.start-next (month_of_day d));
        its-day-name = refl;
        its-year-name = refl;
        its-place = record { y = s; w = elapsed s / 4560; solstice-year = (of-month s (month_of_day d)).1 refl; place = place s };
        its-eclipse = eclipse-rule (month_of_day d);
      };
    }
  where
    s : ℕ
    s = solstice_year_of_month (month_of_day d)

-- the date of a day is just what the paper says, and nothing else is
date-only : (d : ℕ) (r : Date) → IsDate d r → r ≡ date_of d
unfolding date_of date_in
date-only d r a =
    (λ i.
    record {
      year = same-year i;
      month = sym (month-is n r.month a.its-month) i;
      day_of_month = same-day i;
      month_length = same_length i;
      day_name = a.besides.its-day-name i;
      year_name = (a.besides.its-year-name ∙ ap year_name same-year) i;
      ji = (only-ji its.y its.w _ _ _ its.place ∙ ap ji same-solstice-year) i;
      bu = (only-bu its.y its.w _ _ _ its.place ∙ ap bu same-solstice-year) i;
      year_in_bu = (only-year its.y its.w _ _ _ its.place ∙ ap year_in_bu same-solstice-year) i;
      eclipse = same_test r.eclipse (eclipse n) a.besides.its-eclipse (eclipse-rule n) i;
    })
    ∙ ap (λ (m : ℕ). date_in m d) (sym ((Months.of-day n d).0 a.on-its-days))
  where
    n : ℕ
    n = a.n

    its : HasPlace n r.ji r.bu r.year_in_bu
    its = a.besides.its-place

    same-year : r.year ≡ civil_year_of_month n
    same-year = sym ((of-civil r.year n).0 a.of-its-year).1

    same-solstice-year : its.y ≡ solstice_year_of_month n
    same-solstice-year = sym ((of-month its.y n).0 its.solstice-year)

    same-day : r.day_of_month ≡ d - month_start n + 1
    same-day = omega (arith, a.besides.its-day, a.on-its-days.0)

    same_length : r.month_length ≡ month_length n
    same_length = omega (arith, a.besides.its-length, Months.start-next n)

pub date-is : (d : ℕ) (r : Date) → DayInRange d → (date_of d ≡ r) ↔ IsDate d r
date-is d r h = exactly (IsDate d) (date_of d) (is-date d h) (date-only d) r

-- a day is answered where it is in range, and with its date
pub dated : (d : ℕ) (r : Date) → (date_at d ≡ is r) ↔ (DayInRange d × (date_of d ≡ r))
unfolding date_at
dated d r =
    test_iff (then-iff (holds-all (leb d 14989859) 6 (is (date_of d)) r) (same-given (date_of d) r))
    (at_most d 14989859)

-- the month of a civil year with a number and mark is the one asked for
asked : (y k : ℕ) (l : Bool) → NumberInRange k → number_there y k ≡ true → is_there (mid_term_of y k) l ≡ true →
    InCivilYear y (month_asked (mid_term_of y k) l) × IsMonth (month_asked (mid_term_of y k) l) (marked l k)
asked y k l s r h =
    let n = month_asked (mid_term_of y k) l in
    let w = (within-true 11 492490 (12 * y + k)).0 r in
    let mark = Named.asked-number y k s w.0 l h in
    (Named.asked-year y k s w.0 l h w.1, subst (IsMonth n) (Leaps.at_mark n k l mark.0 mark.1) (is-month n))

-- the row of tests that a date to day goes through
module _ (y k : ℕ) (l : Bool) (q : ℕ) where
  m : ℕ
  m = mid_term_of y k

  n : ℕ
  n = month_asked m l

  -- it is answered where each test holds
  answered : (d : ℕ) →
      let found = ◌≡◌ {A = Answer ℕ} (is (month_start n + (q - 1))) (is d) in
      (day_of_date y k l q ≡ is d)
      ↔ (CivilYearInRange y
      × (NumberInRange k × (DayOfMonthInRange q × ((number_there y k ≡ true) × ((is_there m l ≡ true) × ((q ≤ month_length n) × found))))))
  unfolding day_of_date day_of_named day_in_month n m
  answered d =
      test_iff (then-iff (holds-all (leb y 41040) 1 _ d)
      (test_iff (then-iff (holds-all (within 1 12 k) 2 _ d)
      (test_iff (then-iff (holds-all (within 1 30 q) 3 _ d)
      (then-iff (holds-all (number_there y k) 16 _ d)
      (then-iff (holds-all (is_there m l) 4 _ d)
      (test_iff (holds-all (leb q (month_length n)) 5 _ d) (at_most q (month_length n))))))
      (within-true 1 30 q)))
      (within-true 1 12 k)))
      (at_most y 41040)

-- a month of a civil year with a number and mark: its number is there, and it is the month asked for
module _ (y k n : ℕ) (l : Bool) (i : InCivilYear y n) (a : IsMonth n (marked l k)) where
  its-mark : (leap n ≡ l) × (month_number n ≡ k)
  its-mark = Leaps.mark_of n k l (month-is n (marked l k) a)

  its-number : NumberInRange k
  its-number = (omega (arith, its-mark.1, Leaps.number-range n), omega (arith, its-mark.1, Leaps.number-range n))

  its-year : CivilYearInRange y
  its-year = omega (arith, ((of-civil y n).0 i).1, civil-range n i.0)

  its-number-there : number_there y k ≡ true
  its-number-there = (within-true 11 492490 (12 * y + k)).1 (omega (arith, its-mark.1, Named.number-there y n i), omega (arith, its-mark.1, Named.number-there y n i))

  pub it-is-asked : (is_there (mid_term_of y k) l ≡ true) × (month_asked (mid_term_of y k) l ≡ n)
  it-is-asked = Named.asked-only y k n l i its-mark

-- the day of a date is just what the paper says
pub day-is : (y k : ℕ) (l : Bool) (q d : ℕ) → (day_of_date y k l q ≡ is d) ↔ IsDayOf y k l q d
unfolding n m
day-is y k l q d = (there, back)
  where
    there : day_of_date y k l q ≡ is d → IsDayOf y k l q d
    there e =
        let a = (answered y k l q d).0 e in
        let last = a.1.1.1 in
        let b = asked y k l a.1.0 last.0 last.1.0 in
        let s = month_start (month_asked (mid_term_of y k) l) in
        let f : s + (q - 1) ≡ d = let g : ◌≡◌ {A = Answer ℕ} (is (s + (q - 1))) (is d) = last.1.1.1 in cc in
        record {
          n = month_asked (mid_term_of y k) l;
          of-the-year = b.0;
          the-month = b.1;
          the-day = (a.1.1.0.0, last.1.1.0);
          counted = omega (arith, a.1.1.0.0);
        }

    back : IsDayOf y k l q d → day_of_date y k l q ≡ is d
    back a =
        let only = it-is-asked y k a.n l a.of-the-year a.the-month in
        let long : month_length (month_asked (mid_term_of y k) l) ≡ month_length a.n = ap month_length only.1 in
        let start : month_start (month_asked (mid_term_of y k) l) ≡ month_start a.n = ap month_start only.1 in
        (answered y k l q d).1 (
          its-year y k a.n l a.of-the-year a.the-month,
          (
            its-number y k a.n l a.of-the-year a.the-month,
            (
              (a.the-day.0, omega (arith, a.the-day.1, Months.length-range a.n)),
              (
                its-number-there y k a.n l a.of-the-year a.the-month,
                (only.0, (omega (arith, a.the-day.1), ap is (omega (arith, a.counted, a.the-day.0)))),
              ),
            ),
          ),
        )

-- the day of a date by its own four things
abbrev pub own_day : Date → Answer ℕ
own_day r = day_of_date r.year (number_of r.month) (leap_mark r.month) r.day_of_month

-- from a day to its date and back
pub back-to-day : (d : ℕ) → DayInRange d → own_day (date_of d) ≡ is d
back-to-day d h =
    let a : IsDate d (date_of d) = is-date d h in
    (day-is (date_of d).year (number_of (date_of d).month) (leap_mark (date_of d).month) (date_of d).day_of_month d).1
    record {
      n = a.n;
      of-the-year = a.of-its-year;
      the-month = subst (IsMonth a.n) (sym (Leaps.month-again (date_of d).month)) a.its-month;
      the-day =
          (omega (arith, a.besides.its-day, a.on-its-days.0), omega (arith, a.besides.its-day, a.on-its-days.1, Months.start-next a.n));
      counted = a.besides.its-day;
    }

-- so the date of a day agrees with it
pub agrees : (d : ℕ) → DayInRange d → AgreesWith d (date_of d)
agrees d h = record { its_own = sym (back-to-day d h); its-date = is-date d h }

-- from a date to its day and back: the day is in range, and its date the one asked for
pub found-date : (y k : ℕ) (l : Bool) (m d : ℕ) → day_of_date y k l m ≡ is d → DayInRange d × AsksFor y k l m (date_of d)
unfolding date_of date_in
found-date y k l m d e =
    let a : IsDayOf y k l m d = (day-is y k l m d).0 e in
    let i : InMonth a.n d = (omega (arith, a.counted, a.the-day.0), omega (arith, a.counted, a.the-day.1, Months.start-next a.n)) in
    let f : month_of_day d ≡ a.n = (Months.of-day a.n d).0 i in
    let g = (of-civil y a.n).0 a.of-the-year in (
      (Months.of-day-range d).1 (subst MonthInRange (sym f) g.0),
      record {
        year = ap civil_year_of_month f ∙ g.1;
        month = ap month_at f ∙ month-is a.n (marked l k) a.the-month;
        day = ap (λ (n : ℕ). d - month_start n + 1) f ∙ omega (arith, a.counted, a.the-day.0);
      },
    )

-- a number is not there exactly where the paper says so
not_there : (y k : ℕ) → CivilYearInRange y → NumberInRange k → (number_there y k ≡ false) ↔ NotInYear y k
not_there y k r s = (λ e. there (out.0 e), λ h. out.1 (λ w. back w h))
  where
    out : (number_there y k ≡ false) ↔ ((11 ≤ 12 * y + k) × (12 * y + k ≤ 492490) → ⊥)
    out = fails (number_there y k) (within-true 11 492490 (12 * y + k))

    there : ((11 ≤ 12 * y + k) × (12 * y + k ≤ 492490) → ⊥) → NotInYear y k
    there outside =
        ⊎_elim first (λ later. ⊎_elim (λ inner. absurd (outside (omega arith, omega (arith, s.1)))) last (lt-or-le y 41040)) (lt-or-le y 1)
      where
        first : y < 1 → NotInYear y k
        first h = ⊎_elim (λ high. absurd (outside (omega arith, omega arith))) (λ low. inl (omega arith, s.0, low)) (lt-or-le 10 k)

        last : 41040 ≤ y → NotInYear y k
        last h =
            ⊎_elim (λ low. absurd (outside (omega arith, omega arith)))
            (λ high. inr (omega arith, ⊎_elim (λ g. inl (omega (arith, high, g))) (λ g. inr (omega (arith, s.1, g))) (lt-or-le k 12)))
            (lt-or-le k 11)

    back : (11 ≤ 12 * y + k) × (12 * y + k ≤ 492490) → NotInYear y k → ⊥
    back w = ⊎_elim (λ h. omega (arith, w, h)) (λ h. ⊎_elim (λ g. omega (arith, w, h.0, g)) (λ g. omega (arith, w, h.0, g)) h.1)

-- where each reason of a date comes from
module _ (y k : ℕ) (l : Bool) (q : ℕ) where
  numbers : (within 1 12 k ≡ true) ↔ NumberInRange k
  numbers = within-true 1 12 k

  days : (within 1 30 q ≡ true) ↔ DayOfMonthInRange q
  days = within-true 1 30 q

  -- what a number that is there is answered with, and what one in its range is
  abbrev named : Answer ℕ
  named = day_of_named (mid_term_of y k) l q

  abbrev numbered : Answer ℕ
  numbered = guard (number_there y k) 16 named

  never-named : (i : ℕ) → (4 ≡ i → ⊥) → (5 ≡ i → ⊥) → Never i named
  unfolding day_of_named day_in_month
  never-named i a b = never-guard (is_there (mid_term_of y k) l) i 4 _ a (never-guard (leb q (month_length (month_asked (mid_term_of y k) l))) i 5 _ b (never-is i _))

  never-numbered : (i : ℕ) → i < 4 → Never i numbered
  never-numbered i h = never-guard (number_there y k) i 16 named (omega arith) (never-named i (omega arith) (omega arith))

  never-day : (i : ℕ) → i < 3 → Never i (guard (within 1 30 q) 3 numbered)
  never-day i h = never-guard (within 1 30 q) i 3 numbered (omega arith) (never-numbered i (omega arith))

  -- a reason after the third: the three ranges hold
  after-three : (j : ℕ) → 3 < j → (day_of_date y k l q ≡ refused j) ↔ (CivilYearInRange y × (NumberInRange k × (DayOfMonthInRange q × (numbered ≡ refused j))))
  unfolding day_of_date
  after-three j h =
      test_iff (then-iff (fails-later (leb y 41040) 1 j _ (omega arith))
      (test_iff (then-iff (fails-later (within 1 12 k) 2 j _ (omega arith))
      (test_iff (fails-later (within 1 30 q) 3 j _ (omega arith)) days))
      numbers))
      (at_most y 41040)

  pub one : (day_of_date y k l q ≡ refused 1) ↔ (CivilYearInRange y → ⊥)
  unfolding day_of_date
  one =
      Iff.trans (fails-here (leb y 41040) 1 _ (never-guard (within 1 12 k) 1 2 _ (omega arith) (never-day 1 (omega arith))))
      (fails (leb y 41040) (at_most y 41040))

  pub two : (day_of_date y k l q ≡ refused 2) ↔ (CivilYearInRange y × (NumberInRange k → ⊥))
  unfolding day_of_date
  two =
      test_iff (then-iff (fails-later (leb y 41040) 1 2 _ (omega arith))
      (Iff.trans (fails-here (within 1 12 k) 2 _ (never-day 2 (omega arith))) (fails (within 1 12 k) numbers)))
      (at_most y 41040)

  pub three : (day_of_date y k l q ≡ refused 3) ↔ (CivilYearInRange y × (NumberInRange k × (DayOfMonthInRange q → ⊥)))
  unfolding day_of_date
  three =
      test_iff (then-iff (fails-later (leb y 41040) 1 3 _ (omega arith))
      (test_iff (then-iff (fails-later (within 1 12 k) 2 3 _ (omega arith))
      (Iff.trans (fails-here (within 1 30 q) 3 _ (never-numbered 3 (omega arith))) (fails (within 1 30 q) days)))
      numbers))
      (at_most y 41040)

  pub sixteen : (day_of_date y k l q ≡ refused 16) ↔ (CivilYearInRange y × (NumberInRange k × (DayOfMonthInRange q × NotInYear y k)))
  sixteen =
      Iff.trans (after-three 16 (omega arith))
      (under (λ a. a, λ a. a) (λ r. under (λ a. a, λ a. a) (λ s.
      inside (Iff.trans (fails-here (number_there y k) 16 named (never-named 16 (omega arith) (omega arith))) (not_there y k r s)))))

  -- a reason after 16: the number is there too
  after-sixteen : (j : ℕ) → 3 < j → j < 16 →
      (day_of_date y k l q ≡ refused j)
      ↔ (CivilYearInRange y × (NumberInRange k × (DayOfMonthInRange q × ((number_there y k ≡ true) × (named ≡ refused j)))))
  after-sixteen j h g = Iff.trans (after-three j h) (inside (inside (inside (fails-later (number_there y k) 16 j named (omega arith)))))

-- reason 4: a leap month is asked, and the year has none of that number
none-there : (y k : ℕ) (l : Bool) → NumberInRange k → number_there y k ≡ true →
    (is_there (mid_term_of y k) l ≡ false) ↔ ((l ≡ true) × (((n : ℕ) × InCivilYear y n × IsMonth n (Leap k)) → ⊥))
none-there y k false s r = (
  λ e. absurd (let o : ◌≡◌ {A = ℕ} 0 1 = cc in omega arith),
  λ h. absurd (let e : false ≡ true = h.0 in let o : ◌≡◌ {A = ℕ} 0 1 = cc in omega arith),
)
none-there y k true s r = (λ e. (refl, none e), λ h. back h.1 (leap (N + 1)) refl)
  where
    N : ℕ
    N = named_month (mid_term_of y k)

    none : leap (N + 1) ≡ false → ((n : ℕ) × InCivilYear y n × IsMonth n (Leap k)) → ⊥
    none e w = let f : leap (N + 1) ≡ true = (it-is-asked y k w.0 true w.1 w.2).0 in let o : ◌≡◌ {A = ℕ} 0 1 = cc in omega arith

    back : (((n : ℕ) × InCivilYear y n × IsMonth n (Leap k)) → ⊥) → (b : Bool) → leap (N + 1) ≡ b → leap (N + 1) ≡ false
    back w true e = let a = asked y k true s r e in absurd (w (N + 1, a.0, a.1))
    back w false e = e

pub four : (y k : ℕ) (l : Bool) (q : ℕ) →
    (day_of_date y k l q ≡ refused 4)
    ↔ (CivilYearInRange y
    × (NumberInRange k
    × (DayOfMonthInRange q × ((NotInYear y k → ⊥) × ((l ≡ true) × (((n : ℕ) × InCivilYear y n × IsMonth n (Leap k)) → ⊥))))))
unfolding day_of_named day_in_month
four y k l q =
    Iff.trans (after-sixteen y k l q 4 (omega arith) (omega arith))
    (under (λ a. a, λ a. a) (λ r. under (λ a. a, λ a. a) (λ s.
    inside (test_iff (under (λ a. a, λ a. a) (λ t. Iff.trans here (none-there y k l s t))) (holds-where (number_there y k) (not_there y k r s))))))
  where
    here : (day_of_named (mid_term_of y k) l q ≡ refused 4) ↔ (is_there (mid_term_of y k) l ≡ false)
    here =
        fails-here (is_there (mid_term_of y k) l) 4 (day_in_month (month_asked (mid_term_of y k) l) q)
        (never-guard (leb q (month_length (month_asked (mid_term_of y k) l))) 4 5 _ (omega arith) (never-is 4 _))

-- reason 5: day 30 of a 29-day month
pub five : (y k : ℕ) (l : Bool) (q : ℕ) →
    (day_of_date y k l q ≡ refused 5) ↔ ((n : ℕ) × InCivilYear y n × IsMonth n (marked l k) × (month_length n ≡ 29) × (q ≡ 30))
unfolding day_of_named day_in_month
five y k l q = (there, back)
  where
    N : ℕ
    N = month_asked (mid_term_of y k) l

    short : (day_of_named (mid_term_of y k) l q ≡ refused 5) ↔ ((is_there (mid_term_of y k) l ≡ true) × (leb q (month_length N) ≡ false))
    short =
        then-iff (fails-later (is_there (mid_term_of y k) l) 4 5 (day_in_month N q) (omega arith))
        (fails-here (leb q (month_length N)) 5 (is (month_start N + (q - 1))) (never-is 5 (month_start N + (q - 1))))

    there : day_of_date y k l q ≡ refused 5 → (n : ℕ) × InCivilYear y n × IsMonth n (marked l k) × (month_length n ≡ 29) × (q ≡ 30)
    there e =
        let a = (after-sixteen y k l q 5 (omega arith) (omega arith)).0 e in
        let b = short.0 a.1.1.1.1 in
        let c = asked y k l a.1.0 a.1.1.1.0 b.0 in
        let f : month_length N < q = leb-false q (month_length N) b.1 in
        (N, c.0, c.1, omega (arith, Months.length-range N, a.1.1.0.1), omega (arith, Months.length-range N, a.1.1.0.1))

    back : ((n : ℕ) × InCivilYear y n × IsMonth n (marked l k) × (month_length n ≡ 29) × (q ≡ 30)) → day_of_date y k l q ≡ refused 5
    back w =
        let only = it-is-asked y k w.0 l w.1 w.2 in
        let long : month_length N ≡ month_length w.0 = ap month_length only.1 in
        (after-sixteen y k l q 5 (omega arith) (omega arith)).1 (
          its-year y k w.0 l w.1 w.2,
          (
            its-number y k w.0 l w.1 w.2,
            (
              (omega (arith, w.4), omega (arith, w.4)),
              (
                its-number-there y k w.0 l w.1 w.2,
                short.1 (only.0, lt-leb q (month_length N) (omega (arith, long, w.3, w.4))),
              ),
            ),
          ),
        )

-- no reason but these six
abbrev OneOfSix : ℕ → Type 0
OneOfSix j = (j ≤ 5) ⊎ (j ≡ 16)

no-later : {A : Type 0} (t : Bool) (i : ℕ) (a : Answer A) → OneOfSix i → ((j : ℕ) → a ≡ refused j → OneOfSix j) → (j : ℕ) → guard t i a ≡ refused j → OneOfSix j
no-later true i a l h = h
no-later {A = A} false i a l h = λ j e. subst OneOfSix (let f : i ≡ j = let g : ◌≡◌ {A = Answer A} (refused i) (refused j) = e in cc in f) l

pub no_other : (y k : ℕ) (l : Bool) (q j : ℕ) → day_of_date y k l q ≡ refused j → OneOfSix j
unfolding day_of_date day_of_named day_in_month
no_other y k l q =
    no-later (leb y 41040) 1 _ (inl (omega arith))
    (no-later (within 1 12 k) 2 _ (inl (omega arith))
    (no-later (within 1 30 q) 3 _ (inl (omega arith))
    (no-later (number_there y k) 16 _ (inr refl)
    (no-later (is_there (mid_term_of y k) l) 4 _ (inl (omega arith))
    (no-later (leb q (month_length (month_asked (mid_term_of y k) l))) 5 (is (month_start (month_asked (mid_term_of y k) l) + (q - 1))) (inl (omega arith))
    (λ j e. absurd (let o : ◌≡◌ {A = ℕ} 0 1 = cc in omega arith)))))))
