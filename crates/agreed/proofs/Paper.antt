-- What the calls say of one another, proved, each statement under its name in small letters. Assumes nothing.
use Rattle.rule.specs.declared.Reason.{Reason}
use Rattle.facts.specs.declared.MonthFacts.{MonthFacts}
use Rattle.facts.specs.declared.SolsticeYear.{SolsticeYear}
use Rattle.std.specs.Prelude.{Result, Ok}
use Prim.Native.Nat.{ℕ, ◌+◌, ◌-◌, ◌*◌, ◌/◌, ◌%◌, ◌≤◌, ◌<◌}
use native.Mathlib.Omega.{arith}
use mathlib.Core.Path.{◌≡◌, refl, ap, sym, ◌∙◌, subst}
use mathlib.Core.Logic.{◌↔◌}
use lib.Dec.{leb}
use mathlib.Core.Bool.{Bool, true, false, false≢true}
use Rattle.rule.specs.Counts.{SolsticeYearInRange, DayInRange, MonthInRange, ji, bu, year_in_bu}
use Rattle.rule.specs.Rule.{InMonth, term_day, year_term, mid_term_day, InSolsticeYear, leap, month_number, marked, number_of, solstice_year_of, InCivilYear, eclipse}
use Rattle.rule.specs.Reasons.{said, is, within}
use Rattle.rule.specs.Paper.{MidTerm, NoMidTerm, Numbered, IsMonth, IsPlace, EclipseMonth}
use Rattle.rule.specs.declared.Month.{Month}
use Rattle.rule.specs.declared.Month.TheVariants.{Ordinary, Leap}
use Rattle.rule.proofs.Answers.{within-true, at_most, same_test}
use Rattle.rule.proofs.Eclipses.{eclipse-rule}
use Rattle.rule.proofs.Months.{start-end, of-day}
use Rattle.rule.proofs.Terms.{year-mid-term}
use Rattle.rule.proofs.Years.{of-month, of-month-range}
use Rattle.rule.proofs.Leap.{holds-next, rises-ordinary, ordinary-year, leap-follows, after-namesake, number_at}
use Rattle.rule.proofs.Paper as Rule
use Rattle.dates.specs.declared.Date.{Date}
use Rattle.dates.specs.Promises.{DateOfDay, DayOfDate}
use Rattle.dates.specs.Paper.{HasPlace, IsDate, IsDayOf}
use Rattle.dates.proofs.Named.{last-leap}
use Rattle.dates.proofs.Paper as Dates
use Rattle.facts.specs.Facts.{solstice_year, month_facts}
use Rattle.facts.specs.Paper.{term_before}
use Rattle.facts.specs.Promises.{SolsticeYearFacts, MonthByCount}
use Rattle.facts.proofs.Exactly.{solstice-exactly, month-exactly}
use Rattle.facts.proofs.Given.{two-literally}
use Rattle.facts.proofs.Paper as Facts
use Rattle.agreed.specs.Paper as Paper
use Rattle.agreed.specs.Paper.{FallsIn, HoldsOne, MonthByTerms, DateByTerms, DayByTerms, DatesBy}

-- month n holds mid-term 2j of solstice year y: it is ordinary, and of that year
module _ (y j n : ℕ) (l : 1 ≤ y) (b : j < 12) (h : InMonth n (term_day (year_term y (2 * j)))) where
  mid : InMonth n (mid_term_day (12 * (y - 1) + j))
  mid = let e = year-mid-term y j (12 * (y - 1) + j) refl in (omega (arith, e, h), omega (arith, e, h))

  holding-ordinary : leap n ≡ false
  holding-ordinary = rises-ordinary n (omega (arith, holds-next n (12 * (y - 1) + j) mid))

  holding-year : InSolsticeYear y n
  holding-year =
      let m = holds-next n (12 * (y - 1) + j) mid in
      ordinary-year y n l holding-ordinary (omega (arith, m)) (omega (arith, m))

-- and a solstice year in range has its months in range
month-there : (y n : ℕ) → SolsticeYearInRange y → InSolsticeYear y n → MonthInRange n
month-there y n r i = (of-month-range n).1 (subst SolsticeYearInRange (sym ((of-month y n).0 i)) r)

-- a mid-term is one of a solstice year's twelve
in-its-year : (t : ℕ) → MidTerm t → year_term (t / 24 + 1) (2 * (t % 24 / 2)) ≡ t
in-its-year t e = omega arith

-- mid-term 2j of solstice year y falls in month n: what was answered before W2 is its day, in range
module _ (y j n : ℕ) where
  abbrev There : Type 0
  There = SolsticeYearInRange y × (j < 12) × InMonth n (term_day (year_term y (2 * j)))

  given : (d : ℕ) → (is d ≡ term_before y (2 * j)) ↔ (SolsticeYearInRange y × (2 * j ≤ 23) × (term_day (year_term y (2 * j)) ≡ d))
  unfolding term_day
  given d =
      two-literally (within 1 41040 y) (leb (2 * j) 23) 1 15 (omega arith) (term_day (year_term y (2 * j))) (within-true 1 41040 y) (at_most (2 * j) 23) _ d
      (λ h. (λ e. e, λ e. e))

  falls : FallsIn term_before y j n ↔ There
  falls = (there, back)
    where
      there : FallsIn term_before y j n → There
      there f =
          let (r, b, e) = (given f.day).0 (sym f.answered) in
          (r, omega (arith, b), (omega (arith, e, f.on-its-days), omega (arith, e, f.on-its-days)))

      back : There → FallsIn term_before y j n
      back (r, b, on) =
          record { day = term_day (year_term y (2 * j)); answered = sym ((given _).1 (r, omega (arith, b), refl)); on-its-days = on }

-- an ordinary month
ordinary-told : (y n k : ℕ) → (SolsticeYearInRange y × InSolsticeYear y n × Numbered n k) ↔ HoldsOne term_before y n k
ordinary-told y n k = (there, back)
  where
    there : SolsticeYearInRange y × InSolsticeYear y n × Numbered n k → HoldsOne term_before y n k
    there (r, i, a) =
        let own = holding-year a.year a.j n a.year-from-1 a.one-of-twelve a.holds in
        let e : a.year ≡ y = sym ((of-month a.year n).0 own) ∙ (of-month y n).0 i in
        record {
          j = a.j;
          falls = (falls y a.j n).1 (r, a.one-of-twelve, subst (λ z. InMonth n (term_day (year_term z (2 * a.j)))) e a.holds);
          number = a.number;
        }

    back : HoldsOne term_before y n k → SolsticeYearInRange y × InSolsticeYear y n × Numbered n k
    back a =
        let f = (falls y a.j n).0 a.falls in (
          f.0,
          holding-year y a.j n f.0.0 f.1 f.2,
          record { year = y; j = a.j; year-from-1 = f.0.0; one-of-twelve = f.1; holds = f.2; number = a.number },
        )

-- a leap month: the month before it holds one, so that it is in the range, and so is every mid-term on its days
module _ (y n k : ℕ) (p : 1 ≤ n) (a : HoldsOne term_before y (n - 1) k) where
  before : SolsticeYearInRange y × InSolsticeYear y (n - 1) × Numbered (n - 1) k
  before = (ordinary-told y (n - 1) k).1 a

  not_last : n ≤ 507599
  not_last = omega (arith, month-there y (n - 1) before.0 before.1, no)
    where
      no : ¬ (n - 1 ≡ 507599)
      no e =
          let f = (falls y a.j (n - 1)).0 a.falls in
          let o : leap (n - 1) ≡ false = holding-ordinary y a.j (n - 1) f.0.0 f.1 f.2 in
          false≢true (sym o ∙ ap leap e ∙ last-leap)

  none-falls : ((z j : ℕ) → FallsIn term_before z j n → ⊥) → NoMidTerm n
  unfolding term_day
  none-falls none t d even on e =
      let day : term_day (year_term (t / 24 + 1) (2 * (t % 24 / 2))) ≡ d = ap term_day (in-its-year t even) ∙ e in
      let range : SolsticeYearInRange (t / 24 + 1) = omega (arith, e, on, start-end (n + 1) (omega (arith, not_last))) in
      none (t / 24 + 1) (t % 24 / 2) ((falls (t / 24 + 1) (t % 24 / 2) n).1 (range, omega arith, (omega (arith, on, day), omega (arith, on, day))))

leap-told : (y n k : ℕ) → (SolsticeYearInRange y × InSolsticeYear y n × IsMonth n (Leap k)) ↔ MonthByTerms term_before y n (Leap k)
leap-told y n k = (there, back)
  where
    there : SolsticeYearInRange y × InSolsticeYear y n × IsMonth n (Leap k) → MonthByTerms term_before y n (Leap k)
    there (r, i, m) =
        let same = after-namesake y n i ((Rule.leap-without-mid-term n).1 m.1) in (
          m.0,
          λ z j f.
              let g = (falls z j n).0 f in
              m.1 (year_term z (2 * j)) _ (omega arith) g.2 refl,
          (ordinary-told y (n - 1) k).0 (r, same.same-year, m.2),
        )

    back : MonthByTerms term_before y n (Leap k) → SolsticeYearInRange y × InSolsticeYear y n × IsMonth n (Leap k)
    back (p, none, a) =
        let b = before y n k p a in
        let bare = none-falls y n k p a none in
        let e : n - 1 + 1 ≡ n = omega (arith, p) in
        let l : leap (n - 1 + 1) ≡ true = ap leap e ∙ (Rule.leap-without-mid-term n).1 bare in
        (b.0, subst (InSolsticeYear y) e (leap-follows y (n - 1) b.1 l), (p, bare, b.2))

month-told : (y : ℕ) (m : Month) (n : ℕ) → (SolsticeYearInRange y × InSolsticeYear y n × IsMonth n m) ↔ MonthByTerms term_before y n m
month-told y (Ordinary k) n = ordinary-told y n k
month-told y (Leap k) n = leap-told y n k

-- the number of a month, and the solstice year of one of a civil year
number_is : (n : ℕ) (m : Month) → IsMonth n m → month_number n ≡ number_of m
number_is n m a = sym (number_at n) ∙ ap number_of (Rule.month-is n m a)

solstice-is : (y n : ℕ) (m : Month) → InCivilYear y n → IsMonth n m → InSolsticeYear (solstice_year_of y (number_of m)) n
solstice-is y n m i a = subst (λ k. InSolsticeYear (solstice_year_of y k) n) (number_is n m a) i.1

its-range : (s n : ℕ) → MonthInRange n → InSolsticeYear s n → SolsticeYearInRange s
its-range s n h own = subst SolsticeYearInRange ((of-month s n).0 own) ((of-month-range n).0 h)

-- a month of a civil year, by the terms of its solstice year
civil-told : (y : ℕ) (m : Month) (n : ℕ) → (InCivilYear y n × IsMonth n m) ↔ MonthByTerms term_before (solstice_year_of y (number_of m)) n m
civil-told y m n = (there, back)
  where
    s : ℕ
    s = solstice_year_of y (number_of m)

    there : InCivilYear y n × IsMonth n m → MonthByTerms term_before (solstice_year_of y (number_of m)) n m
    there (i, a) = let own = solstice-is y n m i a in (month-told s m n).0 (its-range s n i.0 own, own, a)

    back : MonthByTerms term_before (solstice_year_of y (number_of m)) n m → InCivilYear y n × IsMonth n m
    back b =
        let (r, own, a) = (month-told s m n).1 b in
        ((month-there s n r own, subst (λ k. InSolsticeYear (solstice_year_of y k) n) (sym (number_is n m a)) own), a)

named-told : (y k : ℕ) (l : Bool) (n : ℕ) → (InCivilYear y n × IsMonth n (marked l k)) ↔ MonthByTerms term_before (solstice_year_of y k) n (marked l k)
named-told y k true n = civil-told y (Leap k) n
named-told y k false n = civil-told y (Ordinary k) n

-- the date of a day
date-told : (d : ℕ) (r : Date) → DateOfDay d (Ok r) ↔ DateByTerms term_before d r
date-told d r = (λ p. there ((Dates.date-of-day-exactly d r).0 p), λ a. (Dates.date-of-day-exactly d r).1 (back a))
  where
    there : DayInRange d × IsDate d r → DateByTerms term_before d r
    there (h, i) =
        record {
          n = i.n;
          on-its-days = i.on-its-days;
          its-month = (civil-told r.year r.month i.n).0 (i.of-its-year, i.its-month);
          besides = i.besides;
        }

    back : DateByTerms term_before d r → DayInRange d × IsDate d r
    back a =
        let (in-year, month) = (civil-told r.year r.month a.n).1 a.its-month in
        let end = start-end (a.n + 1) (omega (arith, in-year.0)) in (
          omega (arith, end, a.on-its-days),
          record {
            n = a.n;
            on-its-days = a.on-its-days;
            of-its-year = in-year;
            its-month = month;
            besides = a.besides;
          },
        )

-- the day of a date
day-told : (y k : ℕ) (l : Bool) (m d : ℕ) → DayOfDate y k l m (Ok d) ↔ DayByTerms term_before y k l m d
day-told y k l m d = (λ p. there ((Dates.day-of-date-exactly y k l m d).0 p), λ a. (Dates.day-of-date-exactly y k l m d).1 (back a))
  where
    there : IsDayOf y k l m d → DayByTerms term_before y k l m d
    there i = record { n = i.n; the-month = (named-told y k l i.n).0 (i.of-the-year, i.the-month); the-day = i.the-day; counted = i.counted }

    back : DayByTerms term_before y k l m d → IsDayOf y k l m d
    back a =
        let b = (named-told y k l a.n).1 a.the-month in
        record { n = a.n; of-the-year = b.0; the-month = b.1; the-day = a.the-day; counted = a.counted }

pub dates-as-before : Paper.DatesAsBefore
dates-as-before =
    record {
      dates = date-told;
      days = day-told;
      four = λ y k l m.
          let r = (Dates.reasons-of-a-date y k l m).four in
          let by = named-told y k true in (
            λ p.
                let (a, (b, (c, (t, (e, none))))) = r.0 p in
                (a, (b, (c, (t, (e, λ w. none (w.0, ((by w.0).1 w.1).0, ((by w.0).1 w.1).1)))))),
            λ q. let (a, (b, (c, (t, (e, none))))) = q in r.1 (a, (b, (c, (t, (e, λ w. none (w.0, (by w.0).0 (w.1, w.2))))))),
          );
      five = λ y k l m.
          let r = (Dates.reasons-of-a-date y k l m).five in
          let by = named-told y k l in (
            λ p. let w = r.0 p in (w.0, (by w.0).0 (w.1, w.2), w.3, w.4),
            λ w. let g = (by w.0).1 w.1 in r.1 (w.0, g.0, g.1, w.2, w.3),
          );
    }

pub dates-by-terms : Paper.DatesByTerms
dates-by-terms told h = subst DatesBy (sym (λ i y k. Facts.term-as-before y k (told y k) (h y k) i)) dates-as-before

-- what is answered for a solstice year and for a month in range
solstice-given : (y : ℕ) → SolsticeYearInRange y → (a : Result SolsticeYear Reason) → SolsticeYearFacts y a → a ≡ Ok (solstice_year y)
solstice-given y h a p =
    (Facts.unique-facts).solstice-year y a (Ok (solstice_year y)) p
    ((Facts.solstice-year-exactly y (solstice_year y)).1 (h, (solstice-exactly y h.0 (solstice_year y)).0 refl))

month-given : (n : ℕ) → MonthInRange n → (a : Result MonthFacts Reason) → MonthByCount n a → a ≡ Ok (month_facts n)
month-given n h a p =
    (Facts.unique-facts).month n a (Ok (month_facts n)) p ((Facts.month-by-count-exactly n (month_facts n)).1 (h, (month-exactly n (month_facts n)).0 refl))

pub place-and-mark : Paper.PlaceAndMark
unfolding solstice_year month_facts
place-and-mark d r p =
    record {
      place = λ a q. (solstice_year s, solstice-given s (its-range s n i.of-its-year.0 own) a q, sym its.0, sym its.1, sym its.2);
      mark = λ m a on q.
          let e : n ≡ m = sym ((of-day n d).0 i.on-its-days) ∙ (of-day m d).0 on in
          let said = subst (λ k. (r.eclipse ≡ true) ↔ EclipseMonth k) e i.besides.its-eclipse in
          (month_facts m, month-given m (subst MonthInRange e i.of-its-year.0) a q, same_test (eclipse m) r.eclipse (eclipse-rule m) said);
    }
  where
    i : IsDate d r
    i = ((Dates.date-of-day-exactly d r).0 p).1

    n : ℕ
    n = i.n

    s : ℕ
    s = solstice_year_of r.year (number_of r.month)

    own : InSolsticeYear s n
    own = solstice-is r.year n r.month i.of-its-year i.its-month

    h : HasPlace n r.ji r.bu r.year_in_bu
    h = i.besides.its-place

    its : (r.ji ≡ ji s) × (r.bu ≡ bu s) × (r.year_in_bu ≡ year_in_bu s)
    its =
        let e : h.y ≡ s = sym ((of-month h.y n).0 h.solstice-year) ∙ (of-month s n).0 own in
        Rule.only-one-place s h.w r.ji r.bu r.year_in_bu (subst (λ y. IsPlace y h.w r.ji r.bu r.year_in_bu) e h.place)
