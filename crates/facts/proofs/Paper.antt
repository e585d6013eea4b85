-- What the paper says of these answers, proved, each statement under its name in small letters. Assumes nothing.
use Rattle.std.specs.Prelude.{Option, Some, Result, Ok, Err}
use Rattle.rule.specs.declared.Reason.{Reason}
use Rattle.rule.specs.declared.Quarter.{Quarter}
use Prim.Native.Nat.{ℕ, ◌+◌, ◌-◌, ◌*◌}
use native.Mathlib.Omega.{arith}
use mathlib.Core.Path.{◌≡◌, refl, ap, sym, ◌∙◌}
use mathlib.Core.Bool.{Bool, true, false, false≢true}
use lib.Dec.{leb}
use Rattle.rule.specs.Counts.{SolsticeYearInRange, MonthInRange, year_name, bu, year_in_bu}
use Rattle.rule.specs.Rule.{month_start, month_length, quarter_day, term_day, term_parts, year_term, leap_mark, month_at, eclipse}
use Rattle.rule.specs.Reasons.{said, Answer, is, guard, within, and_then, reason_number, reason_of}
use Rattle.rule.specs.Paper.{IsTerm}
use Rattle.rule.specs.declared.Term.{Term}
use Rattle.rule.proofs.Answers.{reason-back, within-true, at_most, read_back, once, given-not, one_only, two-only}
use Rattle.rule.proofs.Leap.{mark-at}
use Rattle.rule.proofs.Paper as Rule
use Rattle.facts.specs.declared.SolsticeYear.{SolsticeYear}
use Rattle.facts.specs.declared.LeapMonth.{LeapMonth}
use Rattle.facts.specs.declared.YearFacts.{YearFacts}
use Rattle.facts.specs.declared.MonthFacts.{MonthFacts}
use Rattle.facts.specs.Facts.{
  solstice_year,
  solstice_year_at,
  year_facts,
  year_facts_at,
  month_facts,
  month_facts_at,
  quarter_of,
  quarter_at,
  term_of,
  term_at,
}
use Rattle.facts.specs.Promises.{SolsticeYearFacts, MonthByCount, TermOfYear}
use Rattle.facts.specs.Paper as Paper
use Rattle.facts.proofs.Cases.{leap-of-11}
use Rattle.facts.proofs.Given.{
  told_is,
  one-literally,
  one-reason,
  two-literally,
  two-reason-first,
  two-reason-second,
  solstice-year-given,
  year-given,
  month-given,
  quarter-given,
  term-given,
}
use Rattle.facts.proofs.Exactly.{solstice-exactly, year-exactly, month-exactly, quarter-exactly, term-exactly}

pub reasons-of-facts : Paper.ReasonsOfFacts
unfolding solstice_year_at year_facts_at month_facts_at quarter_at term_at
reasons-of-facts =
    record {
      years = λ y.
          record {
            place-one = one-reason (within 1 41040 y) 1 (solstice_year y) (within-true 1 41040 y);
            place-only = λ why. one_only why (within 1 41040 y) 1 (solstice_year y);
            own-one = one-reason (leb y 41040) 1 (year_facts y) (at_most y 41040);
            own-only = λ why. one_only why (leb y 41040) 1 (year_facts y);
          };
      months = λ n.
          record {
            seven = one-reason (leb n 507599) 7 (month_facts n) (at_most n 507599);
            only = λ why. one_only why (leb n 507599) 7 (month_facts n);
          };
      quarters = λ n q.
          record {
            seven = two-reason-first (leb n 507599) (leb q 3) 7 15 (omega arith) (quarter_of n q) (at_most n 507599) (at_most q 3);
            fifteen = two-reason-second (leb n 507599) (leb q 3) 7 15 (omega arith) (quarter_of n q) (at_most n 507599) (at_most q 3);
            only = λ why. two-only why (leb n 507599) (leb q 3) 7 15 (quarter_of n q);
          };
      terms = λ y k.
          record {
            one = two-reason-first (within 1 41040 y) (leb k 23) 1 15 (omega arith) (term_of y k) (within-true 1 41040 y) (at_most k 23);
            fifteen = two-reason-second (within 1 41040 y) (leb k 23) 1 15 (omega arith) (term_of y k) (within-true 1 41040 y) (at_most k 23);
            only = λ why. two-only why (within 1 41040 y) (leb k 23) 1 15 (term_of y k);
          };
    }

pub unique-facts : Paper.UniqueFacts
unfolding read_back
unique-facts =
    record {
      solstice-year = λ y a b p q. once said Ok (λ k. Err (reason_of k)) solstice a b (solstice_year_at y) p q;
      year = λ y a b p q. once said Ok (λ k. Err (reason_of k)) year a b (year_facts_at y) p q;
      month = λ n a b p q. once said Ok (λ k. Err (reason_of k)) month a b (month_facts_at n) p q;
      quarter = λ n r a b p q. once said Ok (λ k. Err (reason_of k)) quarter a b (quarter_at n r) p q;
      term = λ y k a b p q. once said Ok (λ j. Err (reason_of j)) term a b (term_at y k) p q;
    }
  where
    solstice : (e : Result SolsticeYear Reason) → read_back said Ok (λ k. Err (reason_of k)) (said e) ≡ e
    solstice (Ok r) = refl
    solstice (Err r) = ap Err (reason-back r)

    year : (e : Result YearFacts Reason) → read_back said Ok (λ k. Err (reason_of k)) (said e) ≡ e
    year (Ok r) = refl
    year (Err r) = ap Err (reason-back r)

    month : (e : Result MonthFacts Reason) → read_back said Ok (λ k. Err (reason_of k)) (said e) ≡ e
    month (Ok r) = refl
    month (Err r) = ap Err (reason-back r)

    quarter : (e : Result Quarter Reason) → read_back said Ok (λ k. Err (reason_of k)) (said e) ≡ e
    quarter (Ok r) = refl
    quarter (Err r) = ap Err (reason-back r)

    term : (e : Result Term Reason) → read_back said Ok (λ j. Err (reason_of j)) (said e) ≡ e
    term (Ok r) = refl
    term (Err r) = ap Err (reason-back r)

-- the literal readings
pub solstice-year-exactly : Paper.SolsticeYearExactly
unfolding solstice_year_at
solstice-year-exactly y s =
    one-literally (within 1 41040 y) 1 (solstice_year y) (within-true 1 41040 y) (Paper.IsSolsticeYear y s) s (λ h. solstice-exactly y h.0 s)

pub year-facts-exactly : Paper.YearFactsExactly
unfolding year_facts_at
year-facts-exactly y f = one-literally (leb y 41040) 1 (year_facts y) (at_most y 41040) (Paper.IsYearFacts y f) f (λ h. year-exactly y h f)

pub month-by-count-exactly : Paper.MonthByCountExactly
unfolding month_facts_at
month-by-count-exactly n f = one-literally (leb n 507599) 7 (month_facts n) (at_most n 507599) (Paper.IsMonthFacts n f) f (λ h. month-exactly n f)

pub quarter-of-month-exactly : Paper.QuarterOfMonthExactly
unfolding quarter_at
quarter-of-month-exactly n q r =
    two-literally (leb n 507599) (leb q 3) 7 15 (omega arith) (quarter_of n q) (at_most n 507599) (at_most q 3) (Paper.IsQuarter n q r) r
    (λ h. quarter-exactly n q r)

pub term-of-year-exactly : Paper.TermOfYearExactly
unfolding term_at
term-of-year-exactly y k r =
    two-literally (within 1 41040 y) (leb k 23) 1 15 (omega arith) (term_of y k) (within-true 1 41040 y) (at_most k 23)
    (IsTerm (year_term y k) r.day r.parts) r
    (λ h. term-exactly y k r)

-- an answer that passes two tests, and what is asked further of it
then-two : {A B : Type 0} (t s : Bool) (k j : ℕ) (x : A) (f : A → B) →
    and_then (guard t k (guard s j (is x))) (λ a. is (f a)) ≡ guard t k (guard s j (is (f x)))
then-two true true k j x f = refl
then-two true false k j x f = refl
then-two false s k j x f = refl

pub term-as-before : Paper.TermAsBefore
unfolding term_at term_of term_day
term-as-before y k a p =
    ap (λ (b : Answer Term). and_then b (λ r. is r.day)) p
    ∙ then-two (within 1 41040 y) (leb k 23) 1 15 (term_of y k) (λ r. r.day)

pub mid-term-even : Paper.MidTermEven
mid-term-even y j r p =
    let g = ((term-of-year-exactly y (2 * j) r).0 p).2.falls in
    let e : r.parts ≡ 2 * (487 * (12 * (y - 1) + j) - 16 * r.day) = omega (arith, g) in
    omega (arith, e)

-- one answer for two inputs at which some number of what is given differs
differ : {A E : Type 0} (said : E → Answer A) (f : A → ℕ) (a : E) (x y : A) → (f x ≡ f y → ⊥) → said a ≡ is x → said a ≡ is y → ⊥
differ said f a x y apart p q = apart (ap f (told_is y x (is y) refl (sym p ∙ q)))

pub wrong-facts : Paper.WrongFacts
unfolding solstice_year bu year_facts year_name month_facts month_start quarter_of quarter_day term_of term_day term_parts
wrong-facts =
    record {
      solstice-year-refused = λ why p. given-not (solstice_year_at 1) (solstice_year 1) (reason_number why) (solstice-year-given 1 (omega arith)) (sym p);
      year-refused = λ why p. given-not (year_facts_at 11) (year_facts 11) (reason_number why) (year-given 11 (omega arith)) (sym p);
      month-refused = λ why p. given-not (month_facts_at 134) (month_facts 134) (reason_number why) (month-given 134 (omega arith)) (sym p);
      quarter-refused = λ why p. given-not (quarter_at 0 0) (quarter_of 0 0) (reason_number why) (quarter-given 0 0 (omega arith) (omega arith)) (sym p);
      term-refused = λ why p. given-not (term_at 1 0) (term_of 1 0) (reason_number why) (term-given 1 0 (omega arith) (omega arith)) (sym p);
      solstice-year-fixed = λ a p q.
          differ said (λ s. s.bu) a (solstice_year 76) (solstice_year 77) (λ e. omega arith)
          (p ∙ solstice-year-given 76 (omega arith))
          (q ∙ solstice-year-given 77 (omega arith));
      year-fixed = λ a p q.
          differ said (λ f. f.name) a (year_facts 76) (year_facts 77) (λ e. omega arith)
          (p ∙ year-given 76 (omega arith))
          (q ∙ year-given 77 (omega arith));
      month-fixed = λ a p q.
          differ said (λ f. f.first_day) a (month_facts 134) (month_facts 135) (λ e. omega arith)
          (p ∙ month-given 134 (omega arith))
          (q ∙ month-given 135 (omega arith));
      quarter-fixed = λ a p q.
          differ said (λ r. r.day) a (quarter_of 0 0) (quarter_of 0 1) (λ e. omega arith)
          (p ∙ quarter-given 0 0 (omega arith) (omega arith))
          (q ∙ quarter-given 0 1 (omega arith) (omega arith));
      term-fixed = λ a p q.
          differ said (λ r. r.day) a (term_of 1 0) (term_of 1 1) (λ e. omega arith)
          (p ∙ term-given 1 0 (omega arith) (omega arith))
          (q ∙ term-given 1 1 (omega arith) (omega arith));
      term-other-divisor = λ r p e. omega (arith, ap (λ (t : Term). t.parts) (near-midnight r p));
      term-by-mid-terms = λ r p e. omega (arith, ap (λ (t : Term). t.parts) (near-midnight r p));
      term-after = λ r p e. omega (arith, ap (λ (t : Term). t.parts) (near-midnight r p));
    }
  where
    near-midnight : (r : Term) → TermOfYear 44 10 (Ok r) → r ≡ term_of 44 10
    near-midnight r = told_is (term_of 44 10) r (term_at 44 10) (term-given 44 10 (omega arith) (omega arith))

-- what is told of a year and of a month
pub its-place : (y : ℕ) (s : SolsticeYear) → SolsticeYearInRange y → SolsticeYearFacts y (Ok s) → s ≡ solstice_year y
its-place y s h = told_is (solstice_year y) s (solstice_year_at y) (solstice-year-given y h)

pub its-month : (n : ℕ) (f : MonthFacts) → MonthInRange n → MonthByCount n (Ok f) → f ≡ month_facts n
its-month n f h = told_is (month_facts n) f (month_facts_at n) (month-given n h)

its-eclipse : (n : ℕ) (f : MonthFacts) → MonthInRange n → MonthByCount n (Ok f) → f.eclipse ≡ eclipse n
unfolding month_facts
its-eclipse n f h p = ap (λ (g : MonthFacts). g.eclipse) (its-month n f h p)

pub misleading-facts : Paper.MisleadingFacts
unfolding solstice_year bu year_in_bu year_facts month_facts month_length month_start eclipse
misleading-facts =
    record {
      next-bu = λ s p e. omega (arith, ap (λ (t : SolsticeYear). t.bu) (its-place 76 s (omega arith) p));
      year-0 = λ s p e. omega (arith, ap (λ (t : SolsticeYear). t.year_in_bu) (its-place 76 s (omega arith) p));
      shortcut = λ f n p e.
          let g : f ≡ year_facts 11 = told_is (year_facts 11) f (year_facts_at 11) (year-given 11 (omega arith)) p in
          let w : ◌≡◌ {A = Option LeapMonth} (Some (record { number = 9; month = 134 })) (Some (record { number = 8; month = n })) =
          sym leap-of-11 ∙ sym (ap (λ (h : YearFacts). h.leap_month) g) ∙ e in
          let same : ◌≡◌ {A = LeapMonth} (record { number = 9; month = 134 }) (record { number = 8; month = n }) = cc in
          omega (arith, ap (λ (m : LeapMonth). m.number) same);
      by-instant = λ f k p e.
          let g : f.month ≡ month_at 32 = ap (λ (h : MonthFacts). h.month) (its-month 32 f (omega arith) p) in
          false≢true (ap leap_mark (sym e ∙ g) ∙ mark-at 32 ∙ (Rule.instants-mislead).0);
      by-turns = λ f p e. omega (arith, ap (λ (g : MonthFacts). g.month_length) (its-month 129 f (omega arith) p));
      not-counted = λ f p e. false≢true (sym e ∙ its-eclipse 134 f (omega arith) p);
      starts-then = λ f p e. false≢true (sym (its-eclipse 135 f (omega arith) p) ∙ e);
      eclipses-kept = λ f g p q e. false≢true (sym (its-eclipse 945 g (omega arith) q) ∙ sym e ∙ its-eclipse 5 f (omega arith) p);
    }
