-- What request W11 says of the five planets, proved, each statement under its name in small letters. Assumes nothing.
use Rattle.std.specs.Prelude.{Err}
use Prim.Native.Nat.{ℕ, zero, suc, ◌+◌, ◌*◌, ◌≤◌, ◌<◌}
use native.Mathlib.Omega.{arith}
use native.Mathlib.Nat.{eq-one_of_dvd-one, mod-eq-zero_of_dvd, dvd_of_mod-eq-zero}
use mathlib.Core.Path.{◌≡◌, refl, ap, sym, subst, ◌∙◌}
use mathlib.Core.Logic.Iff
use mathlib.Core.Logic.{◌↔◌, ◌⊎◌, inl, inr, ⊎_elim}
use mathlib.Core.Bool.{Bool, true, false}
use lib.Dec.{leb, ltb}
use borrow.Author.Tests.{ltb-true, ltb-false}
use Rattle.rule.specs.Counts.{DayInRange}
use Rattle.rule.specs.Reasons.{Answer, is, refused, within, guard, reason_number, reason_of}
use Rattle.rule.specs.declared.Reason.{Reason}
use Rattle.rule.specs.declared.Reason.TheVariants.{NoSuchPlanet}
use Rattle.rule.proofs.Answers.{
  within-true,
  at_most,
  holds-all,
  fails,
  same-given,
  never-is,
  fails-here,
  fails-later,
  two-first,
  two-second,
  test_iff,
  one-refused,
  said-once,
  reason-back,
  given-not,
  from-guard,
  two-only,
  turned,
  under,
}
use Rattle.planets.specs.declared.Numbers.{Numbers}
use Rattle.planets.specs.declared.Phase.{Phase}
use Rattle.planets.specs.declared.Conjunction.{Conjunction}
use Rattle.planets.specs.declared.Next.{Next}
use Rattle.planets.specs.declared.Pair.{Pair}
use Rattle.planets.specs.Planets.{
  Planet,
  numbers_of,
  conjunction_day,
  phase,
  conjunction_of,
  conjunction_at,
  next_count,
  next_of,
  next_at,
  figures,
  planet_figures,
  pair_of,
  pair_at,
}
use Rattle.planets.specs.Promises.{ReducedPair}
use Rattle.planets.specs.Paper as Paper
use Rattle.planets.specs.Paper.{IsConjunction, NoneLeft, IsNext, ConjunctionReasons, NextReasons, morning, mornings}
use Rattle.planets.proofs.Moments
use Rattle.planets.proofs.Divisors
use Rattle.planets.proofs.Five
use Rattle.planets.proofs.Literal
use Rattle.planets.proofs.Refusing
use Rattle.planets.proofs.Reducing
use Rattle.planets.proofs.Made.{with_count, made}

pub good-planets : Paper.GoodPlanets
good-planets = Five.good-planets

pub kth-moment : Paper.KthMoment
kth-moment = Moments.moment

pub conjunctions-per-years : Paper.ConjunctionsPerYears
conjunctions-per-years = Moments.comes-round

pub first-on-or-after : Paper.FirstOnOrAfter
first-on-or-after = Moments.next-only

-- two more conjunctions: one more morning
two-more : (p m : ℕ) → (p ≡ 4) ⊎ (p ≡ 5) → mornings (numbers_of p) (suc (suc (2 * m))) ≡ mornings (numbers_of p) (2 * m) + 1
unfolding mornings
two-more p m h =
    let n = numbers_of p in
    let planet = Literal.venus-or-mercury p h in
    let even = (Literal.of-count p (2 * m) planet).even h (omega arith) in
    let odd = (Literal.of-count p (suc (2 * m)) planet).odd h (omega arith) in
    ap (λ (a : Phase). mornings n (2 * m) + morning a + morning (phase n (suc (2 * m)))) even
    ∙ ap (λ (a : Phase). mornings n (2 * m) + 0 + morning a) odd
    ∙ omega arith

half-mornings : (p m : ℕ) → (p ≡ 4) ⊎ (p ≡ 5) → mornings (numbers_of p) (2 * m) ≡ m
unfolding mornings
half-mornings p zero h = refl
half-mornings p (suc m) h =
    ap (mornings (numbers_of p)) (let o : 2 * suc m ≡ suc (suc (2 * m)) = omega arith in o) ∙ two-more p m h ∙ omega (arith, half-mornings p m h)

pub half-are-mornings : Paper.HalfAreMornings
unfolding numbers_of
half-are-mornings = record { half = half-mornings; venus = half-mornings 4 2915 (inl refl); mercury = half-mornings 5 5954 (inr refl) }

pub one-common-divisor : Paper.OneCommonDivisor
one-common-divisor = Divisors.one-divisor

pub taking-remainders : Paper.TakingRemainders
taking-remainders = Divisors.taking-remainders

pub common-divisor-of-004 : Paper.CommonDivisorOf004
common-divisor-of-004 = Reducing.common-divisor-of-004

pub reduction : Paper.Reduction
reduction = Reducing.reduction

conjunctions : (p k : ℕ) → ConjunctionReasons p k
unfolding conjunction_at conjunction_of
conjunctions p k =
    record {
      given = λ c. (
        λ e. let q = (Refusing.given planet in-range 19 6 it first second c).0 (sym e) in
            (q.0, subst (λ (x : Conjunction). DayInRange x.day) q.1.1 q.1.0, (Literal.conjunction-is p k c q.0).1 (sym q.1.1)),
        λ q. let e = (Literal.conjunction-is p k c q.0).0 q.2 in
            sym ((Refusing.given planet in-range 19 6 it first second c).1 (q.0, (subst (λ (x : Conjunction). DayInRange x.day) e q.1, sym e))),
      );
      nineteen = turned (two-first planet in-range 19 6 other it first second);
      six = turned (two-second planet in-range 19 6 other it first second);
      only = λ why. two-only why planet in-range 19 6 it;
    }
  where
    planet : Bool
    planet = within 1 5 p

    in-range : Bool
    in-range = leb (conjunction_day (numbers_of p) k) 14989859

    it : Conjunction
    it = conjunction_of (numbers_of p) k

    other : ◌≡◌ {A = ℕ} 19 6 → ⊥
    other e = omega (arith, e)

    first : (planet ≡ true) ↔ Planet p
    first = within-true 1 5 p

    second : (in-range ≡ true) ↔ DayInRange (conjunction_day (numbers_of p) k)
    second = at_most (conjunction_day (numbers_of p) k) 14989859

-- the least count is not after any other whose day is not before the day
next-first : (p d : ℕ) → Planet p → (k : ℕ) → d ≤ conjunction_day (numbers_of p) k → next_count (numbers_of p) d ≤ k
next-first p d h k a = go (ltb k (next_count (numbers_of p) d)) refl
  where
    go : (b : Bool) → ltb k (next_count (numbers_of p) d) ≡ b → next_count (numbers_of p) d ≤ k
    go true e = absurd (omega (arith, a, (Moments.next-least (numbers_of p) (Five.good-planets p h) d).1 k (ltb-true k (next_count (numbers_of p) d) e)))
    go false e = ltb-false k (next_count (numbers_of p) d) e

-- no conjunction is left exactly where the first on or after the day is beyond the range
none_left : (p d : ℕ) → Planet p → (DayInRange (conjunction_day (numbers_of p) (next_count (numbers_of p) d)) → ⊥) ↔ NoneLeft p d
unfolding conjunction_of
none_left p d h = (there, back)
  where
    n : Numbers
    n = numbers_of p

    there : (DayInRange (conjunction_day n (next_count n d)) → ⊥) → NoneLeft p d
    there out k c e = go (ltb c.day d) refl
      where
        given : Planet p × DayInRange c.day × IsConjunction p k c
        given = ((conjunctions p k).given c).0 e

        day : c.day ≡ conjunction_day n k
        day = ap (λ (x : Conjunction). x.day) ((Literal.conjunction-is p k c h).0 given.2)

        go : (b : Bool) → ltb c.day d ≡ b → c.day < d
        go true l = ltb-true c.day d l
        go false l =
            let first = next-first p d h k (omega (arith, day, ltb-false c.day d l)) in
            absurd (out (omega (arith, day, given.1, Moments.days-rise n (Five.good-planets p h) (next_count n d) k first)))

    back : NoneLeft p d → DayInRange (conjunction_day n (next_count n d)) → ⊥
    back none i =
        let k = next_count n d in
        let e = ((conjunctions p k).given (conjunction_of n k)).1 (h, i, (Literal.conjunction-is p k (conjunction_of n k) h).1 refl) in
        omega (arith, none k (conjunction_of n k) e, (Moments.next-least n (Five.good-planets p h) d).0)

-- the first conjunction on or after the day; the answer behind the first two guards, and the one behind the first
abbrev found : ℕ → ℕ → Next
found p d = next_of (numbers_of p) (next_count (numbers_of p) d)

abbrev left : ℕ → ℕ → Answer Next
left p d = guard (leb (conjunction_day (numbers_of p) (next_count (numbers_of p) d)) 14989859) 20 (is (found p d))

abbrev asked : ℕ → ℕ → Answer Next
asked p d = guard (leb d 14989859) 6 (left p d)

left-given : (p d : ℕ) (n : Next) → Planet p → (left p d ≡ is n) ↔ IsNext p d n
unfolding next_of conjunction_of
left-given p d n h = (there, back)
  where
    first : Next
    first = found p d

    all : (left p d ≡ is n) ↔ (DayInRange first.conjunction.day × (◌≡◌ {A = Answer Next} (is first) (is n)))
    all = test_iff (holds-all (leb first.conjunction.day 14989859) 20 (is first) n) (at_most first.conjunction.day 14989859)

    there : left p d ≡ is n → IsNext p d n
    there e =
        let q = all.0 e in
        subst (IsNext p d) ((same-given first n).0 q.1)
        (record {
          least = Moments.next-least (numbers_of p) (Five.good-planets p h) d;
          conjunction = (Literal.conjunction-is p first.k first.conjunction h).1 refl;
          in-range = q.0;
        })

    back : IsNext p d n → left p d ≡ is n
    back q =
        let k = (Moments.next-only (numbers_of p) (Five.good-planets p h) d n.k).1 q.least in
        let e : n ≡ first = ap (with_count n.k) ((Literal.conjunction-is p n.k n.conjunction h).0 q.conjunction) ∙ made refl k in
        all.1 (subst (λ (x : Next). DayInRange x.conjunction.day) e q.in-range, ap is (sym e))

-- three facts side by side
three : {A P Q R : Type 0} → (A ↔ (P × (Q × R))) → A ↔ (P × Q × R)
three e = (λ a. let h = e.0 a in (h.0, h.1.0, h.1.1), λ q. e.1 (q.0, (q.1, q.2)))

nexts : (p d : ℕ) → NextReasons p d
unfolding next_at
nexts p d =
    record {
      given = λ n.
          turned
          (three
          (under (test_iff (holds-all (within 1 5 p) 19 (asked p d) n) planet)
          (λ h. under (test_iff (holds-all (leb d 14989859) 6 (left p d) n) day) (λ i. left-given p d n h))));
      nineteen = turned (Iff.trans (fails-here (within 1 5 p) 19 (asked p d) no-nineteen) (fails (within 1 5 p) planet));
      six =
          turned
          (under (test_iff (fails-later (within 1 5 p) 19 6 (asked p d) (λ e. omega (arith, e))) planet)
          (λ h. Iff.trans (fails-here (leb d 14989859) 6 (left p d) no_six) (fails (leb d 14989859) day)));
      only = λ why e.
          ⊎_elim inl (λ q. inr (two-only why (leb d 14989859) in-range 6 20 (found p d) q)) (from-guard why (within 1 5 p) 19 (asked p d) e);
      twenty =
          turned
          (three
          (under (test_iff (fails-later (within 1 5 p) 19 20 (asked p d) (λ e. omega (arith, e))) planet)
          (λ h. under (test_iff (fails-later (leb d 14989859) 6 20 (left p d) (λ e. omega (arith, e))) day)
          (λ i. Iff.trans (one-refused in-range 20 (found p d) (at_most first 14989859)) (none_left p d h)))));
    }
  where
    first : ℕ
    first = conjunction_day (numbers_of p) (next_count (numbers_of p) d)

    in-range : Bool
    in-range = leb first 14989859

    planet : (within 1 5 p ≡ true) ↔ Planet p
    planet = within-true 1 5 p

    day : (leb d 14989859 ≡ true) ↔ DayInRange d
    day = at_most d 14989859

    no_six : left p d ≡ refused 6 → ⊥
    no_six e = never-is 6 (found p d) ((fails-later in-range 20 6 (is (found p d)) (λ q. omega (arith, q))).0 e).1

    no-nineteen : asked p d ≡ refused 19 → ⊥
    no-nineteen e =
        let l = ((fails-later (leb d 14989859) 6 19 (left p d) (λ q. omega (arith, q))).0 e).1 in
        never-is 19 (found p d) ((fails-later in-range 20 19 (is (found p d)) (λ q. omega (arith, q))).0 l).1

pub next-is-a-conjunction : Paper.NextIsAConjunction
unfolding conjunction_of
next-is-a-conjunction p d n e =
    let q = ((nexts p d).given n).0 e in
    let i = q.2.conjunction in (
      ((conjunctions p n.k).given n.conjunction).1 (q.0, q.2.in-range, i),
      subst (λ (x : Conjunction). d ≤ x.day) (sym ((Literal.conjunction-is p n.k n.conjunction q.0).0 i)) q.2.least.0,
    )

pub reasons-of-planets : Paper.ReasonsOfPlanets
reasons-of-planets = record { conjunctions = conjunctions; nexts = nexts; pair-nineteen = pair-refused }
  where
    pair-refused : (p : ℕ) (why : Reason) → ReducedPair p (Err why) ↔ ((why ≡ NoSuchPlanet) × (Planet p → ⊥))
    pair-refused p why = (λ q. (sym (reason-back why) ∙ ap reason_of q.1, q.0), λ q. (q.1, ap reason_number q.0))

pub figures-are-first : Paper.FiguresAreFirst
unfolding conjunction_of
figures-are-first p c e =
    let q = ((conjunctions p 1).given c).0 e in
    subst (λ (x : Conjunction). planet_figures p ≡ figures x.day x.parts x.divisor) (sym ((Literal.conjunction-is p 1 c q.0).0 q.2))
    (Five.figures-are-first p q.0)

pub unique-planets : Paper.UniquePlanets
unique-planets =
    record {
      conjunction = λ p k a b x y. said-once a b (x ∙ sym y);
      next = λ p d a b x y. said-once a b (x ∙ sym y);
      pair = λ p a b x y. said-once a b ((Reducing.as-printed p a).0 x ∙ sym ((Reducing.as-printed p b).0 y));
    }

pub wrong-planets : Paper.WrongPlanets
unfolding conjunction_at conjunction_of next_at next_of pair_at numbers_of conjunction_day next_count
wrong-planets =
    record {
      conjunction-refused = λ why e. given-not (conjunction_at 1 0) (conjunction_of (numbers_of 1) 0) (reason_number why) refl (sym e);
      next-refused = λ why e. given-not (next_at 1 0) (next_of (numbers_of 1) 0) (reason_number why) refl (sym e);
      pair-refused = λ why q. q.0 (omega arith, omega arith);
      conjunction-fixed = λ c x y.
          let f = (same-given (conjunction_of (numbers_of 1) 0) (conjunction_of (numbers_of 1) 1)).0 (sym x ∙ y) in
          let e : ◌≡◌ {A = ℕ} 0 398 = ap (λ (c : Conjunction). c.day) f in omega arith;
      next-fixed = λ n x y.
          let f = (same-given (found 1 0) (found 1 1)).0 (sym x ∙ y) in
          let e : ◌≡◌ {A = ℕ} 0 1 = ap (λ (n : Next). n.k) f in omega arith;
      pair-fixed = λ r x y.
          let f = (same-given (pair_of (numbers_of 1)) (pair_of (numbers_of 2))).0 (sym ((Reducing.as-printed 1 r).0 x) ∙ (Reducing.as-printed 2 r).0 y) in
          let e : ◌≡◌ {A = ℕ} 4725 1876 = ap (λ (r : Pair). r.years) f in omega arith;
      divisor-one = λ h. let e : ◌≡◌ {A = ℕ} 6 1 = eq-one_of_dvd-one (h.every 6 (dvd_of_mod-eq-zero 6 refl) (dvd_of_mod-eq-zero 6 refl)) in omega arith;
      divisor-first = λ h. let e : ◌≡◌ {A = ℕ} 6 0 = mod-eq-zero_of_dvd 12 h.second in omega arith;
    }
