-- What the request says of the yearbook's figures, proved, each statement under its name in small letters. Assumes nothing.
use Rattle.std.specs.Prelude.{Result, Ok, Err}
use Prim.Native.Nat.{ℕ, ◌+◌, ◌-◌, ◌*◌, ◌≤◌}
use native.Mathlib.Omega.{arith}
use mathlib.Core.Path.{◌≡◌, refl, ap, ap₂, sym, ◌∙◌}
use mathlib.Core.Bool.{Bool, true, false, ◌&&◌}
use mathlib.Core.List.{List, [], ◌∷◌}
use lib.ListN.{length, get_or}
use Rattle.rule.specs.Counts.{day_name}
use Rattle.rule.specs.Reasons.{said, Answer, is, refused}
use Rattle.rule.specs.Rule.{month_start, mid_terms_before, mid_term_number, month_number, big, pair_starts, leap, civil_first_month, eclipse}
use Rattle.rule.specs.declared.Reason.{Reason}
use Rattle.rule.specs.declared.Reason.TheVariants.{BadWindow}
use Rattle.rule.proofs.Answers.{said-once}
use Rattle.rule.proofs.CivilYears.{civil-first-shift}
use Rattle.rule.proofs.Leap.{number-range}
use Rattle.rule.proofs.Lists.{bit, length-all}
use Rattle.yearbook.specs.declared.Figures.{Figures}
use Rattle.yearbook.specs.Figures.{passing, small, leap_numbered, has_name, for_each, figures_from, figures_of, leaps_from, leap_figures, names_from, name_figures}
use Rattle.yearbook.specs.Promise.{figures_at, wholly_after, CountsFigures}
use Rattle.yearbook.specs.Paper as Paper
use Rattle.yearbook.specs.Paper.{GoodYears, AreFigures, FiguresFault, pair_across, four, sum_of}
use Rattle.yearbook.proofs.Each.{each-length, each_at, each-only}
use Rattle.yearbook.proofs.Passing.{meet, small-counted}
use Rattle.yearbook.proofs.Leaps.{adding}
use Rattle.yearbook.proofs.Answered.{months-inside, days-inside, good-answer, refuses, gives}
use Rattle.yearbook.proofs.Literally.{months-literally, days-literally, of-years}
use Rattle.yearbook.proofs.Sums.{by_kind, each-adds}
use Rattle.yearbook.proofs.Closed.{closed_figures, figures-closed, leap_table, closed_leaps, leaps-closed, closed_names, names-closed, of-940}
use Rattle.yearbook.proofs.Rows.{given, fault, refused-where}
use Rattle.yearbook.proofs.Joins.{across-in-all, with-last}

pub months-and-days-of-the-years : Paper.MonthsAndDaysOfTheYears
months-and-days-of-the-years = record { months = months-literally; days = days-literally; of-the-years = of-years }

-- what is promised where figures are given
pub record Given (first last : ℕ) (f : Figures) (leaps names : List ℕ) : Type 0 where
  pub good : GoodYears first last
  pub figures : f ≡ figures_of first last
  pub by_number : leaps ≡ leap_figures first last
  pub by_name : names ≡ name_figures first last

pub is-given : (first last : ℕ) (f : Figures) (leaps names leaps' names' : List ℕ) → CountsFigures first last leaps names (Ok f) leaps' names' →
    Given first last f leaps' names'
is-given first last f leaps names leaps' names' s =
    let g = given first last f s.answered in
    let a = good-answer first last g.0 in
    record {
      good = g.0;
      figures = g.1;
      by_number = s.by_number ∙ ap (λ (x : Answer Figures). wholly_after x (leap_figures first last) leaps) a;
      by_name = s.by_name ∙ ap (λ (x : Answer Figures). wholly_after x (name_figures first last) names) a;
    }

-- four numbers that are those of another are the other
same-figures : (f g : Figures) → f.big ≡ g.big → f.small ≡ g.small → f.pairs ≡ g.pairs → f.eclipses ≡ g.eclipses → f ≡ g
same-figures f g a b c d = λ i. record { big = a i; small = b i; pairs = c i; eclipses = d i }

-- at a number's place its count
at-number : (f : ℕ → ℕ) (w k : ℕ) → 1 ≤ k → k ≤ w → get_or (for_each f w) (k - 1) 0 ≡ f k
at-number f w k low high = each_at f w (k - 1) (omega arith) ∙ ap f (omega arith)

pub figures-counted : Paper.FiguresCounted
unfolding figures_from leaps_from names_from
figures-counted first last f leaps names leaps' names' = (λ s. there (is-given first last f leaps names leaps' names' s), λ h. back h.0 h.1)
  where
    from : ℕ
    from = civil_first_month first

    to : ℕ
    to = civil_first_month (last + 1)

    there : Given first last f leaps' names' → GoodYears first last × AreFigures first last f leaps' names'
    there h =
        let g = h.good in (
          g,
          record {
            big = ap (λ (x : Figures). x.big) h.figures ∙ months-literally big first last g;
            small = ap (λ (x : Figures). x.small) h.figures ∙ months-literally small first last g;
            pairs = ap (λ (x : Figures). x.pairs) h.figures ∙ months-literally pair_starts first last g;
            eclipses = ap (λ (x : Figures). x.eclipses) h.figures ∙ months-literally eclipse first last g;
            twelve = ap length h.by_number ∙ each-length (λ k. passing (leap_numbered k) from to) 12;
            leap-number = λ k low high.
                ap (λ (l : List ℕ). get_or l (k - 1) 0) h.by_number
                ∙ at-number (λ j. passing (leap_numbered j) from to) 12 k low high ∙ months-literally (leap_numbered k) first last g;
            sixty = ap length h.by_name ∙ each-length (λ k. passing (has_name k) (month_start from) (month_start to)) 60;
            day-name = λ k low high.
                ap (λ (l : List ℕ). get_or l (k - 1) 0) h.by_name
                ∙ at-number (λ j. passing (has_name j) (month_start from) (month_start to)) 60 k low high ∙ days-literally (has_name k) first last g;
          },
        )

    back : GoodYears first last → AreFigures first last f leaps' names' → CountsFigures first last leaps names (Ok f) leaps' names'
    back g h =
        gives first last leaps names g f leaps' names'
        (same-figures f (figures_of first last)
        (h.big ∙ sym (months-literally big first last g))
        (h.small ∙ sym (months-literally small first last g))
        (h.pairs ∙ sym (months-literally pair_starts first last g))
        (h.eclipses ∙ sym (months-literally eclipse first last g)))
        (each-only (λ k. passing (leap_numbered k) from to) 12 leaps' h.twelve
        (λ i l.
        ap (λ (n : ℕ). get_or leaps' n 0) {y = i + 1 - 1} (omega arith)
        ∙ h.leap-number (i + 1) (omega arith) (omega arith) ∙ sym (months-literally (leap_numbered (i + 1)) first last g)))
        (each-only (λ k. passing (has_name k) (month_start from) (month_start to)) 60 names' h.sixty
        (λ i l.
        ap (λ (n : ℕ). get_or names' n 0) {y = i + 1 - 1} (omega arith)
        ∙ h.day-name (i + 1) (omega arith) (omega arith) ∙ sym (days-literally (has_name (i + 1)) first last g)))

-- both arrays where the query comes back
kept-as-was : (first last : ℕ) (leaps names leaps' names' : List ℕ) (why : Reason) → CountsFigures first last leaps names (Err why) leaps' names' →
    (leaps' ≡ leaps) × (names' ≡ names)
kept-as-was first last leaps names leaps' names' why s = (
  s.by_number ∙ ap (λ (x : Answer Figures). wholly_after x (leap_figures first last) leaps) (sym s.answered),
  s.by_name ∙ ap (λ (x : Answer Figures). wholly_after x (name_figures first last) names) (sym s.answered),
)

pub refusal-changes-nothing : Paper.RefusalChangesNothing
refusal-changes-nothing = kept-as-was

pub reasons-of-figures : Paper.ReasonsOfFigures
reasons-of-figures first last leaps names leaps' names' why = (
  λ s. let k = kept-as-was first last leaps names leaps' names' why s in (fault first last why s.answered, k.0, k.1),
  λ h. back h.0 h.1 h.2,
)
  where
    back : FiguresFault first last why → leaps' ≡ leaps → names' ≡ names → CountsFigures first last leaps names (Err why) leaps' names'
    back w l n =
        let r = refuses first last leaps names why (refused-where first last why w) in
        record { answered = r.answered; by_number = l ∙ r.by_number; by_name = n ∙ r.by_name }

-- a day's name is one of the sixty
name-range : (d : ℕ) → (1 ≤ day_name d) × (day_name d ≤ 60)
unfolding day_name
name-range d = omega arith

pub figures-make-up : Paper.FiguresMakeUp
unfolding figures_from leaps_from names_from leap_numbered has_name
figures-make-up first last f leaps names leaps' names' s =
    let h = is-given first last f leaps names leaps' names' s in
    let from = civil_first_month first in
    let to = civil_first_month (last + 1) in
    let m = months-inside first last h.good in
    record {
      months =
          ap₂ ◌+◌ (ap (λ (x : Figures). x.big) h.figures) (ap (λ (x : Figures). x.small) h.figures)
          ∙ small-counted from to ∙ sym (length-all from (to - from)) ∙ months-literally (λ n. true) first last h.good;
      days =
          ap sum_of h.by_name
          ∙ by_kind (λ d. true) day_name 60 name-range (month_start from) (month_start to - month_start from)
          ∙ days-literally (λ d. true) first last h.good;
      leap-months =
          ap sum_of h.by_number ∙ by_kind leap month_number 12 number-range from (to - from) ∙ months-literally leap first last h.good;
    }

-- counts over two runs that meet, figure by figure
module _ (a b c : ℕ) (h : a ≤ b) (l : b ≤ c) where
  figures-meet : (f g whole : Figures) → f ≡ figures_from a b → g ≡ figures_from b c → whole ≡ figures_from a c →
      (f.big + g.big ≡ whole.big) × (f.small + g.small ≡ whole.small) × (f.pairs + g.pairs ≡ whole.pairs) × (f.eclipses + g.eclipses ≡ whole.eclipses)
  unfolding figures_from
  figures-meet f g whole p q r = (
    by (λ x. x.big) (meet big a b c h l),
    by (λ x. x.small) (meet small a b c h l),
    by (λ x. x.pairs) (meet pair_starts a b c h l),
    by (λ x. x.eclipses) (meet eclipse a b c h l),
  )
    where
      by : (part : Figures → ℕ) → part (figures_from a b) + part (figures_from b c) ≡ part (figures_from a c) → part f + part g ≡ part whole
      by part e = ap₂ ◌+◌ (ap part p) (ap part q) ∙ e ∙ sym (ap part r)

  each-meets : (test : ℕ → ℕ → Bool) (w i : ℕ) →
      get_or (for_each (λ k. passing (test k) a b) w) i 0 + get_or (for_each (λ k. passing (test k) b c) w) i 0 ≡ get_or (for_each (λ k. passing (test k) a c) w) i 0
  each-meets test w i =
      each-adds (λ k. passing (test k) a b) (λ k. passing (test k) b c) (λ k. passing (test k) a c) w (λ k. meet (test k) a b c h l) i

-- three lists that are known
places-meet : (x y z x' y' z' : List ℕ) (i : ℕ) → x ≡ x' → y ≡ y' → z ≡ z' → get_or x' i 0 + get_or y' i 0 ≡ get_or z' i 0 → get_or x i 0 + get_or y i 0 ≡ get_or z i 0
places-meet x y z x' y' z' i e f g h =
    ap₂ ◌+◌ (ap (λ (l : List ℕ). get_or l i 0) e) (ap (λ (l : List ℕ). get_or l i 0) f) ∙ h ∙ sym (ap (λ (l : List ℕ). get_or l i 0) g)

pub two-ranges-meet : Paper.TwoRangesMeet
unfolding leaps_from names_from
two-ranges-meet first middle last f g whole l l₁ n n₁ m m₁ o o₁ p p₁ q q₁ r s t =
    let x = is-given first middle f l n l₁ n₁ r in
    let y = is-given (middle + 1) last g m o m₁ o₁ s in
    let z = is-given first last whole p q p₁ q₁ t in
    let ab : civil_first_month first ≤ civil_first_month (middle + 1) = omega (arith, months-inside first middle x.good) in
    let bc : civil_first_month (middle + 1) ≤ civil_first_month (last + 1) = omega (arith, months-inside (middle + 1) last y.good) in
    let sums = figures-meet _ _ _ ab bc f g whole x.figures y.figures z.figures in
    record {
      big = sums.0;
      small = sums.1;
      pairs = sums.2;
      eclipses = sums.3;
      leap-number = λ i. places-meet l₁ m₁ p₁ _ _ _ i x.by_number y.by_number z.by_number (each-meets _ _ _ ab bc leap_numbered 12 i);
      day-name = λ i.
          places-meet n₁ o₁ q₁ _ _ _ i x.by_name y.by_name z.by_name
          (each-meets _ _ _ (days-inside first middle x.good).0 (days-inside (middle + 1) last y.good).0 has_name 60 i);
    }

pub pairs-across-the-join : Paper.PairsAcrossTheJoin
pairs-across-the-join = across-in-all

pub pair-in-the-last-month : Paper.PairInTheLastMonth
unfolding figures_from pair_starts
pair-in-the-last-month first last f leaps names leaps' names' s =
    let h = is-given first last f leaps names leaps' names' s in
    let m = months-inside first last h.good in
    let to = civil_first_month (last + 1) in
    let sum : f.pairs ≡ passing pair_starts (civil_first_month first) (to - 1) + bit (pair_across last) =
    ap (λ (x : Figures). x.pairs) h.figures ∙ with-last pair_starts (civil_first_month first) to m.0 in
    record {
      counts = λ p q. ap₂ ◌&&◌ p (ap big {x = to - 1 + 1} {y = to} (omega (arith, m.0)) ∙ q);
      with_it = λ p. omega (arith, sum, ap bit p);
      without-it = λ no-pair. omega (arith, sum, ap bit (not_so (pair_across last) no-pair));
    }
  where
    not_so : (b : Bool) → (b ≡ true → ⊥) → b ≡ false
    not_so true h = absurd (h refl)
    not_so false h = refl

pub seventy-six-years : Paper.SeventySixYears
seventy-six-years first f leaps names leaps' names' s =
    let h = is-given first (first + 75) f leaps names leaps' names' s in
    let e : civil_first_month (first + 75 + 1) ≡ civil_first_month first + 940 =
    ap civil_first_month {y = first + 76 * 1} (omega arith) ∙ civil-first-shift 1 first h.good.from-1 in
    let at = of-940 (civil_first_month first) in
    let x : f ≡ figures_from (civil_first_month first) (civil_first_month first + 940) = h.figures ∙ ap (figures_from (civil_first_month first)) e in
    record {
      big = ap (λ (y : Figures). y.big) x ∙ at.big;
      small = ap (λ (y : Figures). y.small) x ∙ at.small;
      pairs = ap (λ (y : Figures). y.pairs) x ∙ at.pairs;
      leap-number = h.by_number ∙ ap (leaps_from (civil_first_month first)) e ∙ at.leap-number;
    }

pub unique-figures : Paper.UniqueFigures
unique-figures first last leaps names a b l n m o p q =
    (said-once a b (p.answered ∙ sym q.answered), p.by_number ∙ sym q.by_number, p.by_name ∙ sym q.by_name)

-- over a good range figures are given, in closed form
module _ (first last : ℕ) (g : GoodYears first last) where
  from : ℕ
  from = civil_first_month first

  to : ℕ
  to = civil_first_month (last + 1)

  pub record Computed (a : Result Figures Reason) (leaps' names' : List ℕ) : Type 0 where
    pub figures : a ≡ Ok (closed_figures (civil_first_month first) (civil_first_month (last + 1)))
    pub by_number : leaps' ≡ closed_leaps (civil_first_month first) (civil_first_month (last + 1))
    pub by_name : names' ≡ closed_names (month_start (civil_first_month first)) (month_start (civil_first_month (last + 1)))

  computed : (leaps names leaps' names' : List ℕ) (a : Result Figures Reason) → CountsFigures first last leaps names a leaps' names' → Computed a leaps' names'
  computed leaps names leaps' names' a s =
      let m = months-inside first last g in
      let d = days-inside first last g in
      let h = unique-figures first last leaps names a (Ok (figures_of first last)) leaps' names' _ _ s
      (gives first last leaps names g (figures_of first last) _ _ refl refl refl) in
      record {
        figures = h.0 ∙ ap Ok (figures-closed _ _ (omega (arith, m.0)));
        by_number = h.1 ∙ leaps-closed _ _ (omega (arith, m.0));
        by_name = h.2 ∙ names-closed _ _ d.0;
      }

-- what the closed forms are computed with at named ranges
computing : ℕ
unfolding closed_figures closed_leaps closed_names leap_table adding for_each civil_first_month month_start mid_terms_before mid_term_number month_number
computing = 0

good : (first last : ℕ) → 1 ≤ first → first ≤ last → last ≤ 41039 → GoodYears first last
good first last a b c = record { from-1 = a; in_order = b; to_the_end = c }

pub known-figures : Paper.KnownFigures
unfolding computing
known-figures =
    record {
      year-8 = λ l n l' n' a s. let c = computed 8 8 (good 8 8 (omega arith) (omega arith) (omega arith)) l n l' n' a s in (c.figures, c.by_number);
      year-11 = λ l n l' n' a s. let c = computed 11 11 (good 11 11 (omega arith) (omega arith) (omega arith)) l n l' n' a s in (c.figures, c.by_number);
      all-years = λ l n l' n' a s.
          let c = computed 1 41039 (good 1 41039 (omega arith) (omega arith) (omega arith)) l n l' n' a s in (c.figures, c.by_number);
      eclipses-of-004 = λ a l n l' n' s.
          let c = computed 9368 9460 (good 9368 9460 (omega arith) (omega arith) (omega arith)) l n l' n' a s in
          (_, c.figures, refl);
    }

-- the numbers of an answer
big_in : Result Figures Reason → ℕ
big_in (Ok f) = f.big
big_in (Err why) = 0

small_in : Result Figures Reason → ℕ
small_in (Ok f) = f.small
small_in (Err why) = 0

pairs_in : Result Figures Reason → ℕ
pairs_in (Ok f) = f.pairs
pairs_in (Err why) = 0

-- what is promised of the ranges at which the wrong versions are tried
pub year-8 : (l n l' n' : List ℕ) (a : Result Figures Reason) → CountsFigures 8 8 l n a l' n' →
    (a ≡ Ok (four 7 6 1 3)) × (l' ≡ 0 ∷ 0 ∷ 0 ∷ 0 ∷ 0 ∷ 0 ∷ 0 ∷ 0 ∷ 0 ∷ 0 ∷ 0 ∷ 1 ∷ []) × (get_or n' 18 0 ≡ 7)
unfolding computing
year-8 l n l' n' a s =
    let c = computed 8 8 (good 8 8 (omega arith) (omega arith) (omega arith)) l n l' n' a s in
    (c.figures, c.by_number, ap (λ (m : List ℕ). get_or m 18 0) c.by_name)

pub year-47 : (l n l' n' : List ℕ) (a : Result Figures Reason) → CountsFigures 47 47 l n a l' n' → a ≡ Ok (four 6 6 1 2)
unfolding computing
year-47 l n l' n' a s = (computed 47 47 (good 47 47 (omega arith) (omega arith) (omega arith)) l n l' n' a s).figures

year-48 : (l n l' n' : List ℕ) (a : Result Figures Reason) → CountsFigures 48 48 l n a l' n' → a ≡ Ok (four 6 6 0 2)
unfolding computing
year-48 l n l' n' a s = (computed 48 48 (good 48 48 (omega arith) (omega arith) (omega arith)) l n l' n' a s).figures

both-years : (l n l' n' : List ℕ) (a : Result Figures Reason) → CountsFigures 47 48 l n a l' n' → a ≡ Ok (four 12 12 1 4)
unfolding computing
both-years l n l' n' a s = (computed 47 48 (good 47 48 (omega arith) (omega arith) (omega arith)) l n l' n' a s).figures

-- at a range that is refused
refused-range : (first last : ℕ) (l n l' n' : List ℕ) (a : Result Figures Reason) (k : ℕ) → figures_at first last ≡ refused k → CountsFigures first last l n a l' n' →
    (said a ≡ refused k) × (l' ≡ l) × (n' ≡ n)
refused-range first last l n l' n' a k e s = (
  s.answered ∙ e,
  s.by_number ∙ ap (λ (x : Answer Figures). wholly_after x (leap_figures first last) l) e,
  s.by_name ∙ ap (λ (x : Answer Figures). wholly_after x (name_figures first last) n) e,
)

-- year 0, year 41,040, and a range turned round
comes_back : (figures_at 9 8 ≡ refused 13) × (figures_at 0 8 ≡ refused 1) × (figures_at 8 41040 ≡ refused 1) × (figures_at 8 0 ≡ refused 1)
unfolding figures_at
comes_back = (refl, refl, refl, refl)

pub wrong-figures : Paper.WrongFigures
unfolding big_in small_in pairs_in
wrong-figures =
    record {
      refusing-all = λ why l n l' n' s.
          let e : Err why ≡ Ok (four 7 6 1 3) = (year-8 l n l' n' (Err why) s).0 in let o : ◌≡◌ {A = ℕ} 0 1 = cc in omega arith;
      pair-across-lost = λ b m e l n l' n' s. omega (arith, ap pairs_in (year-47 l n l' n' (Ok (four b m 0 e)) s));
      pair-across-twice = λ b m e l n l' n' s. omega (arith, ap pairs_in (year-48 l n l' n' (Ok (four b m 1 e)) s));
      pair-across-twice-in-whole = λ b m e l n l' n' s. omega (arith, ap pairs_in (both-years l n l' n' (Ok (four b m 2 e)) s));
      solstice-months = λ l n l' n' s. omega (arith, ap small_in (year-8 l n l' n' (Ok (four 7 5 1 2)) s).0);
      solstice-leaps = λ a l n n' s. omega (arith, ap (λ (m : List ℕ). get_or m 11 0) (year-8 l n _ n' a s).1);
      names-of-the-year-before = λ a l n l' n' e s. omega (arith, e, (year-8 l n l' n' a s).2);
      names-a-place-on = λ a l n l' n' e s. omega (arith, e, (year-8 l n l' n' a s).2);
      exchanged = λ p e l n l' n' s. omega (arith, ap big_in (year-8 l n l' n' (Ok (four 6 7 p e)) s).0);
      leap-a-place-on = λ a l n n' s. omega (arith, ap (λ (m : List ℕ). get_or m 0 0) (year-8 l n _ n' a s).1);
      first-year-alone = λ p e l n l' n' s. omega (arith, ap big_in (both-years l n l' n' (Ok (four 6 6 p e)) s));
      left-as-it-was = λ a l n l' e s. omega (arith, e, (year-8 l n l' n a s).2);
      leaps-left-as-they-were = λ a l n n' h s. h (ap (λ (m : List ℕ). get_or m 11 0) (year-8 l n l n' a s).1);
      filled-though-refused = λ a l n l' n' h s. h (sym (ap (λ (m : List ℕ). get_or m 0 0) (refused-range 9 8 l n l' n' a 13 comes_back.0 s).1));
      names-though-refused = λ a l n l' n' h s. h (sym (ap (λ (m : List ℕ). get_or m 0 0) (refused-range 0 8 l n l' n' a 1 comes_back.1 s).2));
      year-0-let-in = λ f l n l' n' s.
          let e : ◌≡◌ {A = Answer Figures} (is f) (refused 1) = (refused-range 0 8 l n l' n' (Ok f) 1 comes_back.1 s).0 in
          let o : ◌≡◌ {A = ℕ} 0 1 = cc in omega arith;
      year-41040-let-in = λ f l n l' n' s.
          let e : ◌≡◌ {A = Answer Figures} (is f) (refused 1) = (refused-range 8 41040 l n l' n' (Ok f) 1 comes_back.2 s).0 in
          let o : ◌≡◌ {A = ℕ} 0 1 = cc in omega arith;
      turned-round-first = λ l n l' n' s.
          let e : ◌≡◌ {A = Answer Figures} (refused 13) (refused 1) = (refused-range 8 0 l n l' n' (Err BadWindow) 1 comes_back.3 s).0 in
          let o : ◌≡◌ {A = ℕ} 13 1 = cc in omega (arith, o);
    }
