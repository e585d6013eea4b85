-- Laws of the answers: the figures made from their numbers, the range's months and days, and one law a return. Assumes nothing.
use Rattle.std.specs.Prelude.{Ok, Err}
use Prim.Native.Nat.{ℕ, ◌+◌, ◌-◌, ◌≤◌, ◌<◌}
use native.Mathlib.Omega.{arith}
use mathlib.Core.Path.{◌≡◌, ap, sym, ◌∙◌}
use mathlib.Core.Bool.{true, false}
use mathlib.Core.List.{List}
use borrow.Author.Tests.{le-leb, lt-leb}
use Rattle.rule.specs.Reasons.{Answer, is, refused, reason_number, within}
use Rattle.rule.specs.Rule.{month_start, big, pair_starts, civil_first_month, eclipse}
use Rattle.rule.specs.declared.Reason.{Reason}
use Rattle.rule.proofs.Answers.{within-true}
use Rattle.rule.proofs.Months.{start-end}
use Rattle.yearbook.specs.declared.Figures.{Figures}
use Rattle.yearbook.specs.Figures.{passing, small, figures_from, figures_of, leap_figures, name_figures}
use Rattle.yearbook.specs.Promise.{figures_at, wholly_after, CountsFigures}
use Rattle.yearbook.specs.Paper.{GoodYears}
use Rattle.yearbook.proofs.Passing.{small-counted}

-- the four numbers, the small months being those that are not big
pub made-figures : (from to b p e : ℕ) → b ≡ passing big from to → p ≡ passing pair_starts from to → e ≡ passing eclipse from to →
    ◌≡◌ {A = Figures} (record { big = b; small = to - from - b; pairs = p; eclipses = e }) (figures_from from to)
unfolding figures_from
made-figures from to b p e f g h =
    let s : to - from - b ≡ passing small from to = omega (arith, f, small-counted from to) in cc

-- the months of a good range lie in the whole range, and so does the month after them
pub months-inside : (first last : ℕ) → GoodYears first last →
    (civil_first_month first < civil_first_month (last + 1)) × (civil_first_month (last + 1) ≤ 507589)
unfolding civil_first_month
months-inside first last g = (omega arith, omega arith)

-- and their days
start-order : (n m : ℕ) → n ≤ m → month_start n ≤ month_start m
unfolding month_start
start-order n m h = omega arith

pub days-inside : (first last : ℕ) → GoodYears first last →
    (month_start (civil_first_month first) ≤ month_start (civil_first_month (last + 1))) × (month_start (civil_first_month (last + 1)) ≤ 14989860)
days-inside first last g =
    let m = months-inside first last g in (start-order _ _ (omega (arith, m)), start-end _ (omega (arith, m)))

-- what is answered, by what holds of the two years
module _ (first last : ℕ) where
  pub first-outside : within 1 41039 first ≡ false → figures_at first last ≡ refused 1
  unfolding figures_at
  first-outside h = rw (h)

  pub last-outside : within 1 41039 first ≡ true → within 1 41039 last ≡ false → figures_at first last ≡ refused 1
  unfolding figures_at
  last-outside h g = rw (h, g)

  pub turned_round : within 1 41039 first ≡ true → within 1 41039 last ≡ true → last < first → figures_at first last ≡ refused 13
  unfolding figures_at
  turned_round h g l = rw (h, g, lt-leb first last l)

  pub good-range : within 1 41039 first ≡ true → within 1 41039 last ≡ true → first ≤ last → GoodYears first last
  good-range h g l =
      record { from-1 = ((within-true 1 41039 first).0 h).0; in_order = l; to_the_end = ((within-true 1 41039 last).0 g).1 }

  pub good-answer : GoodYears first last → figures_at first last ≡ is (figures_of first last)
  unfolding figures_at
  good-answer g =
      rw (
        (within-true 1 41039 first).1 (g.from-1, omega arith),
        (within-true 1 41039 last).1 (omega arith, g.to_the_end),
        le-leb first last g.in_order,
      )

  module _ (leaps names : List ℕ) where
    pub refuses : (why : Reason) → figures_at first last ≡ refused (reason_number why) → CountsFigures first last leaps names (Err why) leaps names
    refuses why e =
        record {
          answered = sym e;
          by_number = sym (ap (λ (a : Answer Figures). wholly_after a (leap_figures first last) leaps) e);
          by_name = sym (ap (λ (a : Answer Figures). wholly_after a (name_figures first last) names) e);
        }

    pub gives : GoodYears first last → (f : Figures) (leaps' names' : List ℕ) → f ≡ figures_of first last → leaps' ≡ leap_figures first last →
        names' ≡ name_figures first last → CountsFigures first last leaps names (Ok f) leaps' names'
    gives g f leaps' names' e l n =
        let a = good-answer g in
        record {
          answered = ap is e ∙ sym a;
          by_number = l ∙ sym (ap (λ (x : Answer Figures). wholly_after x (leap_figures first last) leaps) a);
          by_name = n ∙ sym (ap (λ (x : Answer Figures). wholly_after x (name_figures first last) names) a);
        }
