-- The figures in closed form, by which they are computed at named ranges; those of seventy-six years. Assumes nothing.
use Prim.Native.Nat.{ℕ, ◌+◌, ◌-◌, ◌*◌, ◌/◌, ◌%◌, ◌≤◌}
use native.Mathlib.Omega.{arith}
use mathlib.Core.Path.{◌≡◌, refl, ap, sym, ◌∙◌}
use mathlib.Core.Bool.{Bool, true, false, cond}
use mathlib.Core.List.{List, [], ◌∷◌}
use lib.Dec.{eqb, ltb}
use borrow.Author.Tests.{ltb-true, ltb-false, ne_eqb}
use Rattle.rule.specs.Lists.{those}
use Rattle.rule.specs.Rule.{month_start, mid_terms_before, leap, mid_term_number, month_number}
use Rattle.rule.proofs.Lists.{none_pass}
use Rattle.rule.proofs.Months.{start-shift, start-next-shift}
use Rattle.yearbook.specs.declared.Figures.{Figures}
use Rattle.yearbook.specs.Figures.{passing, has_name, leap_numbered, for_each, figures_from, leaps_from, names_from}
use Rattle.yearbook.specs.Paper.{four, OfSeventySix}
use Rattle.yearbook.proofs.Each.{each_same}
use Rattle.yearbook.proofs.Passing.{at_place, big-counted, small-counted, pairs-counted, eclipses-counted, places-counted, names-counted}
use Rattle.yearbook.proofs.Leaps.{adding, adding-same, tally, leaps-counted}
use Rattle.yearbook.proofs.Answered.{made-figures}

-- the four numbers
unfoldable pub closed_figures : ℕ → ℕ → Figures
closed_figures from to =
    four
    (month_start to - month_start from - 29 * (to - from))
    (to - from - (month_start to - month_start from - 29 * (to - from)))
    (month_start to + month_start (to + 1) - (month_start from + month_start (from + 1)) - 59 * (to - from))
    (23 * to / 135 - 23 * from / 135)

pub figures-closed : (from to : ℕ) → from ≤ to → figures_from from to ≡ closed_figures from to
unfolding closed_figures
figures-closed from to h =
    sym
    (made-figures from to _ _ _ (omega (arith, big-counted from to h)) (omega (arith, pairs-counted from to h)) (omega (arith, eclipses-counted from to h)))

-- the leap months of a bu, written out
unfoldable pub leap_table : List ℕ
leap_table =
    32 ∷ 66 ∷ 100 ∷ 134 ∷ 167 ∷ 200 ∷ 234 ∷ 268 ∷ 301 ∷ 334 ∷ 368 ∷ 402 ∷ 435 ∷ 468 ∷ 503 ∷ 537
    ∷ 570 ∷ 603 ∷ 637 ∷ 671 ∷ 704 ∷ 737 ∷ 771 ∷ 805 ∷ 838 ∷ 871 ∷ 905 ∷ 939 ∷ []

leap-table : those leap 0 940 ≡ leap_table
unfolding leap_table those leap mid_terms_before month_start
leap-table = refl

-- how many months stand at a place of their bu; at none from 940 on
abbrev place_count : ℕ → ℕ → ℕ → ℕ
place_count from to place = cond (ltb place 940) ((to + 939 - place) / 940 - (from + 939 - place) / 940) 0

place-count : (from to place : ℕ) → from ≤ to → passing (at_place place) from to ≡ place_count from to place
place-count from to place h = go (ltb place 940) refl
  where
    go : (b : Bool) → ltb place 940 ≡ b → passing (at_place place) from to ≡ cond b ((to + 939 - place) / 940 - (from + 939 - place) / 940) 0
    go true e = omega (arith, places-counted place from to (ltb-true place 940 e) h)
    go false e =
        none_pass (at_place place) from (to - from)
        (λ i l. ne_eqb ((from + i) % 940) place (λ q. omega (arith, q, ltb-false place 940 e)))

-- the number of each, to be added up where it is k
abbrev numbered_by : (ℕ → ℕ) → ℕ → ℕ → ℕ
numbered_by count k place = cond (eqb (month_number place) k) (count place) 0

numbered-same : (f g : ℕ → ℕ) → ((o : ℕ) → f o ≡ g o) → (k : ℕ) → adding (numbered_by f k) leap_table ≡ adding (numbered_by g k) leap_table
numbered-same f g h k = adding-same (numbered_by f k) (numbered_by g k) leap_table (λ o. ap (λ (x : ℕ). cond (eqb (month_number o) k) x 0) (h o))

unfoldable pub closed_leaps : ℕ → ℕ → List ℕ
closed_leaps from to = for_each (λ k. adding (numbered_by (place_count from to) k) leap_table) 12

leaps-by-table : (from to k : ℕ) → passing (leap_numbered k) from to ≡ adding (numbered_by (λ o. passing (at_place o) from to) k) leap_table
unfolding tally
leaps-by-table from to k = leaps-counted k from to ∙ ap (adding (numbered_by (λ o. passing (at_place o) from to) k)) leap-table

pub leaps-closed : (from to : ℕ) → from ≤ to → leaps_from from to ≡ closed_leaps from to
unfolding leaps_from closed_leaps
leaps-closed from to h =
    each_same (λ k. passing (leap_numbered k) from to) (λ k. adding (numbered_by (place_count from to) k) leap_table) 12
    (λ k l m.
    leaps-by-table from to k ∙ numbered-same (λ o. passing (at_place o) from to) (place_count from to) (λ o. place-count from to o h) k)

unfoldable pub closed_names : ℕ → ℕ → List ℕ
closed_names from to = for_each (λ k. (to + 60 - k) / 60 - (from + 60 - k) / 60) 60

pub names-closed : (from to : ℕ) → from ≤ to → names_from from to ≡ closed_names from to
unfolding names_from closed_names
names-closed from to h =
    each_same (λ k. passing (has_name k) from to) (λ k. (to + 60 - k) / 60 - (from + 60 - k) / 60) 60
    (λ k l m. omega (arith, names-counted k from to l m h))

-- 940 months from any on
module _ (from : ℕ) where
  each-once : (o : ℕ) → place_count from (from + 940) o ≡ cond (ltb o 940) 1 0
  each-once o = go (ltb o 940) refl
    where
      go : (b : Bool) → ltb o 940 ≡ b → cond b ((from + 940 + 939 - o) / 940 - (from + 939 - o) / 940) 0 ≡ cond b 1 0
      go true e = omega (arith, ltb-true o 940 e)
      go false e = refl

  in-a-bu : for_each (λ k. adding (numbered_by (λ o. cond (ltb o 940) 1 0) k) leap_table) 12 ≡ 3 ∷ 1 ∷ 3 ∷ 2 ∷ 3 ∷ 2 ∷ 2 ∷ 3 ∷ 2 ∷ 3 ∷ 1 ∷ 3 ∷ []
  unfolding for_each adding leap_table month_number mid_term_number mid_terms_before month_start
  in-a-bu = refl

  leaps-of-940 : leaps_from from (from + 940) ≡ 3 ∷ 1 ∷ 3 ∷ 2 ∷ 3 ∷ 2 ∷ 2 ∷ 3 ∷ 2 ∷ 3 ∷ 1 ∷ 3 ∷ []
  unfolding closed_leaps
  leaps-of-940 =
      leaps-closed from (from + 940) (omega arith)
      ∙ each_same (λ k. adding (numbered_by (place_count from (from + 940)) k) leap_table) (λ k. adding (numbered_by (λ o. cond (ltb o 940) 1 0) k) leap_table) 12
      (λ k l h. numbered-same (place_count from (from + 940)) (λ o. cond (ltb o 940) 1 0) each-once k)
      ∙ in-a-bu

  pub of-940 : OfSeventySix (figures_from from (from + 940)) (leaps_from from (from + 940))
  unfolding figures_from
  of-940 =
      record {
        big = omega (arith, big-counted from (from + 940) (omega arith), start-shift 1 from);
        small = omega (arith, big-counted from (from + 940) (omega arith), start-shift 1 from, small-counted from (from + 940));
        pairs = omega (arith, pairs-counted from (from + 940) (omega arith), start-shift 1 from, start-next-shift 1 from);
        leap-number = leaps-of-940;
      }
