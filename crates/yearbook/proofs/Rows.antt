-- Which answer comes where: figures exactly over a good range, and each reason exactly where its row is the first that holds. Assumes nothing.
use Prim.Native.Nat.{ℕ, ◌≤◌}
use native.Mathlib.Omega.{arith}
use mathlib.Core.Path.{◌≡◌, ap, sym, ◌∙◌}
use mathlib.Core.Logic.{◌↔◌, ◌⊎◌, inl, inr, ⊎_elim}
use mathlib.Core.Bool.{Bool, true, ◌&&◌}
use lib.Dec.{leb}
use Rattle.rule.specs.Reasons.{is, refused, reason_number, within, guard}
use Rattle.rule.specs.declared.Reason.{Reason}
use Rattle.rule.specs.declared.Reason.TheVariants.{NoSuchYear, BadWindow}
use Rattle.rule.proofs.Answers.{both_true, within-true, at_most, holds-all, same-given, two-first, two-second, two-only}
use Rattle.rule.proofs.Pairs.{lt-or-le}
use Rattle.yearbook.specs.declared.Figures.{Figures}
use Rattle.yearbook.specs.Figures.{figures_of}
use Rattle.yearbook.specs.Promise.{figures_at}
use Rattle.yearbook.specs.Paper.{GoodYears, Outside, Inside, FiguresFault}

module _ (first last : ℕ) where
  abbrev years : Bool
  years = within 1 41039 first && within 1 41039 last

  years-true : (years ≡ true) ↔ (Inside first × Inside last)
  years-true = both_true (within 1 41039 first) (within 1 41039 last) (within-true 1 41039 first) (within-true 1 41039 last)

  apart : (k : ℕ) → k ≡ 1 → k ≡ 13 → ⊥
  apart k e f = omega (arith, e, f)

  pub given : (f : Figures) → is f ≡ figures_at first last → GoodYears first last × (f ≡ figures_of first last)
  unfolding figures_at
  given f e =
      let a = (holds-all years 1 (guard (leb first last) 13 (is (figures_of first last))) f).0 (sym e) in
      let b = (holds-all (leb first last) 13 (is (figures_of first last)) f).0 a.1 in
      let y = years-true.0 a.0 in (
        record { from-1 = y.0.0; in_order = (at_most first last).0 b.0; to_the_end = y.1.1 },
        sym ((same-given (figures_of first last) f).0 b.1),
      )

  -- one of the two is outside
  outside : (y : ℕ) → (Inside y → ⊥) → Outside y
  outside y h =
      ⊎_elim inl (λ l. ⊎_elim inr (λ g. absurd (h (l, g))) (lt-or-le 41039 y)) (lt-or-le y 1)

  either : (Inside first × Inside last → ⊥) → Outside first ⊎ Outside last
  either h =
      ⊎_elim (λ l. inl (inl l))
      (λ l. ⊎_elim (λ g. inl (inr g)) (λ g. inr (outside last (λ i. h ((l, g), i)))) (lt-or-le 41039 first)) (lt-or-le first 1)

  neither : Outside first ⊎ Outside last → Inside first × Inside last → ⊥
  neither (inl (inl h)) i = omega (arith, h, i.0.0)
  neither (inl (inr h)) i = omega (arith, h, i.0.1)
  neither (inr (inl h)) i = omega (arith, h, i.1.0)
  neither (inr (inr h)) i = omega (arith, h, i.1.1)

  at_first : (figures_at first last ≡ refused 1) ↔ (Inside first × Inside last → ⊥)
  unfolding figures_at
  at_first = two-first years (leb first last) 1 13 (λ q. omega (arith, q)) (figures_of first last) years-true (at_most first last)

  at_second : (figures_at first last ≡ refused 13) ↔ ((Inside first × Inside last) × (first ≤ last → ⊥))
  unfolding figures_at
  at_second = two-second years (leb first last) 1 13 (λ q. omega (arith, q)) (figures_of first last) years-true (at_most first last)

  -- a reason that comes back is one of the two
  of_two : (why : Reason) → refused (reason_number why) ≡ figures_at first last → (why ≡ NoSuchYear) ⊎ (why ≡ BadWindow)
  unfolding figures_at
  of_two why e = two-only why years (leb first last) 1 13 (figures_of first last) e

  pub fault : (why : Reason) → refused (reason_number why) ≡ figures_at first last → FiguresFault first last why
  fault why e =
      ⊎_elim
      (λ (w : why ≡ NoSuchYear). inl (w, either (at_first.0 (sym e ∙ ap (λ (r : Reason). refused (reason_number r)) w))))
      (λ (w : why ≡ BadWindow).
      let s = at_second.0 (sym e ∙ ap (λ (r : Reason). refused (reason_number r)) w) in
      inr (w, s.0.0, s.0.1, ⊎_elim (λ l. l) (λ l. absurd (s.1 l)) (lt-or-le last first)))
      (of_two why e)

  pub refused-where : (why : Reason) → FiguresFault first last why → figures_at first last ≡ refused (reason_number why)
  refused-where why (inl w) = at_first.1 (neither w.1) ∙ sym (ap (λ (r : Reason). refused (reason_number r)) w.0)
  refused-where why (inr w) =
      at_second.1 ((w.1, w.2), λ l. omega (arith, l, w.3)) ∙ sym (ap (λ (r : Reason). refused (reason_number r)) w.0)
