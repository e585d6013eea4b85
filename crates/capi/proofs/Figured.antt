-- What the yearbook's figures say of capped years, for the years themselves. Assumes nothing.
use Rattle.std.specs.Prelude.{Result}
use Rattle.rule.specs.declared.Reason.{Reason}
use Prim.Native.Nat.{ℕ}
use mathlib.Core.Path.{◌≡◌, refl, ap, ap₂, ◌∙◌}
use mathlib.Core.List.{List}
use Rattle.rule.specs.Reasons.{said, Answer, is, refused, refused-with}
use Rattle.yearbook.specs.declared.Figures.{Figures}
use Rattle.yearbook.specs.Figures.{leap_figures, name_figures}
use Rattle.yearbook.specs.Promise.{figures_at, wholly_after, CountsFigures}
use Rattle.capped.specs.Capped.{capped}
use Rattle.capped.proofs.Paper.{given-whole, capped-alike}
use Rattle.offered.specs.declared.CFigures.{CFigures}
use Rattle.offered.specs.Yearbook.{flat_figures, CCountsFigures}

-- a list filled where figures are given alone: years that were cut down fill none
same-list : (f : ℕ → ℕ → List ℕ) (first last : ℕ) (old : List ℕ) →
    wholly_after (figures_at (capped first) (capped last)) (f (capped first) (capped last)) old ≡ wholly_after (figures_at first last) (f first last) old
same-list f first last old =
    ap (λ (a : Answer Figures). wholly_after a (f (capped first) (capped last)) old) (capped-alike.figures first last) ∙ go (figures_at first last) refl
  where
    go : (a : Answer Figures) → figures_at first last ≡ a → wholly_after (figures_at first last) (f (capped first) (capped last)) old ≡ wholly_after (figures_at first last) (f first last) old
    go (is x) e =
        let w = given-whole first last x e in
        ap₂ (λ (a b : ℕ). wholly_after (figures_at first last) (f a b) old) w.0 w.1
    go (refused k) e = rw (e) refl
    go (refused-with k n) e = rw (e) refl

pub figures-asked :
    (first last : ℕ) {a b : ℕ} {leaps names leaps' names' : List ℕ} {f : Result Figures Reason} {r : CFigures} →
    a ≡ capped first → b ≡ capped last → CountsFigures a b leaps names f leaps' names' → r ≡ flat_figures (said f) →
    CCountsFigures first last leaps names r leaps' names'
figures-asked first last {leaps = leaps} {names} {leaps'} {names'} {f} p q s t =
    let c : CountsFigures (capped first) (capped last) leaps names f leaps' names' = rw (p, q) at s in
    record {
      answer = t ∙ ap flat_figures (c.answered ∙ capped-alike.figures first last);
      by_number = c.by_number ∙ same-list leap_figures first last leaps;
      by_name = c.by_name ∙ same-list name_figures first last names;
    }
