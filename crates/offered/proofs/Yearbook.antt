-- The statements of the yearbook's figures for C, proved, each under its name in small letters. Assumes nothing.
use Rattle.std.specs.Prelude.{Result, Ok, Err}
use Rattle.rule.specs.declared.Reason.{Reason}
use Prim.Native.Nat.{ℕ}
use mathlib.Core.Path.{◌≡◌, refl, ap, sym, ◌∙◌}
use mathlib.Core.Logic.{◌≢◌}
use mathlib.Core.Bool.{Bool, true, false, ◌&&◌}
use mathlib.Core.List.{List}
use lib.Dec.{leb}
use lib.ListN.{get_or}
use Rattle.rule.specs.Reasons.{said, is, within, guard}
use Rattle.rule.specs.declared.Reason.TheVariants.{NoSuchYear, BadWindow}
use Rattle.yearbook.specs.declared.Figures.{Figures}
use Rattle.yearbook.specs.Figures.{figures_of}
use Rattle.yearbook.specs.Promise.{figures_at, CountsFigures}
use Rattle.yearbook.proofs.Paper.{refusal-changes-nothing, year-8, year-47}
use Rattle.offered.specs.declared.CFigures.{CFigures}
use Rattle.offered.specs.Yearbook.{given_figures, flat_figures, CCountsFigures, BareFigures, FiguresExported, WrongFiguresExported}
use Rattle.offered.proofs.Sound.{none-is-0}

-- what is answered comes from one of the call's own answers
said-by : (first last : ℕ) → (f : Result Figures Reason) × (said f ≡ figures_at first last)
unfolding figures_at
said-by first last = go (within 1 41039 first && within 1 41039 last) (leb first last)
  where
    go : (a b : Bool) → (f : Result Figures Reason) × (said f ≡ guard a 1 (guard b 13 (is (figures_of first last))))
    go false b = (Err NoSuchYear, refl)
    go true false = (Err BadWindow, refl)
    go true true = (Ok (figures_of first last), refl)

-- by which of the call's own answers it is: bare where it is a refusal, and with reason 0 where figures are given
module _ (first last : ℕ) (leaps names : List ℕ) (r : CFigures) (leaps' names' : List ℕ) where
  bare : (f : Result Figures Reason) → CountsFigures first last leaps names f leaps' names' → r ≡ flat_figures (said f) → r.reason ≢ 0 →
      BareFigures r × (leaps' ≡ leaps) × (names' ≡ names)
  bare (Ok f) s e other = absurd (other (ap (λ (x : CFigures). x.reason) e))
  bare (Err why) s e other =
      let k = refusal-changes-nothing first last leaps names leaps' names' why s in (
        record {
          big = ap (λ (x : CFigures). x.big) e;
          small = ap (λ (x : CFigures). x.small) e;
          pairs = ap (λ (x : CFigures). x.pairs) e;
          eclipses = ap (λ (x : CFigures). x.eclipses) e;
        },
        k.0,
        k.1,
      )

  zero : (f : Result Figures Reason) → CountsFigures first last leaps names f leaps' names' → r ≡ flat_figures (said f) → r.reason ≡ 0 →
      (g : Figures) × CountsFigures first last leaps names (Ok g) leaps' names' × (r ≡ given_figures g)
  zero (Ok f) s e z = (f, s, e)
  zero (Err why) s e z = absurd (none-is-0 why (sym (ap (λ (x : CFigures). x.reason) e) ∙ z))

  -- one of them it is
  called : CCountsFigures first last leaps names r leaps' names' →
      (f : Result Figures Reason) × CountsFigures first last leaps names f leaps' names' × (r ≡ flat_figures (said f))
  called s =
      let w = said-by first last in (
        w.0,
        record { answered = w.1; by_number = s.by_number; by_name = s.by_name },
        s.answer ∙ sym (ap flat_figures w.1),
      )

same-figures : (f g : Figures) → given_figures f ≡ given_figures g → f ≡ g
same-figures f g e = λ i. record { big = (e i).big; small = (e i).small; pairs = (e i).pairs; eclipses = (e i).eclipses }

pub figures-exported : FiguresExported
figures-exported =
    record {
      unique = λ first last leaps names a b l n m o p q.
          (p.answer ∙ sym q.answer, p.by_number ∙ sym q.by_number, p.by_name ∙ sym q.by_name);
      refusal-is-bare = λ first last leaps names r leaps' names' s.
          let w = called first last leaps names r leaps' names' s in bare first last leaps names r leaps' names' w.0 w.1 w.2;
      says-what-the-call-says = λ first last leaps names r leaps' names'. (
        called first last leaps names r leaps' names',
        λ w. record { answer = w.2 ∙ ap flat_figures w.1.answered; by_number = w.1.by_number; by_name = w.1.by_name },
      );
      reason-0-iff-answered = λ first last leaps names r leaps' names' s. (
        let w = called first last leaps names r leaps' names' s in zero first last leaps names r leaps' names' w.0 w.1 w.2,
        λ w. ap (λ (x : CFigures). x.reason) w.2,
      );
      nothing-lost = same-figures;
    }

-- what the call says of years 8 and 47, by what is promised of the public call
of-year-8 : (r : CFigures) (l n l' n' : List ℕ) → CCountsFigures 8 8 l n r l' n' → (r.reason ≡ 0) × (get_or l' 11 0 ≡ 1) × (get_or n' 18 0 ≡ 7)
of-year-8 r l n l' n' s =
    let w = called 8 8 l n r l' n' s in
    let y = year-8 l n l' n' w.0 w.1 in (
      ap (λ (x : CFigures). x.reason) (w.2 ∙ ap (λ (f : Result Figures Reason). flat_figures (said f)) y.0),
      ap (λ (m : List ℕ). get_or m 11 0) y.1,
      y.2,
    )

of-year-47 : (r : CFigures) (l n l' n' : List ℕ) → CCountsFigures 47 47 l n r l' n' → r.pairs ≡ 1
of-year-47 r l n l' n' s =
    let w = called 47 47 l n r l' n' s in
    ap (λ (x : CFigures). x.pairs) (w.2 ∙ ap (λ (f : Result Figures Reason). flat_figures (said f)) (year-47 l n l' n' w.0 w.1))

pub wrong-figures-exported : WrongFiguresExported
unfolding figures_at
wrong-figures-exported =
    record {
      refusing-all = λ r l n l' n' s other. other (of-year-8 r l n l' n' s).0;
      pair-across-lost = λ r l n l' n' s other. other (of-year-47 r l n l' n' s);
      leaps-left = λ r l n n' other s. other (of-year-8 r l n l n' s).1;
      names-left = λ r l n l' other s. other (of-year-8 r l n l' n s).2;
      leaps-touched = λ r l n l' n' other s. other (sym (ap (λ (m : List ℕ). get_or m 0 0) s.by_number));
      names-touched = λ r l n l' n' other s. other (sym (ap (λ (m : List ℕ). get_or m 0 0) s.by_name));
      first-by-its-low-bits = λ r l n l' n' s other. other (ap (λ (x : CFigures). x.reason) s.answer);
      last-by-its-low-bits = λ r l n l' n' s other. other (ap (λ (x : CFigures). x.reason) s.answer);
    }
