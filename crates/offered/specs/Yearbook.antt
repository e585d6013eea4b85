-- The yearbook's figures for C: laid flat, what the call promises, and its statements. proofs/Yearbook.antt proves each under the same name
-- in small letters. Assumes nothing.
use Rattle.rule.specs.declared.Reason.{Reason}
use Rattle.std.specs.Prelude.{Result, Ok, ℕ, ◌+◌, ◌≡◌, ◌↔◌, ◌≢◌, List, get_or}
use Rattle.rule.specs.Reasons.{said, Answer}
use Rattle.yearbook.specs.declared.Figures.{Figures}
use Rattle.yearbook.specs.Figures.{leap_figures, name_figures}
use Rattle.yearbook.specs.Promise.{figures_at, wholly_after, CountsFigures}
use Rattle.offered.specs.declared.CFigures.{CFigures}
use Rattle.offered.specs.Flat.{flat}

abbrev pub given_figures : Figures → CFigures
given_figures f = record { reason = 0; big = f.big; small = f.small; pairs = f.pairs; eclipses = f.eclipses }

abbrev pub no_figures : ℕ → CFigures
no_figures k = record { reason = k; big = 0; small = 0; pairs = 0; eclipses = 0 }

abbrev pub flat_figures : Answer Figures → CFigures
flat_figures = flat given_figures no_figures

-- the figures of a range of civil years: the answer, and what the two lent arrays hold then
pub record CCountsFigures (first last : ℕ) (leaps names : List ℕ) (r : CFigures) (leaps' names' : List ℕ) : Type 0 where
  pub answer : r ≡ flat_figures (figures_at first last)
  pub by_number : leaps' ≡ wholly_after (figures_at first last) (leap_figures first last) leaps
  pub by_name : names' ≡ wholly_after (figures_at first last) (name_figures first last) names

-- every field but the reason is nought
pub record BareFigures (r : CFigures) : Type 0 where
  pub big : r.big ≡ 0
  pub small : r.small ≡ 0
  pub pairs : r.pairs ≡ 0
  pub eclipses : r.eclipses ≡ 0

-- one answer and one state of both arrays; a refusal is bare and changes nothing; the call says what the public call says; reason 0 exactly
-- where figures are given; nothing that was answered is lost
pub record FiguresExported : Type 0 where
  pub unique :
      (first last : ℕ) (leaps names : List ℕ) (a b : CFigures) (l n m o : List ℕ) →
      CCountsFigures first last leaps names a l n → CCountsFigures first last leaps names b m o → (a ≡ b) × (l ≡ m) × (n ≡ o)
  pub refusal-is-bare :
      (first last : ℕ) (leaps names : List ℕ) (r : CFigures) (leaps' names' : List ℕ) →
      CCountsFigures first last leaps names r leaps' names' → r.reason ≢ 0 → BareFigures r × (leaps' ≡ leaps) × (names' ≡ names)
  pub says-what-the-call-says :
      (first last : ℕ) (leaps names : List ℕ) (r : CFigures) (leaps' names' : List ℕ) →
      CCountsFigures first last leaps names r leaps' names'
      ↔ ((f : Result Figures Reason) × CountsFigures first last leaps names f leaps' names' × (r ≡ flat_figures (said f)))
  pub reason-0-iff-answered :
      (first last : ℕ) (leaps names : List ℕ) (r : CFigures) (leaps' names' : List ℕ) →
      CCountsFigures first last leaps names r leaps' names' →
      (r.reason ≡ 0) ↔ ((f : Figures) × CountsFigures first last leaps names (Ok f) leaps' names' × (r ≡ given_figures f))
  pub nothing-lost : (f g : Figures) → given_figures f ≡ given_figures g → f ≡ g

-- wrong versions, each shut out at a named input: one that refuses all; the pair that the last month of year 47 starts, lost; an array left as it
-- was, or changed though the query comes back; either year taken by its low 32 bits
pub record WrongFiguresExported : Type 0 where
  pub refusing-all : (r : CFigures) (l n l' n' : List ℕ) → CCountsFigures 8 8 l n r l' n' → r.reason ≢ 0 → ⊥
  pub pair-across-lost : (r : CFigures) (l n l' n' : List ℕ) → CCountsFigures 47 47 l n r l' n' → r.pairs ≢ 1 → ⊥
  pub leaps-left : (r : CFigures) (l n n' : List ℕ) → get_or l 11 0 ≢ 1 → CCountsFigures 8 8 l n r l n' → ⊥
  pub names-left : (r : CFigures) (l n l' : List ℕ) → get_or n 18 0 ≢ 7 → CCountsFigures 8 8 l n r l' n → ⊥
  pub leaps-touched : (r : CFigures) (l n l' n' : List ℕ) → get_or l 0 0 ≢ get_or l' 0 0 → CCountsFigures 9 8 l n r l' n' → ⊥
  pub names-touched : (r : CFigures) (l n l' n' : List ℕ) → get_or n 0 0 ≢ get_or n' 0 0 → CCountsFigures 0 8 l n r l' n' → ⊥
  pub first-by-its-low-bits : (r : CFigures) (l n l' n' : List ℕ) → CCountsFigures (8 + 4294967296) 8 l n r l' n' → r.reason ≢ 1 → ⊥
  pub last-by-its-low-bits : (r : CFigures) (l n l' n' : List ℕ) → CCountsFigures 8 (8 + 4294967296) l n r l' n' → r.reason ≢ 1 → ⊥
