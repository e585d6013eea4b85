-- The statements of the desk's answer to `FIGURES`, proved, each under its name in small letters; and laws of its text. Assumes nothing.
use Rattle.std.specs.Prelude.{Result, Ok}
use Rattle.rule.specs.declared.Reason.{Reason}
use Prim.Native.Nat.{ℕ}
use mathlib.Core.Path.{◌≡◌, refl, ap, ap₂, sym, ◌∙◌, subst}
use mathlib.Core.Bool.{◌&&◌}
use mathlib.Core.List.{List, [], ◌∷◌, ◌++◌, map, append-nil}
use lib.Dec.{leb}
use Rattle.rule.specs.Reasons.{within}
use Rattle.yearbook.specs.declared.Figures.{Figures}
use Rattle.yearbook.specs.Figures.{figures_from, figures_of, leap_figures, name_figures}
use Rattle.yearbook.specs.Promise.{figures_at, CountsFigures}
use Rattle.yearbook.proofs.Answered.{good-answer}
use Rattle.yearbook.proofs.Paper.{Given, is-given}
use Rattle.fields.specs.Fields.{word, decimal, followed, each}
use Rattle.told.specs.Answers.{told}
use Rattle.told.specs.Yearbook as Yearbook
use Rattle.told.specs.Yearbook.{figures_line, counts_line, figures_lines, figures_text, spaced}
use Rattle.told.proofs.Refusing.{NoRefusal, never-two, tells-refusal}

-- a word and numbers with single spaces: the word, and each number after a space
after-spaces : (name xs : List ℕ) → followed name (map decimal xs) ≡ name ++ each spaced xs
unfolding followed each
after-spaces name [] = sym (append-nil name)
after-spaces name (x ∷ xs) = ap (λ (l : List ℕ). name ++ (32 ∷ l)) (after-spaces (decimal x) xs)

-- a line of counts
pub counts-line : (name xs : List ℕ) → counts_line name xs ≡ (name ++ each spaced xs) ++ (10 ∷ [])
unfolding counts_line
counts-line name xs = ap (λ (l : List ℕ). l ++ (10 ∷ [])) (after-spaces name xs)

pub figures-lines-literally : Yearbook.FiguresLinesLiterally
unfolding figures_text figures_lines figures_line figures_from followed
figures-lines-literally first last g =
    ap (told (figures_lines (leap_figures first last) (name_figures first last))) (good-answer first last g)
    ∙ ap₂ (λ (l n : List ℕ). (figures_line (figures_of first last) ++ l) ++ n) (counts-line (word "LEAP") (leap_figures first last))
    (counts-line (word "NAMES") (name_figures first last))

-- no line of figures is a refusal
first_byte : (leaps names : List ℕ) (f : Figures) → NoRefusal (figures_lines leaps names f)
unfolding figures_lines figures_line followed
first_byte leaps names f = refl

pub figures-refusals-told : Yearbook.FiguresRefusalsTold
unfolding figures_text figures_at
figures-refusals-told first last =
    tells-refusal (figures_lines (leap_figures first last) (name_figures first last)) (figures_at first last)
    (λ x e. first_byte (leap_figures first last) (name_figures first last) x)
    (never-two (within 1 41039 first && within 1 41039 last) 1 (leb first last) 13 (figures_of first last))

-- what the two arrays hold where figures are given, and how long they are
module _ {first last : ℕ} {l n l' n' : List ℕ} {a : Result Figures Reason} {f : Figures} (s : CountsFigures first last l n a l' n') (e : a ≡ Ok f) where
  all-given : Given first last f l' n'
  all-given = is-given first last f l n l' n' (subst (λ (x : Result Figures Reason). CountsFigures first last l n x l' n') e s)

  -- the three lines of what they hold
  pub lines-given : (figures_line f ++ counts_line (word "LEAP") l') ++ counts_line (word "NAMES") n' ≡ figures_lines (leap_figures first last) (name_figures first last) f
  unfolding figures_lines
  lines-given =
      ap₂ (λ (x y : List ℕ). (figures_line f ++ counts_line (word "LEAP") x) ++ counts_line (word "NAMES") y) all-given.by_number all-given.by_name
