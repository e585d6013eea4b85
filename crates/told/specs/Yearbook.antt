-- The desk's answer to `FIGURES first last`: its text, and its statements. proofs/Yearbook.antt proves each under the same name in small
-- letters. Assumes nothing.
use Rattle.std.specs.Prelude.{ℕ, ◌≡◌, List, [], ◌∷◌, ◌++◌, map}
use Rattle.rule.specs.Rule.{big, pair_starts, eclipse}
use Rattle.yearbook.specs.declared.Figures.{Figures}
use Rattle.yearbook.specs.Figures.{months_that, small, leap_figures, name_figures}
use Rattle.yearbook.specs.Promise.{figures_at}
use Rattle.yearbook.specs.Paper.{GoodYears}
use Rattle.fields.specs.Fields.{word, decimal, lined, each}
use Rattle.told.specs.Answers.{told}
use Rattle.told.specs.Paper.{TellsRefusals}

-- "`FIGURES big small pairs eclipses`"
unfoldable pub figures_line : Figures → List ℕ
figures_line f = lined (word "FIGURES" ∷ decimal f.big ∷ decimal f.small ∷ decimal f.pairs ∷ decimal f.eclipses ∷ [])

-- "`LEAP` and twelve counts, `NAMES` and sixty": a word and counts
unfoldable pub counts_line : List ℕ → List ℕ → List ℕ
counts_line name counts = lined (name ∷ map decimal counts)

-- "answered in three lines"
unfoldable pub figures_lines : List ℕ → List ℕ → Figures → List ℕ
figures_lines leaps names f = (figures_line f ++ counts_line (word "LEAP") leaps) ++ counts_line (word "NAMES") names

unfoldable pub figures_text : ℕ → ℕ → List ℕ
figures_text first last = told (figures_lines (leap_figures first last) (name_figures first last)) (figures_at first last)

-- a number after a space
abbrev pub spaced : ℕ → List ℕ
spaced n = 32 ∷ decimal n

-- the three lines of a good range, byte by byte; yearbook's FiguresCounted says what the counts are
abbrev pub FiguresLinesLiterally : Type 0
FiguresLinesLiterally =
    (first last : ℕ) → GoodYears first last →
    figures_text first last
    ≡ (((word "FIGURES " ++ (decimal (months_that big first last)
    ++ (32 ∷ (decimal (months_that small first last)
    ++ (32 ∷ (decimal (months_that pair_starts first last)
    ++ (32 ∷ decimal (months_that eclipse first last))))))))
    ++ (10 ∷ []))
    ++ ((word "LEAP" ++ each spaced (leap_figures first last)) ++ (10 ∷ [])))
    ++ ((word "NAMES" ++ each spaced (name_figures first last)) ++ (10 ∷ []))

-- a refusal is told exactly where the query comes back with it (yearbook, ReasonsOfFigures, says where that is)
abbrev pub FiguresRefusalsTold : Type 0
FiguresRefusalsTold = (first last : ℕ) → TellsRefusals (figures_text first last) (figures_at first last)
