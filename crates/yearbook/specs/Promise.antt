-- What is answered over a range of civil years, and what the two lent arrays hold after it, for every input. Assumes nothing.
use Rattle.rule.specs.declared.Reason.{Reason}
use Rattle.std.specs.Prelude.{Result, ℕ, ◌≡◌, ◌&&◌, List, leb}
use Rattle.rule.specs.Reasons.{said, Answer, is, refused, refused-with, within, guard}
use Rattle.yearbook.specs.declared.Figures.{Figures}
use Rattle.yearbook.specs.Figures.{figures_of, leap_figures, name_figures}

-- "Civil years 1 to 41,039. Refusals: 1 for either end outside those, then 13 for a range turned round."
unfoldable pub figures_at : ℕ → ℕ → Answer Figures
figures_at first last =
    guard (within 1 41039 first && within 1 41039 last) 1 (guard (leb first last) 13 (is (figures_of first last)))

-- a lent array after the call: what the answer fills it with, all its places; as it was where the query comes back
abbrev pub wholly_after : {A : Type 0} → Answer A → List ℕ → List ℕ → List ℕ
wholly_after (is a) xs old = xs
wholly_after (refused k) xs old = old
wholly_after (refused-with k n) xs old = old

-- what counting a yearbook's figures promises: the answer, and the arrays of twelve and sixty
pub record CountsFigures (first last : ℕ) (leaps names : List ℕ) (answer : Result Figures Reason) (leaps' names' : List ℕ) : Type 0 where
  pub answered : said answer ≡ figures_at first last
  pub by_number : leaps' ≡ wholly_after (figures_at first last) (leap_figures first last) leaps
  pub by_name : names' ≡ wholly_after (figures_at first last) (name_figures first last) names
