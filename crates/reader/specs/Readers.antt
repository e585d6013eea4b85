-- What the calls of a reader promise. Assumes nothing.
use Rattle.std.specs.Prelude.{ℕ, ◌≡◌, List}
use Rattle.std.specs.Borrow.{Bor}
use Rattle.concordance.specs.declared.Step.{Step}
use Rattle.concordance.specs.Verdicts.{LineTold, step_of}
use Rattle.reader.specs.declared.Reader.{Reader}

-- a reader at the start of a text
abbrev pub opened : Bor (List ℕ) → Reader
opened t = record { text = t; place = 0; line = 0 }

-- the step that a reader is at
abbrev pub step_from : Reader → Step
step_from r = step_of r.text.now r.place r.line

-- from reader a to reader b, saying v; also of a reader that no start leads to
pub record NextLine (a b : Reader) (v : LineTold) : Type 0 where
  pub said : v ≡ (step_from a).said
  pub text : b.text ≡ a.text
  pub place : b.place ≡ (step_from a).place
  pub line : b.line ≡ (step_from a).line
