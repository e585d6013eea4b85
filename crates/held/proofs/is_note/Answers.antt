-- `held::is_note` meets its contract.
use mathlib.Core.Path.{◌∙◌}
use native.Mathlib.Omega.{arith}
use borrow.Author.Tests.{lt-leb}
use Rattle.held.proofs.Echo.{long-line, short-line}
use Rattle.held.proofs.is_note.Goals as goal

pub returns-then-line-le200 : goal.returns-then-line-le200
returns-then-line-le200 c = c.is_hashed.ensures ∙ short-line _ c.if-line-le200.true

pub returns-else-line-le200 : goal.returns-else-line-le200
returns-else-line-le200 c = lt-leb _ _ (omega arith) ∙ long-line _ (omega arith)
