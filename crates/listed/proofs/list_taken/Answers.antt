-- `listed::list_taken` meets its contract: what was taken has the listing of the whole. Assumes nothing.
use Rattle.listed.proofs.Paper.{taken-listing}
use Rattle.listed.proofs.list_taken.Goals as goal

pub returns : goal.returns
returns g c = λ s e. (rw (← taken-listing c.args.bytes.now c.args.n s c.requires.0 e) c.list_sheet.ensures.text, c.list_sheet.ensures.few)
