-- `converted::old_taken` meets its contract: what was taken is converted as the whole. Assumes nothing.
use Rattle.converted.proofs.Paper.{taken-old}
use Rattle.converted.proofs.old_taken.Goals as goal

pub returns : goal.returns
returns c = let a = c.args in λ s e. taken-old a.bytes.now a.n s _ _ _ e c.requires.0 c.to_old.ensures
