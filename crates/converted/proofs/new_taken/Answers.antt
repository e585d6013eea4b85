-- `converted::new_taken` meets its contract: what was taken is converted as the whole. Assumes nothing.
use Rattle.converted.proofs.Paper.{taken-new}
use Rattle.converted.proofs.new_taken.Goals as goal

pub returns : goal.returns
returns c = let a = c.args in λ s e. taken-new a.bytes.now a.n s _ _ _ e c.requires.0 c.to_new.ensures
