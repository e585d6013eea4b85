-- `answered::head_taken` meets its contract: what was taken has the head of the whole. Assumes nothing.
use Rattle.answered.proofs.Paper.{taken-head}
use Rattle.answered.proofs.head_taken.Goals as goal

pub returns : goal.returns
returns g c = let a = c.args in λ s e. taken-head a.bytes.now a.n s _ _ _ _ c.requires.0 e c.write_head.ensures
