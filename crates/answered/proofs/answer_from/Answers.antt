-- `answered::answer_from` meets its contract: what was taken is answered. Assumes nothing.
use Rattle.listed.proofs.Paper.{taken-itself}
use Rattle.answered.proofs.answer_from.Goals as goal

pub returns : goal.returns
returns g c = let p = c.read_full-n.ensures in (_, p.consumes, c.answer_taken.ensures _ (taken-itself _ c.read_full-n.result p.bound))
