-- `drawn::high_word` meets its contract. Assumes nothing.
use Rattle.std.proofs.Common.{rules}
use Rattle.drawn.specs.Drawn.{high_of}
use Rattle.drawn.proofs.high_word.Goals as goal

pub returns : goal.returns
unfolding high_of
returns c = search rules
