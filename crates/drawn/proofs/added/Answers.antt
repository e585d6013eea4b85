-- `drawn::added` meets its contract. Assumes nothing.
use Rattle.drawn.specs.Drawn.{added_of}
use Rattle.drawn.proofs.Sums.{turned-below}
use Rattle.drawn.proofs.added.Goals as goal

pub overflow_add-turned : goal.overflow_add-turned
overflow_add-turned c = record { fits = turned-below c.args.sum c.ranges.sum.fits }

pub returns : goal.returns
unfolding added_of
returns c = rw (← c.high_word.ensures.0, ← c.low_word.ensures) c.wrapping_add_u64.ensures.value
