-- `drawn::low_word` meets its contract. Assumes nothing.
use Rattle.drawn.specs.Drawn.{low_of}
use Rattle.drawn.proofs.low_word.Goals as goal

pub returns : goal.returns
unfolding low_of
returns c = rw (c.bit-leap.ensures.0, c.leap_mark.ensures, c.number_of-number.ensures)
