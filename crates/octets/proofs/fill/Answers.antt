-- `octets::fill` meets its contract. Assumes nothing.
use Rattle.octets.proofs.Filling.{storing-next, storing-done}
use Rattle.octets.proofs.fill.Goals as goal

pub loop-i-preserved : goal.loop-i-preserved
loop-i-preserved g c = rw (c.WIDTH.ensures) (storing-next c.loop-i.invariant c.loop-i-test.true c.read.result c.read.ensures)

pub returns : goal.returns
returns g c = storing-done c.loop-i.invariant c.loop-i-test.false
