-- `clerk::show` meets its contract. Assumes nothing.
use Rattle.clerk.specs.Clerk.{shown}
use Rattle.clerk.proofs.show.Goals as goal

pub returns : goal.returns
unfolding shown
returns c = rw c.marked.ensures
