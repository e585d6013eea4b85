-- `answered::sheet_room` meets its contract: two numbers. In a file, so that a room of another length is refused with both. Assumes nothing.
use mathlib.Core.Path.{refl}
use Rattle.answered.proofs.sheet_room.Goals as goal

pub returns : goal.returns
returns c = refl
