-- `queries::lent::put_line` meets its contract: the line, and a newline. Assumes nothing.
use Rattle.std.proofs.Common.{arith}
use Rattle.fields.proofs.Puts.{wide, then}
use Rattle.queries.proofs.lent.put_line.Goals as goal

pub returns : goal.returns
returns c = wide (omega arith) (then c.put_bytes-to.ensures c.put_byte.ensures)
