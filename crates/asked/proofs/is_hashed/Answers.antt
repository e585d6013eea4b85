-- `asked::is_hashed` meets its contract. Assumes nothing.
use Rattle.asked.proofs.Rows.{no_byte, first_byte}
use Rattle.asked.proofs.is_hashed.Goals as goal

pub returns-then-line-eq0 : goal.returns-then-line-eq0
returns-then-line-eq0 c = no_byte c.args.line.now c.if-line-eq0.true

pub returns : goal.returns
returns c = first_byte c.args.line.now c.if-line-eq0.false
