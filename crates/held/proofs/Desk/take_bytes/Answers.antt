-- `held::Desk::take_bytes` meets its contract: what became of the line is held after each byte.
use Rattle.std.proofs.Common.{rules}
use native.Mathlib.Omega.{arith}
use Rattle.held.proofs.Holding.{no_byte, next-byte, all-bytes}
use Rattle.held.proofs.Desk.take_bytes.Goals as goal

pub loop-b-init : goal.loop-b-init
loop-b-init g c = no_byte c.args.bytes.now _ _ (search rules)

pub loop-b-preserved : goal.loop-b-preserved
loop-b-preserved g c = next-byte c.args.bytes.now _ _ {i = c.loop-b.b-index} (omega arith) c.loop-b.invariant c.take_byte-held.ensures.becomes

pub returns : goal.returns
returns g c = all-bytes c.args.bytes.now _ _ {i = c.loop-b.b-index} (omega arith) c.loop-b.invariant
