-- `held::Line::hold` meets its contract: the byte that came is the one that is stored, where there is room.
use Rattle.std.proofs.Common.{rules}
use native.Mathlib.Omega.{arith}
use Rattle.held.proofs.Holding.{stored, full}
use Rattle.held.proofs.Line.hold.Goals as goal

pub returns-then-held-lt201 : goal.returns-then-held-lt201
returns-then-held-lt201 c = stored c.args.b c.args.held c.args.self.now.bytes (search rules) _ (omega arith) (omega arith)

pub returns : goal.returns
returns c = full c.args.b c.args.held c.args.self.now.bytes (search rules) (search rules) (omega arith)
