-- `rule::place_of` meets its contract: the place in parts of a yuan. Assumes nothing.
use Rattle.std.proofs.Common.{arith}
use Rattle.rule.proofs.Counts.{place-in-parts}
use Rattle.rule.proofs.place_of.Goals as goal

pub returns : goal.returns
returns c = let q = place-in-parts c.args.year (omega arith) in (q.0, q.1, q.2)
