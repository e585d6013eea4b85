-- `octets::lay_number` meets its contract. The invariant: laying what is left at i gives what all gives. Assumes nothing.
use native.Mathlib.Omega.{arith}
use Rattle.octets.proofs.Filling.{byte-laid, bytes-laid}
use Rattle.octets.proofs.lay_number.Goals as goal

pub loop-i-preserved : goal.loop-i-preserved
loop-i-preserved c = byte-laid c.loop-i.invariant (omega arith)

pub returns : goal.returns
returns c = bytes-laid c.loop-i.invariant c.loop-i-test.false
