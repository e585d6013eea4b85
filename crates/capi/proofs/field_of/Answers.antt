-- `capi::field_of` meets its contract. Assumes nothing.
use Rattle.std.proofs.Common.{ap}
use Rattle.reading.specs.declared.Field.TheVariants.{Known}
use Rattle.capi.proofs.field_of.Goals as goal

pub returns-then-not-known : goal.returns-then-not-known
returns-then-not-known c = rw c.if-not-known.true

pub returns : goal.returns
returns c = rw c.if-not-known.false (ap Known c.cap.ensures)
