-- `fields::lent::put_next` meets its contract. Assumes nothing.
use Rattle.fields.proofs.Puts.{then}
use Rattle.fields.proofs.lent.put_next.Goals as goal

pub returns : goal.returns
returns c = then c.put_byte-to.ensures c.put_decimal.ensures
