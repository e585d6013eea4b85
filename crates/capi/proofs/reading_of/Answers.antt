-- `capi::reading_of` meets its contract. Assumes nothing.
use Rattle.capi.proofs.reading_of.Goals as goal

pub returns : goal.returns
returns c =
    rw (c.field_of-f1.ensures, c.field_of-f2.ensures, c.field_of-f3.ensures, c.field_of-f4.ensures, c.field_of-f5.ensures, c.field_of-f6.ensures)
