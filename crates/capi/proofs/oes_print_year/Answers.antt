-- `capi::oes_print_year` meets its contract. Assumes nothing.
use Rattle.penned.specs.Promises.{year_block_at}
use Rattle.capi.proofs.Asked.{printed-asked, year-printed}
use Rattle.capi.proofs.oes_print_year.Goals as goal

pub returns : goal.returns
returns c =
    printed-asked year_block_at year-printed c.cap.ensures c.print_year.ensures c.flat.ensures
