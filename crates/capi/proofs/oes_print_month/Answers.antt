-- `capi::oes_print_month` meets its contract. Assumes nothing.
use Rattle.penned.specs.Promises.{month_item_at}
use Rattle.capi.proofs.Asked.{printed-asked, month-printed}
use Rattle.capi.proofs.oes_print_month.Goals as goal

pub returns : goal.returns
returns c =
    printed-asked month_item_at month-printed c.cap.ensures c.print_month.ensures c.flat.ensures
