-- `capi::oes_print_day` meets its contract. Assumes nothing.
use Rattle.penned.specs.Promises.{day_item_at}
use Rattle.capi.proofs.Asked.{printed-asked, day-printed}
use Rattle.capi.proofs.oes_print_day.Goals as goal

pub returns : goal.returns
returns c =
    printed-asked day_item_at day-printed c.cap.ensures c.print_day.ensures c.flat.ensures
