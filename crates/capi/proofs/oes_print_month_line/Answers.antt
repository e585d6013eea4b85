-- `capi::oes_print_month_line` meets its contract. Assumes nothing.
use Rattle.penned.specs.Promises.{month_line_at}
use Rattle.capi.proofs.Asked.{printed-asked, line-printed}
use Rattle.capi.proofs.oes_print_month_line.Goals as goal

pub returns : goal.returns
returns c =
    printed-asked month_line_at line-printed c.cap.ensures c.print_month_line.ensures c.flat.ensures
