-- `capi::oes_emend` meets its contract. Assumes nothing.
use Rattle.capi.proofs.Asked.{emend-asked}
use Rattle.capi.proofs.oes_emend.Goals as goal

pub returns : goal.returns
returns c =
    let s = c.args in emend-asked s.reading s.first s.last c.reading_of-r.ensures c.cap.ensures c.cap-2.ensures c.emend.ensures c.flat_emended.ensures
