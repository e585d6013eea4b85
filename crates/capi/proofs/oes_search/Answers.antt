-- `capi::oes_search` meets its contract. Assumes nothing.
use Rattle.capi.proofs.Asked.{search-asked}
use Rattle.capi.proofs.oes_search.Goals as goal

pub returns : goal.returns
returns c =
    let s = c.args in search-asked s.reading s.first s.last c.reading_of-r.ensures c.cap.ensures c.cap-2.ensures c.search.ensures c.flat_found.ensures
