-- `listed::list_sheet` meets its contract: `REFUSED` and the number, or the lists' listing. Assumes nothing.
use Rattle.std.proofs.Common.{arith, rules, sym, subst}
use Rattle.sheet.specs.Faults.{GoodLists}
use Rattle.penned.specs.Lines.{listing}
use Rattle.listed.proofs.Reading.{sheet-says, all_there, all-good, sheet-refused}
use Rattle.listed.proofs.list_sheet.Goals as goal

pub write_lists-requires : goal.write_lists-requires
write_lists-requires g c =
    let p = c.read_sheet in (search rules, (subst GoodLists (sym (all_there p.ensures c.in-Ok.is)) (all-good p.ensures c.in-Ok.is), omega arith))

pub returns-in-Err-clause-text : goal.returns-in-Err-clause-text
unfolding listing
returns-in-Err-clause-text g c =
    let p = c.read_sheet in rw (sheet-refused p.ensures c.in-Err.is (omega arith) (omega arith) (omega arith)) c.write_refused.ensures.text

pub returns-in-Ok-clause-text : goal.returns-in-Ok-clause-text
unfolding listing
returns-in-Ok-clause-text g c = let p = c.read_sheet in rw (sheet-says p.ensures c.in-Ok.is, ← all_there p.ensures c.in-Ok.is) c.write_lists.ensures.text
