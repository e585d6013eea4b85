-- `answered::write_head` meets its contract: `REFUSED` and the number, or the listing of the three lists with the readings that follow. Assumes nothing.
use Rattle.std.proofs.Common.{arith, rules, sym, subst}
use Rattle.sheet.specs.Faults.{GoodLists}
use Rattle.answered.proofs.Reading.{sheet-says, how-many, numbers-there, all_there, all-good, few, sheet-refused}
use Rattle.answered.proofs.Paper.{none-held}
use Rattle.answered.proofs.write_head.Goals as goal

pub write_lists-requires : goal.write_lists-requires
write_lists-requires g c =
    let p = c.read_new in (search rules, (subst GoodLists (sym (all_there p.ensures c.in-Ok.is)) (all-good p.ensures c.in-Ok.is), omega arith))

pub returns-in-Err : goal.returns-in-Err
returns-in-Err g c =
    let back = sheet-refused c.read_new.ensures c.in-Err.is (omega arith) (omega arith) (omega arith) (omega arith) in
    record { head = rw (back) c.write_refused.ensures.text; room = omega arith; few = omega arith; readings = rw (back) (none-held _) }

pub returns-in-Ok : goal.returns-in-Ok
returns-in-Ok g c =
    let p = c.read_new.ensures in
    let i = c.in-Ok.is in
    let read = sheet-says p i in
    record {
      head = rw (read, ← all_there p i) c.write_lists.ensures.text;
      room = c.write_lists.ensures.few;
      few = few p i;
      readings = rw (read) (record { many = sym (how-many p i); numbers = numbers-there p i });
    }
