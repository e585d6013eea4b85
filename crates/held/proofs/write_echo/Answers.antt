-- `held::write_echo` meets its contract where nothing is printed: without echo, and a note.
use Rattle.std.proofs.Common.{sym, append-nil}
use Rattle.held.proofs.Echo.{echoed_note}
use Rattle.held.proofs.write_echo.Goals as goal
use Rattle.held.proofs.write_echo.Goals.{else-echo-via-else-echo, else-echo-via-then-echo+else-not-is_note}

pub returns-else-echo-clause-text : goal.returns-else-echo-clause-text
returns-else-echo-clause-text g c =
    elim c.else-echo.branch [
      | else-echo-via-else-echo w ↦ rw (w.if-echo.false) (sym (append-nil c.args.text.now))
      | else-echo-via-then-echo+else-not-is_note w ↦
          rw (w.if-echo.true, echoed_note c.args.line.now (sym w.if-not-is_note.ensures)) (sym (append-nil c.args.text.now))
    ]
