-- `concordance::read_parts` meets its contract. Field by field. Assumes nothing.
use Rattle.concordance.proofs.Parting.{parted, not-parted, none-link, number-link, mark-link, mark-none, last-link, last-bad, empty-number, empty-mark, empty-eclipse}
use Rattle.concordance.proofs.read_parts.Goals as goal

pub returns-in_err-count : goal.returns-in_err-count
returns-in_err-count c = rw (c.from_residual.ensures) (not-parted _ (none-link empty-number c.in_err-count.ensures))

pub returns-in_err-number : goal.returns-in_err-number
returns-in_err-number c =
    rw (c.from_residual-in_err-number.ensures)
    (not-parted _
    (number-link c.in_ok-count.ensures c.after-l1.ensures empty-number
    (none-link empty-mark c.in_err-number.ensures)))

pub returns-in_err-leap : goal.returns-in_err-leap
returns-in_err-leap c =
    rw (c.from_residual-in_err-leap.ensures)
    (not-parted _
    (number-link c.in_ok-count.ensures c.after-l1.ensures empty-number
    (number-link c.in_ok-number.ensures c.after-l2.ensures empty-mark
    (mark-none c.in_err-leap.ensures empty-number))))

pub returns-in_err-name : goal.returns-in_err-name
returns-in_err-name c =
    rw (c.from_residual-in_err-name.ensures)
    (not-parted _
    (number-link c.in_ok-count.ensures c.after-l1.ensures empty-number
    (number-link c.in_ok-number.ensures c.after-l2.ensures empty-mark
    (mark-link c.in_ok-leap.ensures c.after-l3.ensures empty-number
    (none-link empty-number c.in_err-name.ensures)))))

pub returns-in_err-days : goal.returns-in_err-days
returns-in_err-days c =
    rw (c.from_residual-in_err-days.ensures)
    (not-parted _
    (number-link c.in_ok-count.ensures c.after-l1.ensures empty-number
    (number-link c.in_ok-number.ensures c.after-l2.ensures empty-mark
    (mark-link c.in_ok-leap.ensures c.after-l3.ensures empty-number
    (number-link c.in_ok-name.ensures c.after-l4.ensures empty-number
    (none-link empty-eclipse c.in_err-days.ensures))))))

pub returns-in_err-eclipse : goal.returns-in_err-eclipse
returns-in_err-eclipse c =
    rw (c.from_residual-in_err-eclipse.ensures)
    (not-parted _
    (number-link c.in_ok-count.ensures c.after-l1.ensures empty-number
    (number-link c.in_ok-number.ensures c.after-l2.ensures empty-mark
    (mark-link c.in_ok-leap.ensures c.after-l3.ensures empty-number
    (number-link c.in_ok-name.ensures c.after-l4.ensures empty-number
    (number-link c.in_ok-days.ensures c.after-l5.ensures empty-eclipse
    (last-bad c.in_err-eclipse.ensures)))))))

pub returns : goal.returns
returns c =
    parted _ _
    (number-link c.in_ok-count.ensures c.after-l1.ensures empty-number
    (number-link c.in_ok-number.ensures c.after-l2.ensures empty-mark
    (mark-link c.in_ok-leap.ensures c.after-l3.ensures empty-number
    (number-link c.in_ok-name.ensures c.after-l4.ensures empty-number
    (number-link c.in_ok-days.ensures c.after-l5.ensures empty-eclipse
    (last-link c.in_ok-eclipse.ensures))))))
