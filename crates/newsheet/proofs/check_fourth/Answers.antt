-- `newsheet::check_fourth` meets its contract. Assumes nothing.
use Rattle.std.proofs.Common.{sym, ◌∙◌, arith}
use Rattle.rule.proofs.Answers.{handed_on}
use Rattle.newsheet.proofs.Fourth.{fourth-bad, fourth-found, after-fourth, fourth-whole}
use Rattle.newsheet.proofs.check_fourth.Goals as goal

pub returns-in_err-n : goal.returns-in_err-n
returns-in_err-n c = handed_on _ _ c.from_residual.ensures.1 ∙ sym (fourth-bad _ _ (sym c.in_err-n.ensures))

pub overflow_mul-n : goal.overflow_mul-n
overflow_mul-n c = omega (arith, (fourth-found _ _ (sym c.in_ok-n.ensures)).few)

pub overflow_add-n : goal.overflow_add-n
overflow_add-n c = omega (arith, (fourth-found _ _ (sym c.in_ok-n.ensures)).few)

pub returns-then-n-s : goal.returns-then-n-s
returns-then-n-s c = sym (after-fourth _ _ (sym c.in_ok-n.ensures) c.if-n-s.true)

pub returns : goal.returns
returns c = sym (fourth-whole _ _ (sym c.in_ok-n.ensures) c.if-n-s.false)
