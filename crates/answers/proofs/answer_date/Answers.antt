-- `answers::answer_date` meets its contract: the day that is found is in range. Assumes nothing.
use Rattle.std.proofs.Common.{rules, arith, ap, sym, ◌∙◌}
use Rattle.rule.specs.Reasons.{said}
use Rattle.dates.proofs.Laws.{found-date}
use Rattle.answers.proofs.answer_date.Goals as goal

pub write_day_of-requires : goal.write_day_of-requires
write_day_of-requires g c =
    let s = c.args in
    let e = sym c.day_of_date.ensures ∙ ap said c.in-Ok.is in
    (search rules, ((found-date s.year s.number s.leap s.day_of_month c.in-Ok.day e).0, omega arith))
