-- `answers::answer_year` meets its contract: a year that has facts is in range. Assumes nothing.
use Rattle.std.proofs.Common.{arith}
use Rattle.told.proofs.Telling.{year-there}
use Rattle.answers.proofs.answer_year.Goals as goal

pub overflow_cast-year : goal.overflow_cast-year
overflow_cast-year g c = omega (arith, year-there c.args.year c.year_facts.ensures c.in-Ok.is)
