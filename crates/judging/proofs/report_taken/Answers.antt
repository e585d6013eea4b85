-- `judging::report_taken` meets its contract: what was taken has the report of the whole. Assumes nothing.
use Rattle.judging.proofs.Paper.{taken-report}
use Rattle.judging.proofs.report_taken.Goals as goal

pub returns : goal.returns
returns g c = λ s e. (rw (← taken-report c.args.bytes.now c.args.n s c.requires.0 e) c.write_report.ensures.text, c.write_report.ensures.few)
