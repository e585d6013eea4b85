-- `judging::write_report` meets its contract: a refusal, or the lines of the verdicts and the totals. Assumes nothing.
use Rattle.std.proofs.Common.{arith, append_assoc}
use Rattle.judging.proofs.Paper.{refused-report, given-report}
use Rattle.judging.proofs.write_report.Goals as goal

pub returns-in-Err-clause-text : goal.returns-in-Err-clause-text
returns-in-Err-clause-text g c = rw (← refused-report c.args.bytes.now c.judge_text.ensures (omega arith) c.in-Err.is) c.write_refusal.ensures.text

pub returns-in-Ok-clause-text : goal.returns-in-Ok-clause-text
returns-in-Ok-clause-text g c = rw (← given-report c.args.bytes.now c.judge_text.ensures (omega arith) c.in-Ok.is, ← append_assoc) (cc)
