-- `answers::write_counts` meets its contract. Assumes nothing.
use Rattle.std.proofs.Common.{append_assoc}
use Rattle.told.proofs.Yearbook.{counts-line}
use Rattle.answers.proofs.write_counts.Goals as goal

pub returns-clause-text : goal.returns-clause-text
returns-clause-text g c =
    rw (c.byte.ensures.text, c.write_numbers.ensures.text, c.bytes.ensures.text, counts-line c.args.name.now c.args.counts.now) (simp append_assoc)
