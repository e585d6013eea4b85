-- `answers::write_month_line` meets its contract. Assumes nothing.
use Rattle.std.proofs.Common.{append_assoc}
use Rattle.fields.specs.Fields.{followed}
use Rattle.answers.proofs.write_month_line.Goals as goal

pub returns-clause-text : goal.returns-clause-text
unfolding followed
returns-clause-text g c =
    rw (c.byte-2.ensures.text, c.field-2.ensures.text, c.field.ensures.text, c.write_month_fields.ensures.text, c.byte.ensures.text, c.bytes.ensures.text)
    (simp append_assoc)
