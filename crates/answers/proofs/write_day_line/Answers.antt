-- `answers::write_day_line` meets its contract. Assumes nothing.
use Rattle.std.proofs.Common.{◌∷◌, arith, refl}
use Rattle.fields.specs.Fields.{decimal, joined, followed}
use Rattle.penned.specs.Lines.{fields_of_day}
use Rattle.told.specs.Answers.{fields_of_card, day_line_of}
use Rattle.answers.proofs.Writing.{in-three}
use Rattle.answers.proofs.write_day_line.Goals as goal

pub returns-clause-text : goal.returns-clause-text
unfolding day_line_of followed
returns-clause-text g c =
    let d = c.args.d in
    rw (c.byte.ensures.text, c.write_card.ensures.text, c.field-2.ensures.text, c.field.ensures.text, c.write_day_fields.ensures.text)
    (in-three c.args.text.now (fields_of_day c.args.day d) (decimal d.month_length ∷ decimal d.year_name ∷ fields_of_card d) (omega arith) (omega arith)
    (32 ∷ decimal d.month_length) (32 ∷ decimal d.year_name) (32 ∷ joined (fields_of_card d)) refl)
