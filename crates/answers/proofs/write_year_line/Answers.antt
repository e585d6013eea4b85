-- `answers::write_year_line` meets its contract. Assumes nothing.
use Rattle.std.proofs.Common.{◌∷◌, arith, refl}
use Rattle.fields.specs.Fields.{word, decimal, joined, followed}
use Rattle.penned.specs.Lines.{fields_of_year}
use Rattle.told.specs.Answers.{fields_of_leap, year_line}
use Rattle.answers.proofs.Writing.{in-four}
use Rattle.answers.proofs.write_year_line.Goals as goal

pub returns-clause-text : goal.returns-clause-text
unfolding year_line followed
returns-clause-text g c =
    let f = c.args.f in
    rw (c.byte.ensures.text, c.write_leap.ensures.text, c.bytes-2.ensures.text, c.field.ensures.text, c.bytes.ensures.text, c.write_year_fields.ensures.text)
    (in-four c.args.text.now (fields_of_year c.args.year f) (word "FIRST" ∷ decimal f.first_month ∷ word "LEAP" ∷ fields_of_leap f.leap_month)
    (omega arith) (omega arith) (word " FIRST") (32 ∷ decimal f.first_month) (word " LEAP") (32 ∷ joined (fields_of_leap f.leap_month)) refl)
