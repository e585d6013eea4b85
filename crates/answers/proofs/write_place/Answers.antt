-- `answers::write_place` meets its contract. Assumes nothing.
use Rattle.std.proofs.Common.{[], ◌∷◌, arith, refl}
use Rattle.fields.specs.Fields.{decimal, followed}
use Rattle.told.specs.Answers.{fields_of_bu, place_line}
use Rattle.answers.proofs.Writing.{in-three}
use Rattle.answers.proofs.write_place.Goals as goal

pub returns-clause-text : goal.returns-clause-text
unfolding place_line followed
returns-clause-text g c =
    let p = c.args.p in
    rw (c.byte.ensures.text, c.field-3.ensures.text, c.field-2.ensures.text, c.field.ensures.text, c.write_bu_fields.ensures.text)
    (in-three c.args.text.now (fields_of_bu p) (decimal p.first_month ∷ decimal p.leap_remainder ∷ decimal p.months ∷ []) (omega arith) (omega arith)
    (32 ∷ decimal p.first_month) (32 ∷ decimal p.leap_remainder) (32 ∷ decimal p.months) refl)
