-- `asked::read_slip` meets its contract: each place is the first field behind those before it. Assumes nothing.
use mathlib.Core.Path.{refl}
use Rattle.forms.specs.Forms.{slip_field_in, slip_mark_in}
use Rattle.forms.proofs.Fields.{behind, at-place}
use Rattle.asked.proofs.read_slip.Goals as goal

pub returns : goal.returns
unfolding slip_field_in slip_mark_in behind
returns c =
    let l = c.args.line.now in rw (c.slip_field.ensures, c.slip_field-2.ensures, c.slip_mark.ensures, c.slip_field-3.ensures, c.slip_field-4.ensures, c.slip_field-5.ensures, c.after_first-s6.ensures, c.after_first-s5.ensures, c.after_first-s4.ensures, c.after_first-s3.ensures, c.after_first-s2.ensures, c.after_first-s1.ensures, at-place 1 l, at-place 2 l, at-place 3 l, at-place 4 l, at-place 5 l, at-place 6 l) refl
