-- `asked::read_places` meets its contract: each place is the first field behind those before it. Assumes nothing.
use Prim.Native.Nat.{ℕ, ◌+◌}
use mathlib.Core.Path.{◌≡◌, refl, ap, ◌∙◌}
use mathlib.Core.List.{[]}
use mir.Syntax.{w64}
use mir.ValLaws.{to_z-of_z}
use Rattle.fields.specs.Paper.{value_from}
use Rattle.forms.specs.Forms.{fields_in, after_first, field_at, same, move_of, number_in, leap_in, move_in}
use Rattle.forms.proofs.Fields.{behind, at-place, nothing-at}
use Rattle.asked.proofs.read_places.Goals as goal

pub returns-then-s3-eq0 : goal.returns-then-s3-eq0
unfolding number_in leap_in move_in move_of value_from same behind
returns-then-s3-eq0 c =
    let l = c.args.line.now in let none : (j : ℕ) → field_at (fields_in l) (3 + j) ≡ [] = λ j. nothing-at 3 j l _ (c.after_first-s3.ensures ∙ ap after_first (c.after_first-s2.ensures ∙ ap after_first c.after_first-s1.ensures)) c.if-s3-eq0.true in rw (c.number.ensures, c.number-then-s3-eq0.ensures, c.after_first-s2.ensures, c.after_first-s1.ensures, at-place 1 l, at-place 2 l, none 0, none 1, none 2, none 4, none 5) refl

pub returns : goal.returns
unfolding number_in leap_in move_in move_of value_from same behind
returns c =
    let l = c.args.line.now in rw (c.number-2.ensures, c.number-3.ensures, c.leap.ensures, c.number-4.ensures, to_z-of_z w64 c.signed.result (record { sfits = c.signed.type_inv }), c.signed.ensures, c.number-5.ensures, c.number-6.ensures, c.after_first-s8.ensures, c.after_first-s7.ensures, c.after_first-s6.ensures, c.after_first-s5.ensures, c.after_first-s4.ensures, c.after_first-s3.ensures, c.after_first-s2.ensures, c.after_first-s1.ensures, at-place 1 l, at-place 2 l, at-place 3 l, at-place 4 l, at-place 5 l, at-place 7 l, at-place 8 l) refl
