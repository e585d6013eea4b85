-- Fields by computing: a number with a zero in front, a space at a line's end, a move back. Assumes nothing.
use Prim.Native.Nat.{ℕ}
use mathlib.Core.Path.{◌≡◌, refl}
use mathlib.Core.Bool.{false}
use mathlib.Core.List.{[], ◌∷◌}
use lib.IntN.{negsuc}
use Rattle.fields.specs.Fields.{word}
use Rattle.fields.specs.Paper.{value_from}
use Rattle.forms.specs.Forms.{fields_in, all_digits, is_decimal, move_of}

pub nought-in-front : is_decimal (word "05") ≡ false
unfolding all_digits is_decimal
nought-in-front = refl

pub space-at-the-end : fields_in (word "A ") ≡ word "A" ∷ [] ∷ []
unfolding fields_in
space-at-the-end = refl

pub five-back : move_of (λ (k : ℕ). k) (word "-5") ≡ negsuc 4
unfolding value_from move_of
five-back = refl
