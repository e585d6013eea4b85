-- The statements of specs/Paper, proved, each under its own name. Assumes nothing.
use Prim.Native.Nat.{ℕ, ◌≤◌}
use native.Mathlib.Omega.{arith}
use mathlib.Core.Path.{◌≡◌}
use mathlib.Core.Bool.{true}
use mathlib.Core.List.{List, [], ◌∷◌}
use lib.ListN.{length}
use Rattle.forms.specs.Forms.{admits}
use Rattle.forms.specs.Paper.{FieldsJoined, FieldsWithoutSpaces, JoinedFields, ReadBackExactly, AllRead}
use Rattle.forms.proofs.Spaces as spaces
use Rattle.forms.proofs.Saying.{
  number-text,
  mark-text,
  move-text,
  field-text,
  slip-mark-text,
  exact,
  number_is,
  number-says,
  mark-is,
  mark-says,
  move-is,
  move-says,
  field_is,
  field-says,
  slip-mark-is,
  slip-mark-says,
}

pub fields-joined : FieldsJoined
fields-joined = spaces.fields-joined

pub fields-without-spaces : FieldsWithoutSpaces
fields-without-spaces = spaces.without-spaces

pub joined-fields : JoinedFields
joined-fields = spaces.joined-fields

-- a longer word is no letter
word-alone : (p t : List ℕ) → 2 ≤ length p → admits p t ≡ true → t ≡ p
unfolding admits
word-alone [] t h e = absurd (omega (arith, h))
word-alone (b ∷ []) t h e = absurd (omega (arith, h))
word-alone (b ∷ c ∷ p) t h e = exact (b ∷ c ∷ p) t e

pub read-back-exactly : ReadBackExactly
unfolding admits
read-back-exactly =
    record {
      number = number-text;
      mark = mark-text;
      move = move-text;
      slip-field = field-text;
      slip-mark = slip-mark-text;
      itself = word-alone;
    }

pub all-read : AllRead
unfolding admits
all-read =
    record {
      number = λ k. (number_is k, number-says k);
      mark = λ l. (mark-is l, mark-says l);
      move = λ z. (move-is z, move-says z);
      slip-field = λ x. (field_is x, field-says x);
      slip-mark = λ x. (slip-mark-is x, slip-mark-says x);
    }
