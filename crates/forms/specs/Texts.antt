-- What the fields of a line are written as, and the line of them: "Fields parted by single spaces". Assumes nothing.
use Rattle.std.specs.Prelude.{Some, None, ℕ, suc, Bool, List, [], ◌∷◌, ℤ, pos, negsuc}
use Prim.Native.String.{String}
use Rattle.reading.specs.declared.Field.{Field}
use Rattle.reading.specs.declared.Field.TheVariants.{Known, Unread}
use Rattle.fields.specs.Fields.{word, decimal, leap_text, joined}
use Rattle.forms.specs.Forms.{Mark}

-- a field of a line: a word, a number, a mark, a number that may start with `-`, a field and a mark of a slip
pub data Text : Type 0 where
  bytes : List ℕ → Text
  n : ℕ → Text
  m : Bool → Text
  s : ℤ → Text
  f : Field → Text
  g : Mark → Text

abbrev pub w : String → Text
w x = bytes (word x)

-- "a move's number may start with `-`"
abbrev pub signed_text : ℤ → List ℕ
signed_text (pos k) = decimal k
signed_text (negsuc k) = 45 ∷ decimal (suc k)

-- "an unread field is `?`"
abbrev pub field_text : Field → List ℕ
field_text (Known k) = decimal k
field_text Unread = word "?"

abbrev pub mark_read_text : Mark → List ℕ
mark_read_text (Some l) = leap_text l
mark_read_text None = word "?"

abbrev pub text_of : Text → List ℕ
text_of (bytes x) = x
text_of (n k) = decimal k
text_of (m l) = leap_text l
text_of (s z) = signed_text z
text_of (f x) = field_text x
text_of (g x) = mark_read_text x

unfoldable pub texts_of : List Text → List (List ℕ)
texts_of [] = []
texts_of (t ∷ ts) = text_of t ∷ texts_of ts

-- the line
unfoldable pub line : List Text → List ℕ
line ts = joined (texts_of ts)
