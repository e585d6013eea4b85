-- What a line's fields are, and what a field may be, literally. No proofs here: proofs/Paper.antt has each under its own name.
use Rattle.std.specs.Prelude.{ℕ, ◌≤◌, ◌≡◌, Bool, true, List, [], ◌∷◌, ℤ, length}
use Rattle.reading.specs.declared.Field.{Field}
use Rattle.fields.specs.Fields.{word, decimal, leap_text, joined}
use Rattle.fields.specs.Paper.{value_from}
use Rattle.forms.specs.Forms.{Mark, fields_in, same, admits, move_of, slip_field_of, slip_mark_of}
use Rattle.forms.specs.Texts.{signed_text, field_text, mark_read_text}

-- a text without a space, and such texts
pub data NoSpace : List ℕ → Type 0 where
  no_byte : NoSpace []
  byte_more : {b : ℕ} {t : List ℕ} → (b ≡ 32 → ⊥) → NoSpace t → NoSpace (b ∷ t)

pub data NoSpaces : List (List ℕ) → Type 0 where
  no_text : NoSpaces []
  text-more : {f : List ℕ} {fs : List (List ℕ)} → NoSpace f → NoSpaces fs → NoSpaces (f ∷ fs)

-- "Fields parted by single spaces": the fields of a line, with single spaces between, are the line
abbrev pub FieldsJoined : Type 0
FieldsJoined = (s : List ℕ) → joined (fields_in s) ≡ s

-- there is a space in none of them
abbrev pub FieldsWithoutSpaces : Type 0
FieldsWithoutSpaces = (s : List ℕ) → NoSpaces (fields_in s)

-- and no other texts without spaces make the line
abbrev pub JoinedFields : Type 0
JoinedFields = (f : List ℕ) (fs : List (List ℕ)) → NoSpaces (f ∷ fs) → fields_in (joined (f ∷ fs)) ≡ f ∷ fs

-- a field that a form admits is the one text of what is read there; a word of a form is itself alone. `-0` is the text of no number
pub record ReadBackExactly : Type 0 where
  pub number : (t : List ℕ) → admits (word "n") t ≡ true → t ≡ decimal (value_from 0 t)
  pub mark : (t : List ℕ) → admits (word "m") t ≡ true → t ≡ leap_text (same (word "L") t)
  pub move : (t : List ℕ) → admits (word "s") t ≡ true → t ≡ signed_text (move_of (λ k. k) t)
  pub slip-field : (t : List ℕ) → admits (word "f") t ≡ true → t ≡ field_text (slip_field_of (λ k. k) t)
  pub slip-mark : (t : List ℕ) → admits (word "g") t ≡ true → t ≡ mark_read_text (slip_mark_of t)
  pub itself : (p t : List ℕ) → 2 ≤ length p → admits p t ≡ true → t ≡ p

-- and every such text is admitted and read as what it says: every number, however large, with `-` every number but 0, the marks, `?`
pub record AllRead : Type 0 where
  pub number : (k : ℕ) → (admits (word "n") (decimal k) ≡ true) × (value_from 0 (decimal k) ≡ k)
  pub mark : (l : Bool) → (admits (word "m") (leap_text l) ≡ true) × (same (word "L") (leap_text l) ≡ l)
  pub move : (z : ℤ) → (admits (word "s") (signed_text z) ≡ true) × (move_of (λ k. k) (signed_text z) ≡ z)
  pub slip-field : (x : Field) → (admits (word "f") (field_text x) ≡ true) × (slip_field_of (λ k. k) (field_text x) ≡ x)
  pub slip-mark : (x : Mark) → (admits (word "g") (mark_read_text x) ≡ true) × (slip_mark_of (mark_read_text x) ≡ x)
