-- A line's fields, "parted by single spaces"; the forms of lines; and what each field says. No query is named here. All are lists of
-- bytes. Assumes nothing.
use Rattle.std.specs.Prelude.{Option, Some, None}
use Rattle.std.specs.Prelude.{ℕ, zero, suc, Bool, true, false, not, cond, ◌&&◌, ◌||◌, List, [], ◌∷◌, eqb, ltb, ℤ, pos, negsuc, length, drop}
use Rattle.rule.specs.Reasons.{within}
use Rattle.reading.specs.declared.Field.{Field}
use Rattle.reading.specs.declared.Field.TheVariants.{Known, Unread}
use Rattle.fields.specs.Fields.{word}
use Rattle.fields.specs.Paper.{value_from}

-- a mark of a slip: whether it is leap, or none where it is unread
abbrev pub Mark : Type 0
Mark = Option Bool

-- what stands before the first space
unfoldable pub first_field : List ℕ → List ℕ
first_field [] = []
first_field (b ∷ s) = cond (eqb b 32) [] (b ∷ first_field s)

-- a byte in front of fields: a space ends an empty field, any other is the first byte of the first field
abbrev pub in_front_of : Bool → ℕ → List (List ℕ) → List (List ℕ)
in_front_of true b fs = [] ∷ fs
in_front_of false b [] = (b ∷ []) ∷ []
in_front_of false b (f ∷ fs) = (b ∷ f) ∷ fs

-- a line's fields: a space parts two of them
unfoldable pub fields_in : List ℕ → List (List ℕ)
fields_in [] = [] ∷ []
fields_in (b ∷ s) = in_front_of (eqb b 32) b (fields_in s)

-- what stands after the first field and its space: nothing where there is no other field
unfoldable pub after_first : List ℕ → List ℕ
after_first s = drop (suc (length (first_field s))) s

-- the field in a place: nothing where there are fewer
unfoldable pub field_at : List (List ℕ) → ℕ → List ℕ
field_at [] k = []
field_at (f ∷ fs) zero = f
field_at (f ∷ fs) (suc k) = field_at fs k

unfoldable pub same : List ℕ → List ℕ → Bool
same [] [] = true
same [] (b ∷ s) = false
same (a ∷ p) [] = false
same (a ∷ p) (b ∷ s) = eqb a b && same p s

-- "numbers decimal without leading zeros"
unfoldable pub all_digits : List ℕ → Bool
all_digits [] = true
all_digits (b ∷ s) = within 48 57 b && all_digits s

abbrev pub leads : List ℕ → Bool
leads [] = false
leads (b ∷ []) = true
leads (b ∷ c ∷ s) = not (eqb b 48)

unfoldable pub is_decimal : List ℕ → Bool
is_decimal s = leads s && all_digits s

-- "a move's number may start with `-`", but `-0` is none
unfoldable pub is_back : List ℕ → Bool
is_back [] = false
is_back (b ∷ s) = eqb b 45 && not (same (word "0") s) && is_decimal s

-- "a mark is `-` (ordinary) or `L` (leap)"
unfoldable pub is_mark : List ℕ → Bool
is_mark s = same (word "-") s || same (word "L") s

-- A form is a text such as `DATE n n m n`: `n` admits a number, `m` a mark, `s` a number that may start with `-`, `f` a number or
-- `?`, `g` a mark or `?`, and any other word itself alone.
abbrev pub letter : List ℕ → ℕ
letter [] = 0
letter (b ∷ []) = b
letter (b ∷ c ∷ s) = 0

unfoldable pub admits : List ℕ → List ℕ → Bool
admits p s =
    cond (eqb (letter p) 110) (is_decimal s)
    (cond (eqb (letter p) 109) (is_mark s)
    (cond (eqb (letter p) 115) (is_decimal s || is_back s)
    (cond (eqb (letter p) 102) (is_decimal s || same (word "?") s)
    (cond (eqb (letter p) 103) (is_mark s || same (word "?") s)
    (same p s)))))

unfoldable pub like : List (List ℕ) → List (List ℕ) → Bool
like [] [] = true
like [] (f ∷ fs) = false
like (p ∷ ps) [] = false
like (p ∷ ps) (f ∷ fs) = admits p f && like ps fs

-- a form that begins with a capital letter, and a line that begins otherwise (proofs/Likeness: they are not alike)
unfoldable pub other_word : List ℕ → List ℕ → Bool
other_word [] s = false
other_word (a ∷ p) [] = false
other_word (a ∷ p) (b ∷ s) = ltb a 91 && ltb 64 a && not (eqb a b)

-- the first form of a table that fields are like, counted from 0; how many forms there are where they are like none
unfoldable pub first_like : List (List ℕ) → List (List ℕ) → ℕ
first_like [] fs = 0
first_like (p ∷ ps) fs = cond (like (fields_in p) fs) 0 (suc (first_like ps fs))

-- how many forms fields are past, once they were held against the form in place i, when they were past k of those before it
unfoldable pub past : ℕ → ℕ → List ℕ → List (List ℕ) → ℕ
past k i p fs = cond (ltb k i) k (cond (like (fields_in p) fs) i (suc i))

-- what the field in a place says, as a number, a mark, a move, a field of a slip and a mark of a slip; c says what becomes of a number
unfoldable pub number_in : List (List ℕ) → ℕ → ℕ
number_in fs k = value_from 0 (field_at fs k)

unfoldable pub leap_in : List (List ℕ) → ℕ → Bool
leap_in fs k = same (word "L") (field_at fs k)

abbrev pub back : ℕ → ℤ
back zero = pos 0
back (suc n) = negsuc n

abbrev pub is_minus : List ℕ → Bool
is_minus [] = false
is_minus (b ∷ s) = eqb b 45

module _ (c : ℕ → ℕ) where
  unfoldable pub move_of : List ℕ → ℤ
  move_of s = cond (is_minus s) (back (c (value_from 0 (drop 1 s)))) (pos (c (value_from 0 s)))

  unfoldable pub slip_field_of : List ℕ → Field
  slip_field_of s = cond (same (word "?") s) Unread (Known (c (value_from 0 s)))

unfoldable pub slip_mark_of : List ℕ → Mark
slip_mark_of s = cond (same (word "?") s) None (Some (same (word "L") s))

unfoldable pub move_in : (ℕ → ℕ) → List (List ℕ) → ℕ → ℤ
move_in c fs k = move_of c (field_at fs k)

unfoldable pub slip_field_in : (ℕ → ℕ) → List (List ℕ) → ℕ → Field
slip_field_in c fs k = slip_field_of c (field_at fs k)

unfoldable pub slip_mark_in : List (List ℕ) → ℕ → Mark
slip_mark_in fs k = slip_mark_of (field_at fs k)
