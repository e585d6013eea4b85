-- Decimal numbers without leading zeros, read literally: what the digits are, what they are worth, and that a number has one
-- such text alone. No proofs here: proofs/Paper.antt has each under its own name.
use Rattle.std.specs.Prelude.{ℕ, ◌+◌, ◌-◌, ◌*◌, ◌≤◌, ◌≡◌, List, [], ◌∷◌, ◌++◌}
use Rattle.fields.specs.Fields.{decimal, joined}

-- digits: the bytes of 0 to 9
pub data AreDigits : List ℕ → Type 0 where
  none : AreDigits []
  one_more : {d : ℕ} {ds : List ℕ} → 48 ≤ d → d ≤ 57 → AreDigits ds → AreDigits (d ∷ ds)

-- without leading zeros: 0 alone, or digits of which the first is not 0
pub data IsDecimal : List ℕ → Type 0 where
  nought : IsDecimal (48 ∷ [])
  not-nought : {d : ℕ} {ds : List ℕ} → 49 ≤ d → d ≤ 57 → AreDigits ds → IsDecimal (d ∷ ds)

-- what digits are worth after those that were worth a: each is worth ten times less than the one in front of it
unfoldable pub value_from : ℕ → List ℕ → ℕ
value_from a [] = a
value_from a (d ∷ ds) = value_from (10 * a + (d - 48)) ds

-- the text of a number is a decimal number without leading zeros, and worth the number
abbrev pub DecimalReadsBack : Type 0
DecimalReadsBack = (n : ℕ) → IsDecimal (decimal n) × (value_from 0 (decimal n) ≡ n)

-- and there is no other: a decimal number without leading zeros is the text of what it is worth
abbrev pub OneDecimal : Type 0
OneDecimal = (ds : List ℕ) → IsDecimal ds → ds ≡ decimal (value_from 0 ds)

-- a line with further fields is the line, a space, and the further fields
abbrev pub JoinedMore : Type 0
JoinedMore = (f g : List ℕ) (fs gs : List (List ℕ)) → joined ((f ∷ fs) ++ (g ∷ gs)) ≡ joined (f ∷ fs) ++ (32 ∷ joined (g ∷ gs))
