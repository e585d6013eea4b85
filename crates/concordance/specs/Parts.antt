-- A line's fields one by one, as numbers and marks: what the inner functions promise. proofs/ ties them to `verdict_of`.
-- Assumes nothing.
use Rattle.std.specs.Prelude.{Option, Some, None}
use Rattle.std.specs.Prelude.{◌≡◌, ℕ, Bool, true, false, cond, ◌&&◌, List, [], ◌∷◌, length, ◌==◌, nat_le, nat_lt}
use Rattle.rule.specs.Rule.{number_of, leap_mark}
use Rattle.facts.specs.declared.MonthFacts.{MonthFacts}
use Rattle.fields.specs.Fields.{decimal, mark, letter_l, letter_e}
use Rattle.fields.specs.Paper.{value_from}
use Rattle.forms.specs.Forms.{first_field, fields_in, same, all_digits}
use Rattle.concordance.specs.declared.LineField.TheVariants.{Number, LeapMark, FirstName, Length, EclipseMark}
use Rattle.concordance.specs.declared.Verdict.{Verdict}
use Rattle.concordance.specs.declared.Verdict.TheVariants.{Right, Wrong}
use Rattle.concordance.specs.declared.Numeral.{Numeral}
use Rattle.concordance.specs.declared.Parts.{Parts}
use Rattle.concordance.specs.Verdicts.{is_number, readable}

-- nine digits at most, and nothing else
abbrev pub nine_digits : List ℕ → Bool
nine_digits f = all_digits f && nat_le (length f) 9

-- the number of the first field, where its test holds, and where it ends
pub record NumberTaken (test : List ℕ → Bool) (s : List ℕ) (n : Numeral) : Type 0 where
  pub passed : test (first_field s) ≡ true
  pub value : n.value ≡ value_from 0 (first_field s)
  pub end : n.end ≡ length (first_field s)

abbrev pub TakenBy : (List ℕ → Bool) → List ℕ → Option Numeral → Type 0
TakenBy test s (Some n) = NumberTaken test s n
TakenBy test s None = test (first_field s) ≡ false

-- its digits, nine at most; and a field as a number
abbrev pub Scanned : List ℕ → Option Numeral → Type 0
Scanned = TakenBy nine_digits

abbrev pub Numbered : List ℕ → Option Numeral → Type 0
Numbered = TakenBy is_number

-- whether a mark is there, of a text that is one
abbrev pub mark_read : ℕ → List ℕ → Option Bool
mark_read letter s = cond (same (45 ∷ []) s) (Some false) (cond (same (letter ∷ []) s) (Some true) None)

-- the first field as a leap mark, where another field follows; what is left of a line as an eclipse mark
unfoldable pub first_mark : List ℕ → Option Bool
first_mark s = cond (nat_lt 1 (length s)) (mark_read letter_l (first_field s)) None

unfoldable pub last_mark : List ℕ → Option Bool
last_mark s = mark_read letter_e s

-- the texts of the six
abbrev pub texts_of : Parts → List (List ℕ)
texts_of p = decimal p.count ∷ decimal p.number ∷ (mark p.leap letter_l ∷ []) ∷ decimal p.name ∷ decimal p.days ∷ (mark p.eclipse letter_e ∷ []) ∷ []

-- what was taken of a line: its fields, where it can be read
abbrev pub Parted : List ℕ → Option Parts → Type 0
Parted l (Some p) = (readable l ≡ true) × (fields_in l ≡ texts_of p)
Parted l None = readable l ≡ false

-- what is printed for a month, as such fields
unfoldable pub parts_printed : ℕ → MonthFacts → Parts
parts_printed n f =
    record {
      count = n;
      number = number_of f.month;
      leap = leap_mark f.month;
      name = f.first_name;
      days = f.month_length;
      eclipse = f.eclipse;
    }

-- the first field behind the month count in which two differ
unfoldable pub differing : Parts → Parts → Verdict
differing p q =
    cond (p.number == q.number)
    (cond (mark p.leap letter_l == mark q.leap letter_l)
    (cond (p.name == q.name)
    (cond (p.days == q.days)
    (cond (mark p.eclipse letter_e == mark q.eclipse letter_e) Right (Wrong EclipseMark))
    (Wrong Length))
    (Wrong FirstName))
    (Wrong LeapMark))
    (Wrong Number)
