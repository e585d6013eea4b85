-- "Tell us for each line: right, unreadable, or wrong with the first wrong field". Assumes nothing.
use Rattle.std.specs.Prelude.{Result, Ok, Err, Option, Some, None}
use Rattle.std.specs.Prelude.{ℕ, suc, ◌+◌, ◌%◌, Bool, true, false, cond, ◌&&◌, ◌||◌, List, [], ◌∷◌, map, length, take, drop, get_or, ◌-◌, nat_le, nat_lt}
use Rattle.rule.specs.declared.Reason.{Reason}
use Rattle.rule.specs.declared.Reason.TheVariants.{TextTooLong}
use Rattle.facts.specs.Facts.{month_facts}
use Rattle.fields.specs.Fields.{word}
use Rattle.forms.specs.Forms.{fields_in, same, is_decimal, is_mark, number_in}
use Rattle.penned.specs.Lines.{fields_of_month}
use Rattle.concordance.specs.declared.LineField.{LineField}
use Rattle.concordance.specs.declared.LineField.TheVariants.{MonthCount, Number, LeapMark, FirstName, Length, EclipseMark}
use Rattle.concordance.specs.declared.Verdict.{Verdict}
use Rattle.concordance.specs.declared.Verdict.TheVariants.{Right, Wrong, Unreadable}
use Rattle.concordance.specs.declared.Step.{Step}
use Rattle.concordance.specs.Text.{lines_of, line_length, advance}

-- "one to nine digits with no leading zero except 0 alone"
unfoldable pub is_number : List ℕ → Bool
is_number s = is_decimal s && nat_le (length s) 9

-- "the last `E` or `-`"
unfoldable pub is_eclipse_mark : List ℕ → Bool
is_eclipse_mark s = same (word "-") s || same (word "E") s

-- as many fields as tests, and each passes its own
unfoldable pub all_pass : List (List ℕ → Bool) → List (List ℕ) → Bool
all_pass [] [] = true
all_pass [] (f ∷ fs) = false
all_pass (p ∷ ps) [] = false
all_pass (p ∷ ps) (f ∷ fs) = p f && all_pass ps fs

abbrev pub six_tests : List (List ℕ → Bool)
six_tests = is_number ∷ is_number ∷ is_mark ∷ is_number ∷ is_number ∷ is_eclipse_mark ∷ []

-- "A line can be read exactly when it has six fields parted by single spaces .."
unfoldable pub readable : List ℕ → Bool
readable l = all_pass six_tests (fields_in l)

-- the month count that a line gives
unfoldable pub count_in : List ℕ → ℕ
count_in l = number_in (fields_in l) 0

-- the fields counted from 1
abbrev pub field_number : LineField → ℕ
field_number MonthCount = 1
field_number Number = 2
field_number LeapMark = 3
field_number FirstName = 4
field_number Length = 5
field_number EclipseMark = 6

abbrev pub field_counted : ℕ → LineField
field_counted k = get_or (MonthCount ∷ Number ∷ LeapMark ∷ FirstName ∷ Length ∷ EclipseMark ∷ []) (k - 1) EclipseMark

-- the first field, counted from k, that differs from the print's
unfoldable pub first_wrong : ℕ → List (List ℕ) → List (List ℕ) → Verdict
first_wrong k [] [] = Right
first_wrong k [] (g ∷ gs) = Wrong (field_counted k)
first_wrong k (f ∷ fs) [] = Wrong (field_counted k)
first_wrong k (f ∷ fs) (g ∷ gs) = cond (same f g) (first_wrong (suc k) fs gs) (Wrong (field_counted k))

-- the fields that are printed for a month count
abbrev pub printed_fields : ℕ → List (List ℕ)
printed_fields n = fields_of_month n (month_facts n)

-- the verdict on a line. "A month count out of range is wrong in the first field."
unfoldable pub verdict_of : List ℕ → Verdict
verdict_of l =
    cond (readable l)
    (cond (nat_le (count_in l) 507599) (first_wrong 1 (fields_in l) (printed_fields (count_in l))) (Wrong MonthCount))
    Unreadable

-- a verdict as a number
abbrev pub verdict_number : Verdict → ℕ
verdict_number Right = 0
verdict_number (Wrong field) = field_number field
verdict_number Unreadable = 7

abbrev pub number_on : List ℕ → ℕ
number_on l = verdict_number (verdict_of l)

-- the verdicts on all lines of a text
unfoldable pub verdicts_of : List ℕ → List ℕ
verdicts_of s = map number_on (lines_of s)

-- the line that starts at a place
abbrev pub line_at : List ℕ → ℕ → List ℕ
line_at s p = take (line_length (drop p s)) (drop p s)

-- what a reader's step says: the verdict on a line, that no line is left, or why it comes back
abbrev pub LineTold : Type 0
LineTold = Result (Option Verdict) Reason

-- a reader's step from a place and a line number: what it says, and where it stands then
unfoldable pub step_of : List ℕ → ℕ → ℕ → Step
step_of s p i =
    cond (nat_le (length s) 65536)
    (cond (nat_lt p (length s))
    (record {
      said = Ok (Some (verdict_of (line_at s p)));
      place = p + advance (drop p s);
      line = (i + 1) % 4294967296;
    })
    (record { said = Ok None; place = p; line = i }))
    (record { said = Err TextTooLong; place = p; line = i })
