-- What request W5 says of concordances, as statements over the promise. proofs/Paper.antt proves each under the same name in small
-- letters. Assumes nothing.
use Rattle.std.specs.Prelude.{Result, Ok, Err, ◌≡◌, ℕ, suc, ◌<◌, ◌≤◌, ◌≢◌, ◌⊎◌, ◌↔◌, List, [], ◌∷◌, ◌++◌, length, replicate, slice_index, slice_index_or}
use Rattle.rule.specs.Counts.{MonthInRange}
use Rattle.rule.specs.Lists.{placed}
use Rattle.rule.specs.declared.Reason.{Reason}
use Rattle.rule.specs.declared.Reason.TheVariants.{TextTooLong}
use Rattle.sheet.specs.Promises.{RestKept}
use Rattle.fields.specs.Fields.{word, joined}
use Rattle.fields.specs.Paper.{IsDecimal, value_from}
use Rattle.forms.specs.Forms.{field_at}
use Rattle.penned.specs.Lines.{month_line, month_lined}
use Rattle.penned.specs.Paper.{in_lines, PrintReasons}
use Rattle.concordance.specs.Text.{lines_of}
use Rattle.concordance.specs.Verdicts.{printed_fields, verdicts_of}
use Rattle.concordance.specs.Promises.{JudgeText}

-- THE LINES OF A TEXT
-- a line has no newline in it
pub data NoNewline : List ℕ → Type 0 where
  no_byte : NoNewline []
  byte_more : {b : ℕ} {t : List ℕ} → (b ≢ 10) → NoNewline t → NoNewline (b ∷ t)

pub data NoNewlines : List (List ℕ) → Type 0 where
  no_line : NoNewlines []
  line-more : {l : List ℕ} {ls : List (List ℕ)} → NoNewline l → NoNewlines ls → NoNewlines (l ∷ ls)

-- "A final line without a newline counts": a text is lines with a newline each, or such and one that is not empty and has none
pub data MadeOf : List ℕ → List (List ℕ) → Type 0 where
  ended : {s : List ℕ} {ls : List (List ℕ)} → s ≡ in_lines ls → MadeOf s ls
  left_open : {s : List ℕ} {ls : List (List ℕ)} (hs : List (List ℕ)) (l : List ℕ) → s ≡ in_lines hs ++ l → ls ≡ hs ++ (l ∷ []) → (l ≢ []) → MadeOf s ls

-- the lines of a text are what splitting at newlines gives, each once, in order: these and no others
pub record LinesSplit : Type 0 where
  pub whole : (s : List ℕ) → NoNewlines (lines_of s) × MadeOf s (lines_of s)
  pub only : (s : List ℕ) (ls : List (List ℕ)) → NoNewlines ls → MadeOf s ls → lines_of s ≡ ls
  -- "an empty text has no lines", "a newline at the end opens no further line", an empty line is one
  pub empty-text : lines_of [] ≡ []
  pub newline-last : lines_of (word "a" ++ (10 ∷ [])) ≡ word "a" ∷ []
  pub no-newline-last : lines_of (word "a") ≡ word "a" ∷ []
  pub empty-line : lines_of (10 ∷ word "a") ≡ [] ∷ word "a" ∷ []

-- ONE LINE
-- "one to nine digits with no leading zero except 0 alone"
pub record Digits (s : List ℕ) : Type 0 where
  pub decimal : IsDecimal s
  pub nine : length s ≤ 9

-- "A line can be read exactly when it has six fields parted by single spaces, nothing before or after: the third `L` or `-`, the last `E`
-- or `-`, the others one to nine digits with no leading zero except 0 alone."
pub record CanBeRead (l : List ℕ) : Type 0 where
  pub a : List ℕ
  pub b : List ℕ
  pub c : List ℕ
  pub d : List ℕ
  pub e : List ℕ
  pub f : List ℕ
  pub six : l ≡ joined (a ∷ b ∷ c ∷ d ∷ e ∷ f ∷ [])
  pub first : Digits a
  pub second : Digits b
  pub third : (c ≡ word "L") ⊎ (c ≡ word "-")
  pub fourth : Digits d
  pub fifth : Digits e
  pub last : (f ≡ word "E") ⊎ (f ≡ word "-")

-- its fields, and the month count that it gives
abbrev pub fields_of : {l : List ℕ} → CanBeRead l → List (List ℕ)
fields_of r = r.a ∷ r.b ∷ r.c ∷ r.d ∷ r.e ∷ r.f ∷ []

abbrev pub count_of : {l : List ℕ} → CanBeRead l → ℕ
count_of r = value_from 0 r.a

-- field k, counted from 1, is the first that differs from the print of the line's month count: it differs, and every earlier one agrees
pub record FirstThatDiffers (k : ℕ) (fs gs : List (List ℕ)) : Type 0 where
  pub place : ℕ
  pub counted : k ≡ suc place
  pub six : place < 6
  pub differs : field_at fs place ≡ field_at gs place → ⊥
  pub earlier : (j : ℕ) → j < place → field_at fs j ≡ field_at gs j

-- wrong in field k: "A month count out of range is wrong in the first field", else the first that differs
pub data WrongIn (k : ℕ) {l : List ℕ} (r : CanBeRead l) : Type 0 where
  out_of_range : (MonthInRange (count_of r) → ⊥) → k ≡ 1 → WrongIn k r
  differs : MonthInRange (count_of r) → FirstThatDiffers k (fields_of r) (printed_fields (count_of r)) → WrongIn k r

-- what a verdict's number says of a line: 0 right, 1 to 6 the first wrong field, 7 unreadable
pub record Says (l : List ℕ) (v : ℕ) : Type 0 where
  pub unreadable : (v ≡ 7) ↔ (CanBeRead l → ⊥)
  -- "A line is right exactly when it equals what 01 prints for its month count"
  pub right : (v ≡ 0) ↔ ((r : CanBeRead l) × MonthInRange (count_of r) × (l ≡ month_line (count_of r)))
  pub wrong : (k : ℕ) → ((v ≡ k) × (1 ≤ k) × (k ≤ 6)) ↔ ((r : CanBeRead l) × WrongIn k r)
  pub most : v ≤ 7

-- THE CALL
-- the text s is judged into a list that held o, and n is answered
abbrev pub Given : List ℕ → List ℕ → ℕ → List ℕ → Type 0
Given s o n o' = JudgeText s o (Ok n) o'

-- one verdict a line, in order, each what it says
pub record EachLineJudged : Type 0 where
  pub lines : (s o o' : List ℕ) (n : ℕ) → Given s o n o' → n ≡ length (lines_of s)
  pub verdicts : (s o o' : List ℕ) (n : ℕ) → Given s o n o' → (i : ℕ) → i < n → Says (slice_index_or (lines_of s) i []) (slice_index o' i)

-- every line that 01 prints is right, for every month; what it prints is the line and a newline
pub record EveryMonthRight : Type 0 where
  pub right : (s o o' : List ℕ) (n : ℕ) → Given s o n o' → (i m : ℕ) → i < n → MonthInRange m → slice_index_or (lines_of s) i [] ≡ month_line m → slice_index o' i ≡ 0
  pub printed : (m : ℕ) → month_lined m ≡ month_line m ++ (10 ∷ [])

-- "text too long is 18, then 12 if the list of verdicts is too short", each if and only if; and no other
abbrev pub ReasonsOfJudging : Type 0
ReasonsOfJudging = (s o : List ℕ) → PrintReasons (length s ≤ 65536) TextTooLong (verdicts_of s) o (JudgeText s o)

-- a refused call changes nothing; places beyond the verdicts are untouched
abbrev pub RefusalJudgesNothing : Type 0
RefusalJudgesNothing = (s o o' : List ℕ) (why : Reason) → JudgeText s o (Err why) o' → o' ≡ o

abbrev pub RestUnjudged : Type 0
RestUnjudged = (s o o' : List ℕ) (n : ℕ) → Given s o n o' → RestKept n o o'

-- the promise leaves one answer and one state of the lent list
abbrev pub UniqueVerdicts : Type 0
UniqueVerdicts = (s o : List ℕ) (x y : Result ℕ Reason) (o₁ o₂ : List ℕ) → JudgeText s o x o₁ → JudgeText s o y o₂ → (x ≡ y) × (o₁ ≡ o₂)

-- wrong versions, each shut out at a named text, in a list of three nines. Month 129 is the second of two big months.
abbrev pub nines : List ℕ
nines = replicate 3 9

-- the text's only line gets the verdict v
abbrev pub Alone : List ℕ → ℕ → Type 0
Alone s v = JudgeText s nines (Ok 1) (placed (v ∷ []) nines)

pub record WrongVerdicts : Type 0 where
  -- refuses all; writes nothing; all right; the first line only, the others skipped, or its verdict for all
  pub refuses : (why : Reason) (o : List ℕ) → JudgeText (word "129 5 - 30 30 E") nines (Err why) o → ⊥
  pub unwritten : (a : Result ℕ Reason) → JudgeText (word "129 5 - 30 30 E") nines a nines → ⊥
  pub all_right : Alone (word "129 5 - 30 29 E") 0 → ⊥
  pub first-only : (o : List ℕ) → JudgeText (word "129 5 - 30 30 E" ++ (10 ∷ word "1")) nines (Ok 1) o → ⊥
  pub rest-skipped : (a : Result ℕ Reason) → JudgeText (word "129 5 - 30 30 E" ++ (10 ∷ word "1")) nines a (0 ∷ 9 ∷ 9 ∷ []) → ⊥
  pub first-copied : (a : Result ℕ Reason) → JudgeText (word "129 5 - 30 30 E" ++ (10 ∷ word "1")) nines a (0 ∷ 0 ∷ 9 ∷ []) → ⊥
  -- the last wrong field for the first; counted from 0
  pub last-wrong : Alone (word "129 5 - 31 30 -") 6 → ⊥
  pub counted-from-0 : Alone (word "129 5 - 31 30 -") 3 → ⊥
  -- a leading zero let through, as right or as wrong; a carriage return; a tab; a word before it; a space after it; ten digits
  pub leading-zero : (v : ℕ) → v < 7 → Alone (word "0129 5 - 30 30 E") v → ⊥
  pub carriage-return : (v : ℕ) → v < 7 → Alone (word "129 5 - 30 30 E" ++ (13 ∷ [])) v → ⊥
  pub tab : (v : ℕ) → v < 7 → Alone (word "129" ++ (9 ∷ word "5 - 30 30 E")) v → ⊥
  pub word-before : (v : ℕ) → v < 7 → Alone (word "MONTH 129 5 - 30 30 E") v → ⊥
  pub space-after : (v : ℕ) → v < 7 → Alone (word "129 5 - 30 30 E ") v → ⊥
  pub two-spaces : (v : ℕ) → v < 7 → Alone (word "129  5 - 30 30 E") v → ⊥
  pub ten-digits : (v : ℕ) → v < 7 → Alone (word "129 5 - 1000000000 30 E") v → ⊥
  -- what can be read taken for unreadable: nine digits, nought alone, a count out of range
  pub nine-digits : Alone (word "129 5 - 999999999 30 E") 7 → ⊥
  pub nought : Alone (word "129 0 - 30 30 E") 7 → ⊥
  pub out_of_range : (v : ℕ) → v ≢ 1 → Alone (word "507600 5 - 30 30 E") v → ⊥
  -- the second of two big months struck out
  pub second-of-two-big : (v : ℕ) → 0 < v → Alone (word "129 5 - 30 30 E") v → ⊥
  -- a newline at the end opens a line; an empty line is passed over; an empty text has a line
  pub newline-opens : (o : List ℕ) → JudgeText (word "129 5 - 30 30 E" ++ (10 ∷ [])) nines (Ok 2) o → ⊥
  pub empty-line-skipped : (o : List ℕ) → JudgeText (10 ∷ word "129 5 - 30 30 E") nines (Ok 1) o → ⊥
  pub empty-text-judged : (o : List ℕ) → JudgeText [] nines (Ok 1) o → ⊥
