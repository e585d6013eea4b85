-- The new form of the sheet for C: its counts laid flat, what reading it and the two conversions promise, and what is said of them, as statements.
-- proofs/Renewed.antt proves each statement under the same name in small letters. Assumes nothing.
use Rattle.rule.specs.declared.Reason.{Reason}
use Rattle.std.specs.Prelude.{Result, Ok, ℕ, ◌≡◌, ◌↔◌, ◌≢◌, List, [], ◌∷◌, ◌++◌, length, replicate}
use Rattle.rule.specs.Reasons.{said, Answer, is, and_then, afterwards}
use Rattle.sheet.specs.Sheet.{empty_sheet}
use Rattle.newsheet.specs.declared.FourCounts.{FourCounts}
use Rattle.newsheet.specs.New.{eights, read_new_into, to_new, to_old}
use Rattle.newsheet.specs.Promises.{counted_four, ReadNew, ToNew, ToOld}
use Rattle.newstated.specs.Paper.{empty_new, sheet_of_reading, sheet_of_two_readings, known22, unread_bytes, month13-past, leap_byte}
use Rattle.offered.specs.declared.CNewCounts.{CNewCounts}
use Rattle.offered.specs.declared.CLength.{CLength}
use Rattle.offered.specs.Flat.{flat, given_length, flat_length}
use Rattle.offered.specs.Structs.{BareLength}
use Rattle.offered.specs.Promises.{CPrinted}

-- the four counts, and a refusal
abbrev pub given_four : FourCounts → CNewCounts
given_four c =
    record { reason = 0; years = c.three.years; months = c.three.months; days = c.three.days; readings = c.readings }

abbrev pub no_four : ℕ → CNewCounts
no_four k = record { reason = k; years = 0; months = 0; days = 0; readings = 0 }

abbrev pub flat_four : Answer FourCounts → CNewCounts
flat_four = flat given_four no_four

pub record BareFour (r : CNewCounts) : Type 0 where
  pub years : r.years ≡ 0
  pub months : r.months ≡ 0
  pub days : r.days ≡ 0
  pub readings : r.readings ≡ 0

-- reading the bytes s into lent lists that held y, m, d and n: the answer r, and what they hold then
pub record CReadNew (s y m d n : List ℕ) (r : CNewCounts) (y' m' d' n' : List ℕ) : Type 0 where
  pub answer : r ≡ flat_four (and_then (read_new_into s (length y) (length m) (length d) (length n)) (λ l. is (counted_four l)))
  pub years : y' ≡ afterwards (read_new_into s (length y) (length m) (length d) (length n)) (λ l. l.three.years) y
  pub months : m' ≡ afterwards (read_new_into s (length y) (length m) (length d) (length n)) (λ l. l.three.months) m
  pub days : d' ≡ afterwards (read_new_into s (length y) (length m) (length d) (length n)) (λ l. l.three.days) d
  pub readings : n' ≡ afterwards (read_new_into s (length y) (length m) (length d) (length n)) (λ l. eights l.readings) n

-- converting the bytes s into a lent buffer that held o
abbrev pub CToNew : List ℕ → List ℕ → CLength → List ℕ → Type 0
CToNew s o = CPrinted (to_new s (length o)) o

abbrev pub CToOld : List ℕ → List ℕ → CLength → List ℕ → Type 0
CToOld s o = CPrinted (to_old s (length o)) o

-- each promise leaves one answer and one state of lent memory
pub record UniqueRenewed : Type 0 where
  pub read-new :
      (s y m d n : List ℕ) (a b : CNewCounts) (y₁ m₁ d₁ n₁ y₂ m₂ d₂ n₂ : List ℕ) →
      CReadNew s y m d n a y₁ m₁ d₁ n₁ → CReadNew s y m d n b y₂ m₂ d₂ n₂ → (a ≡ b) × (y₁ ≡ y₂) × (m₁ ≡ m₂) × (d₁ ≡ d₂) × (n₁ ≡ n₂)
  pub to-new : (s o : List ℕ) (a b : CLength) (o₁ o₂ : List ℕ) → CToNew s o a o₁ → CToNew s o b o₂ → (a ≡ b) × (o₁ ≡ o₂)
  pub to-old : (s o : List ℕ) (a b : CLength) (o₁ o₂ : List ℕ) → CToOld s o a o₁ → CToOld s o b o₂ → (a ≡ b) × (o₁ ≡ o₂)

-- a refusal is bare, and changes nothing that was lent
pub record RefusalRenewed : Type 0 where
  pub read-new :
      (s y m d n : List ℕ) (r : CNewCounts) (y' m' d' n' : List ℕ) → CReadNew s y m d n r y' m' d' n' → r.reason ≢ 0 →
      BareFour r × (y' ≡ y) × (m' ≡ m) × (d' ≡ d) × (n' ≡ n)
  pub to-new : (s o : List ℕ) (r : CLength) (o' : List ℕ) → CToNew s o r o' → r.reason ≢ 0 → BareLength r × (o' ≡ o)
  pub to-old : (s o : List ℕ) (r : CLength) (o' : List ℕ) → CToOld s o r o' → r.reason ≢ 0 → BareLength r × (o' ≡ o)

-- what is said is what the call that is not for C says, laid flat
pub record SaysTheRenewed : Type 0 where
  pub read-new :
      (s y m d n : List ℕ) (r : CNewCounts) (y' m' d' n' : List ℕ) →
      CReadNew s y m d n r y' m' d' n' ↔ ((a : Result FourCounts Reason) × ReadNew s y m d n a y' m' d' n' × (r ≡ flat_four (said a)))
  pub to-new :
      (s o : List ℕ) (r : CLength) (o' : List ℕ) →
      CToNew s o r o' ↔ ((a : Result ℕ Reason) × ToNew s o a o' × (r ≡ flat_length (said a)))
  pub to-old :
      (s o : List ℕ) (r : CLength) (o' : List ℕ) →
      CToOld s o r o' ↔ ((a : Result ℕ Reason) × ToOld s o a o' × (r ≡ flat_length (said a)))

-- reason 0 is said exactly where there is an answer
pub record Reason0Renewed : Type 0 where
  pub read-new :
      (s y m d n : List ℕ) (r : CNewCounts) (y' m' d' n' : List ℕ) → CReadNew s y m d n r y' m' d' n' →
      (r.reason ≡ 0) ↔ ((c : FourCounts) × ReadNew s y m d n (Ok c) y' m' d' n' × (r ≡ given_four c))
  pub to-new :
      (s o : List ℕ) (r : CLength) (o' : List ℕ) → CToNew s o r o' →
      (r.reason ≡ 0) ↔ ((k : ℕ) × ToNew s o (Ok k) o' × (r ≡ given_length k))
  pub to-old :
      (s o : List ℕ) (r : CLength) (o' : List ℕ) → CToOld s o r o' →
      (r.reason ≡ 0) ↔ ((k : ℕ) × ToOld s o (Ok k) o' × (r ≡ given_length k))

-- wrong versions, each shut out at a named input
pub record WrongRenewed : Type 0 where
  pub refusing-all : (r : CNewCounts) (y m d n : List ℕ) → CReadNew empty_new [] [] [] [] r y m d n → r.reason ≢ 0 → ⊥
  pub filling-none :
      (r : CNewCounts) (y m d : List ℕ) → CReadNew (sheet_of_reading known22) [] [] [] (replicate 8 7) r y m d (replicate 8 7) → ⊥
  pub fields-of-the-first-for-all :
      (r : CNewCounts) (y m d : List ℕ) →
      CReadNew (sheet_of_two_readings known22 unread_bytes) [] [] [] (replicate 16 7) r y m d
      (22 ∷ 1 ∷ 1 ∷ 9 ∷ 60 ∷ 52 ∷ 258 ∷ 515 ∷ 22 ∷ 1 ∷ 1 ∷ 9 ∷ 60 ∷ 52 ∷ 0 ∷ 27758 ∷ []) →
      ⊥
  pub fields-before-the-ends : (y m d n : List ℕ) → CReadNew (sheet_of_reading month13-past) [] [] [] (replicate 8 7) (no_four 14) y m d n → ⊥
  pub leap-byte-3-for-leap :
      (c : FourCounts) (y m d n : List ℕ) → CReadNew (sheet_of_reading (leap_byte 3)) [] [] [] (replicate 8 7) (given_four c) y m d n → ⊥
  pub one-count-for-two :
      (y m d n : List ℕ) →
      CReadNew (sheet_of_two_readings known22 unread_bytes) [] [] [] (replicate 16 7) (record { reason = 0; years = 0; months = 0; days = 0; readings = 1 }) y m d n →
      ⊥
  pub new-refusing-all : (r : CLength) (o : List ℕ) → CToNew empty_sheet (replicate 8 9) r o → r.reason ≢ 0 → ⊥
  pub new-without-a-count : (r : CLength) → CToNew empty_sheet (replicate 8 9) r (empty_sheet ++ (9 ∷ 9 ∷ [])) → ⊥
  pub old-refusing-all : (r : CLength) (o : List ℕ) → CToOld empty_new (replicate 6 9) r o → r.reason ≢ 0 → ⊥
  pub old-with-the-count : (r : CLength) → CToOld empty_new (replicate 8 9) r empty_new → ⊥
  pub readings-dropped : (k : ℕ) (o : List ℕ) → CToOld (sheet_of_reading known22) (replicate 22 9) (given_length k) o → ⊥
  pub seventeen-before-eleven :
      (o : List ℕ) → CToOld (sheet_of_reading known22 ++ (0 ∷ [])) (replicate 22 9) (record { reason = 17; length = 0 }) o → ⊥
