-- How much of an input the converting programs need, as statements, and what they make of a room into which an input was read.
-- proofs/Paper.antt proves each statement under the same name in small letters. Assumes nothing.
use Rattle.rule.specs.declared.Reason.{Reason}
use Rattle.std.specs.Prelude.{Result, Option, ℕ, ◌≤◌, ◌≡◌, ◌⊎◌, List, take}
use Rattle.std.specs.Io.KnownBytes.{Appends}
use Rattle.rule.specs.Reasons.{Answer, is, refused, refused-with}
use Rattle.penned.specs.Lines.{refused_line}
use Rattle.sheet.specs.Sheet.{read_sheet}
use Rattle.newsheet.specs.New.{read_new, to_new, to_old}
use Rattle.newsheet.specs.Faults.{NoReadings}
use Rattle.newsheet.specs.Promises.{ToNew, ToOld}
use Rattle.listed.specs.Paper.{TakenInto}

-- so many bytes of an input the two programs hold: one more than the longest sheet of the form that each reads
abbrev pub old_held : ℕ
old_held = 10007

abbrev pub new_held : ℕ
new_held = 17009

-- so many bytes a converted sheet has at most
abbrev pub new_most : ℕ
new_most = 10008

abbrev pub old_most : ℕ
old_most = 10006

-- the bytes that are held are converted as the whole is, into a buffer of any length
pub record FrontIsEnough : Type 0 where
  pub to-new : (s : List ℕ) (n : ℕ) → to_new (take old_held s) n ≡ to_new s n
  pub to-old : (s : List ℕ) (n : ℕ) → to_old (take new_held s) n ≡ to_old s n

-- a buffer of so many bytes is never too short: what comes back, comes back for the sheet's own fault, or for its readings
pub record NeverTooShort : Type 0 where
  pub to-new : (s : List ℕ) (n k : ℕ) → new_most ≤ n → to_new s n ≡ refused k → read_sheet s ≡ refused k
  pub to-old : (s : List ℕ) (n k : ℕ) → old_most ≤ n → to_old s n ≡ refused k → (read_new s ≡ refused k) ⊎ ((k ≡ 17) × (NoReadings s → ⊥))

-- whatever input the room has taken, what is answered and put is the conversion of the whole of it
abbrev pub InputToNew : (room : List ℕ) (n : ℕ) (out : List ℕ) (r : Result ℕ Reason) (out' : List ℕ) → Type 0
InputToNew room n out r out' = (s : List ℕ) → TakenInto room n s → ToNew s out r out'

abbrev pub InputToOld : (room : List ℕ) (n : ℕ) (out : List ℕ) (r : Result ℕ Reason) (out' : List ℕ) → Type 0
InputToOld room n out r out' = (s : List ℕ) → TakenInto room n s → ToOld s out r out'

-- what a conversion makes is given: the sheet to the output, or a refusal's line to the other
abbrev pub Given : Answer (List ℕ) → (to to' errors errors' : Option (List ℕ)) → Type 0
Given (is b) to to' errors errors' = Appends to to' b
Given (refused k) to to' errors errors' = Appends errors errors' (refused_line k)
Given (refused-with k n) to to' errors errors' = Appends errors errors' (refused_line k)
