-- What the call for a whole text promises. Assumes nothing.
use Rattle.rule.specs.declared.Reason.{Reason}
use Rattle.std.specs.Prelude.{Result, ℕ, List, length, nat_le}
use Rattle.rule.specs.Reasons.{Answer, guard, into_room}
use Rattle.penned.specs.Promises.{Printed}
use Rattle.concordance.specs.Verdicts.{verdicts_of}

-- "text too long is 18, then 12 if the list of verdicts is too short"
unfoldable pub verdicts_into : List ℕ → ℕ → Answer (List ℕ)
verdicts_into s n = guard (nat_le (length s) 65536) 18 (into_room n (verdicts_of s))

-- the verdicts on the text s, into a lent list that held o: how many is said back, and what the list holds then
abbrev pub JudgeText : List ℕ → List ℕ → Result ℕ Reason → List ℕ → Type 0
JudgeText s o = Printed (verdicts_into s (length o)) o
