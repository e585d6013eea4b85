-- What the four calls promise that write a civil year's block, a month's line, a `MONTH` or a `DAY` line into a lent buffer.
-- Assumes nothing.
use Rattle.rule.specs.declared.Reason.{Reason}
use Rattle.rule.specs.Reasons.{said}
use Rattle.std.specs.Prelude.{Result, ℕ, ◌≡◌, List, leb, length}
use Rattle.rule.specs.Reasons.{Answer, is, guard, and_then, into_room, afterwards}
use Rattle.penned.specs.Lines.{month_lined, year_block, month_item, day_item}

-- what does not exist comes first, 12 last
unfoldable pub year_block_at : ℕ → ℕ → Answer (List ℕ)
year_block_at y n = guard (leb y 41040) 1 (into_room n (year_block y))

unfoldable pub month_line_at : ℕ → ℕ → Answer (List ℕ)
month_line_at m n = guard (leb m 507599) 7 (into_room n (month_lined m))

unfoldable pub month_item_at : ℕ → ℕ → Answer (List ℕ)
month_item_at m n = guard (leb m 507599) 7 (into_room n (month_item m))

unfoldable pub day_item_at : ℕ → ℕ → Answer (List ℕ)
day_item_at d n = guard (leb d 14989859) 6 (into_room n (day_item d))

-- the answer a, in a lent buffer that held o: what is said back is the length of the text, and what the buffer holds then
pub record Printed (a : Answer (List ℕ)) (o : List ℕ) (r : Result ℕ Reason) (o' : List ℕ) : Type 0 where
  pub answer : said r ≡ and_then a (λ b. is (length b))
  pub buffer : o' ≡ afterwards a (λ b. b) o

-- a civil year's block, a month's line, a `MONTH` line, a `DAY` line
abbrev pub PrintYear : ℕ → List ℕ → Result ℕ Reason → List ℕ → Type 0
PrintYear y o = Printed (year_block_at y (length o)) o

abbrev pub PrintMonthLine : ℕ → List ℕ → Result ℕ Reason → List ℕ → Type 0
PrintMonthLine n o = Printed (month_line_at n (length o)) o

abbrev pub PrintMonth : ℕ → List ℕ → Result ℕ Reason → List ℕ → Type 0
PrintMonth n o = Printed (month_item_at n (length o)) o

abbrev pub PrintDay : ℕ → List ℕ → Result ℕ Reason → List ℕ → Type 0
PrintDay d o = Printed (day_item_at d (length o)) o
