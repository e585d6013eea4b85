-- Four texts, and a case of two reasons, at which a wrong definition shows at once. Assumes nothing.
use Prim.Native.Nat.{ℕ}
use mathlib.Core.Path.{◌≡◌, refl}
use mathlib.Core.List.{[], ◌∷◌}
use Rattle.rule.specs.Reasons.{is, refused}
use Rattle.fields.specs.Fields.{word, digits, decimal, followed, each}
use Rattle.penned.specs.Lines.{month_lined, year_block, month_item, day_item}
use Rattle.penned.specs.Promises.{year_block_at, month_line_at, month_item_at, day_item_at}
use Rattle.penned.specs.Paper.{in_lines, example_of11}
use Rattle.dates.proofs.Computing.{dates-computed}
use Rattle.facts.proofs.Computing.{facts-computed}

-- what lines are computed with: on an `unfolding` line such a name brings all that its own line names
unfoldable pub month-lines : ℕ
unfolding in_lines digits decimal followed facts-computed
month-lines = 0

unfoldable pub year-lines : ℕ
unfolding year_block month_lined each month-lines facts-computed
year-lines = 0

-- the year 41,041 into no bytes at all: 1 comes before 12
pub one-first : year_block_at 41041 0 ≡ refused 1
unfolding year_block_at year-lines
one-first = refl

-- case 10 and the listing's example; the leap month of year 11; day 0
pub line-134 : month_line_at 134 300 ≡ is (in_lines (word "134 9 L 58 29 E" ∷ []))
unfolding month_line_at month_lined month-lines
line-134 = refl

pub month-134 : month_item_at 134 300 ≡ is (in_lines (word "MONTH 134 9 L 58 29 E" ∷ []))
unfolding month_item_at month_item month-lines
month-134 = refl

pub day-0 : day_item_at 0 300 ≡ is (in_lines (word "DAY 0 0 11 - 1 1" ∷ []))
unfolding day_item_at day_item month-lines dates-computed
day-0 = refl

-- "Year 0 then holds months 11 and 12 only, name 16"
pub year-0 : year_block_at 0 300 ≡ is (in_lines (word "YEAR 0 NAME 16 MONTHS 2" ∷ word "0 11 - 1 29 -" ∷ word "1 12 - 30 30 -" ∷ []))
unfolding year_block_at year-lines
year-0 = refl

pub year-11 : year_block_at 11 300 ≡ is example_of11
unfolding year_block_at year-lines
year-11 = refl
