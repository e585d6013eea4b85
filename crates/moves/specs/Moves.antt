-- A move of a date, as the paper has it, for every number. Assumes nothing.
use Rattle.std.specs.Prelude.{Result, ℕ, ◌≡◌, Bool, leb, ℤ, pos, negsuc, ◌+ℤ◌}
use Rattle.rule.specs.Reasons.{Answer, is, refused, guard, and_then, said}
use Rattle.rule.specs.declared.Reason.{Reason}
use Rattle.dates.specs.declared.Date.{Date}
use Rattle.dates.specs.Dates.{date_of, day_of_date}
use Rattle.moves.specs.declared.Way.{Way}
use Rattle.moves.specs.declared.Way.TheVariants.{On, Back}

-- the date of the day at which a move ends; "a move ends outside the range" is reason 8
abbrev pub landed : ℤ → Answer Date
landed (pos d) = guard (leb d 14989859) 8 (is (date_of d))
landed (negsuc d) = refused 8

-- "a move first the date's own reasons, then 8": the date of the day n later
unfoldable pub moved : ℕ → ℕ → Bool → ℕ → ℤ → Answer Date
moved y k l m n = and_then (day_of_date y k l m) (λ d. landed (pos d +ℤ n))

-- the signed number taken apart: `On n` is n days on, `Back n` is n + 1 days back
abbrev pub way_of : ℤ → Way
way_of (pos n) = On n
way_of (negsuc n) = Back n

abbrev pub signed : Way → ℤ
signed (On n) = pos n
signed (Back n) = negsuc n

-- where day d comes to so
unfoldable pub stepped : ℕ → Way → Answer Date
stepped d w = landed (pos d +ℤ signed w)

-- a move of a date by any signed number
abbrev pub MoveDate : ℕ → ℕ → Bool → ℕ → ℤ → Result Date Reason → Type 0
MoveDate y k l m n r = said r ≡ moved y k l m n
