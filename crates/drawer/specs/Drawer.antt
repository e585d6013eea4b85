-- "A whole drawer at once" (W1): what is answered for a list of days and a lent list of records, and what stands in that list after it, for
-- every input. Assumes nothing.
use Rattle.std.specs.Prelude.{Result, Ok, Err, codes, ◌++◌, ◌≡◌, ℕ, ◌+◌, Bool, true, ◌&&◌, List, [], ◌∷◌, map, length, nat_le}
use Rattle.rule.specs.Reasons.{Answer, is, refused, refused-with, guard, guard-with, reason_number, afterwards}
use Rattle.rule.specs.Words.{words_of}
use Rattle.rule.specs.declared.Reason.TheVariants.{NoSuchDay}
use Rattle.std.specs.Fmt.{decimal}
use Rattle.dates.specs.declared.Date.{Date}
use Rattle.dates.specs.Dates.{date_of}
use Rattle.drawer.specs.declared.DrawerError.{DrawerError}
use Rattle.drawer.specs.declared.DrawerError.TheVariants.{BadDay, Refused}

-- all days are in range
unfoldable pub all_in_range : List ℕ → Bool
all_in_range [] = true
all_in_range (d ∷ ds) = nat_le d 14989859 && all_in_range ds

-- the days from place i on: "If any day is out of range .. the place of the first bad one, counted from 0, comes back", and else how many
-- there are up to the last
unfoldable pub days_from : List ℕ → ℕ → Answer ℕ
days_from [] i = is i
days_from (d ∷ ds) i = guard-with (nat_le d 14989859) 6 i (days_from ds (i + 1))

-- "count above 4,096 is 10, then 12 for too few records, then 6 with the place"; else the answer is how many records are filled
unfoldable pub drawer_at : List ℕ → ℕ → Answer ℕ
drawer_at ds room = guard (nat_le (length ds) 4096) 10 (guard (nat_le (length ds) room) 12 (days_from ds 0))

-- what a drawer says back by its result: how many records were filled, or why it comes back
abbrev pub said_filled : Result ℕ DrawerError → Answer ℕ
said_filled (Ok n) = is n
said_filled (Err (BadDay i)) = refused-with 6 i
said_filled (Err (Refused r)) = refused (reason_number r)

-- what an error shows
abbrev pub drawer_words : DrawerError → List ℕ
drawer_words (Refused why) = words_of why
drawer_words (BadDay i) = words_of NoSuchDay ++ codes ": place " ++ decimal i ++ codes ", counted from 0"

-- how many records are filled under an answer
abbrev pub to_fill : Answer ℕ → ℕ
to_fill (is n) = n
to_fill (refused k) = 0
to_fill (refused-with k i) = 0

-- what the call promises: the records are the days' dates, in the order of the list
pub record FillDates (days : List ℕ) (old : List Date) (answer : Result ℕ DrawerError) (new : List Date) : Type 0 where
  pub answered : said_filled answer ≡ drawer_at days (length old)
  pub lent : new ≡ afterwards (drawer_at days (length old)) (λ n. map date_of days) old
