-- A drawer of 4,096 records filled, told in plain numbers: the answer laid flat, and one number that every filled record goes into.
-- Assumes nothing.
use Rattle.std.specs.Prelude.{ℕ, ◌+◌, ◌*◌, ◌/◌, ◌%◌, ◌^◌, Bool, true, false, List, [], ◌∷◌, map, bit_xor}
use Rattle.rule.specs.Rule.{number_of, leap_mark}
use Rattle.rule.specs.Reasons.{Answer, is, refused, refused-with}
use Rattle.dates.specs.declared.Date.{Date}
use Rattle.dates.specs.Dates.{date_of}
use Rattle.drawer.specs.Drawer.{drawer_at}
use Rattle.drawn.specs.declared.Drawn.{Drawn}

abbrev pub bit : Bool → ℕ
bit true = 1
bit false = 0

-- the values of a record in two numbers, 8 bits for each and 16 for the year, from the lowest bits up: mark, number, year, day of month, month
-- length, day name, year name; ji, bu, year in the bu, eclipse mark
unfoldable pub low_of : Date → ℕ
low_of d =
    bit (leap_mark d.month) + 256 * number_of d.month + 65536 * d.year
    + 4294967296 * (d.day_of_month + 256 * d.month_length + 65536 * (d.day_name + 256 * d.year_name))

unfoldable pub high_of : Date → ℕ
high_of d = d.ji + 256 * d.bu + 65536 * (d.year_in_bu + 256 * bit d.eclipse)

-- one record more: the sum of 64 bits is turned by seven of them, which loses nothing, and the first number, over which an odd multiple of the
-- second is laid bit by bit, is added; so another value in one place of one record makes another sum, however many records follow
unfoldable pub added_of : ℕ → Date → ℕ
added_of s d = (s % 144115188075855872 * 128 + s / 144115188075855872 + bit_xor (low_of d) (4294967291 * high_of d)) % 2 ^ 64

unfoldable pub sum_from : ℕ → List Date → ℕ
sum_from s [] = s
sum_from s (d ∷ ds) = sum_from (added_of s d) ds

-- an answer laid flat, with the sum where the drawer is filled
abbrev pub drawn_with : Answer ℕ → ℕ → Drawn
drawn_with (is n) s = record { reason = 0; count = n; place = 0; sum = s }
drawn_with (refused k) s = record { reason = k; count = 0; place = 0; sum = 0 }
drawn_with (refused-with k i) s = record { reason = k; count = 0; place = i; sum = 0 }

unfoldable pub drawn_of : List ℕ → Drawn
drawn_of days = drawn_with (drawer_at days 4096) (sum_from 0 (map date_of days))
