-- "A number too large for its type is out of range": a number, a move and a reading cut down to 32 bits. Assumes nothing.
use Rattle.std.specs.Prelude.{ℕ, suc, ◌-◌, min, ℤ, pos, negsuc}
use Rattle.reading.specs.declared.Field.{Field}
use Rattle.reading.specs.declared.Field.TheVariants.{Known, Unread}
use Rattle.reading.specs.declared.Reading.{Reading}

-- the number itself, 4,294,967,295 at most: no range of the paper goes so far
abbrev pub capped : ℕ → ℕ
capped n = min n 4294967295

-- a move, so many days at most on or back
abbrev pub capped_move : ℤ → ℤ
capped_move (pos n) = pos (capped n)
capped_move (negsuc n) = negsuc (capped (suc n) - 1)

abbrev pub capped_field : Field → Field
capped_field (Known n) = Known (capped n)
capped_field Unread = Unread

abbrev pub capped_reading : Reading → Reading
capped_reading r =
    record {
      year_name = capped_field r.year_name;
      month_number = capped_field r.month_number;
      leap_mark = capped_field r.leap_mark;
      day_of_month = capped_field r.day_of_month;
      day_name = capped_field r.day_name;
      first_name = capped_field r.first_name;
    }
