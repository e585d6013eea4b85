-- "Why a query comes back": the words of each reason, which it shows: the paper's rows and those of W4, W9, W5, W11 and W3; 1, 10, 13 and 15
-- so worded that they are true wherever the reason is given (docs/PAPER.md has the paper's own). Assumes nothing.
use Rattle.std.specs.Prelude.{ℕ, List, codes}
use Rattle.rule.specs.declared.Reason.{Reason}
use Rattle.rule.specs.declared.Reason.TheVariants.{
  NoSuchYear,
  NoSuchMonthNumber,
  NoSuchDayOfMonth,
  NoSuchLeapMonth,
  NoThirtiethDay,
  NoSuchDay,
  NoSuchMonth,
  MoveOutOfRange,
  SheetEndsEarly,
  CountTooLarge,
  BytesAfterLast,
  LentTooShort,
  BadWindow,
  FieldOutOfRange,
  NoSuchTermOrQuarter,
  NoSuchNumberInYear,
  ReadingsPresent,
  TextTooLong,
  NoSuchPlanet,
  NoConjunctionLeft,
  NoSuchBu,
}

abbrev pub words_of : Reason → List ℕ
words_of NoSuchYear = codes "year outside its range"
words_of NoSuchMonthNumber = codes "month number outside 1 to 12"
words_of NoSuchDayOfMonth = codes "day of month outside 1 to 30"
words_of NoSuchLeapMonth = codes "leap month asked and that year has none of that number"
words_of NoThirtiethDay = codes "day 30 of a 29-day month"
words_of NoSuchDay = codes "day count outside the range"
words_of NoSuchMonth = codes "month count outside the range"
words_of MoveOutOfRange = codes "a move ends outside the range"
words_of SheetEndsEarly = codes "sheet ends before a count or an item is whole"
words_of CountTooLarge = codes "a count above its most"
words_of BytesAfterLast = codes "bytes after the last section"
words_of LentTooShort = codes "a lent list or buffer too short for the whole answer"
words_of BadWindow = codes "last before first, or a window of more than 27,759 days"
words_of FieldOutOfRange = codes "a known field of a reading outside its range"
words_of NoSuchTermOrQuarter = codes "term, mid-term or quarter above its last"
words_of NoSuchNumberInYear = codes "no such month number in that year"
words_of ReadingsPresent = codes "going back to the old form with readings present"
words_of TextTooLong = codes "text too long"
words_of NoSuchPlanet = codes "planet outside 1 to 5"
words_of NoConjunctionLeft = codes "no conjunction falls from the given day to the end of the range"
words_of NoSuchBu = codes "bu outside 1 to 540"
