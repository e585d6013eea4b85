-- What a reader's step says, as a number: that of the verdict, 8 where no line is left, 9 where it comes back. Assumes nothing.
use Rattle.std.specs.Prelude.{ℕ, Ok, Err, Some, None}
use Rattle.concordance.specs.Verdicts.{LineTold, verdict_number}

abbrev pub said_number : LineTold → ℕ
said_number (Ok (Some v)) = verdict_number v
said_number (Ok None) = 8
said_number (Err why) = 9
