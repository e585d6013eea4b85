-- What reading a sheet of the new form and the two conversions promise: the paper's number and values for each case of an answer, and every
-- lent list. Assumes nothing.
use Rattle.rule.specs.declared.Reason.{Reason}
use Rattle.std.specs.Prelude.{Result, ℕ, ◌≡◌, List, length}
use Rattle.std.proofs.lemmas.List.Edits.{sets}
use Rattle.rule.specs.Reasons.{said, is, and_then, afterwards}
use Rattle.sheet.specs.Sheet.{sheet_sections, items_of, count_of}
use Rattle.sheet.specs.Steps.{left_over, Filled}
use Rattle.sheet.specs.Promises.{counted, counts_in}
use Rattle.newsheet.specs.declared.FourCounts.{FourCounts}
use Rattle.newsheet.specs.New.{eights, reading_section, Four, read_new_into, to_new, to_old}
use Rattle.newsheet.specs.Faults.{GoodNew}

-- "giving four counts"
abbrev pub counted_four : Four → FourCounts
counted_four l = record { three = counted l.three; readings = length l.readings }

-- where the readings start in a sheet of the new form, and the four counts that stand in it
abbrev pub readings_part : List ℕ → List ℕ
readings_part s = left_over sheet_sections s

abbrev pub four_counts_in : List ℕ → FourCounts
four_counts_in s = record { three = counts_in s; readings = count_of (readings_part s) }

-- reading the bytes s into lent lists that held y, m, d and n: the answer r, and what they hold then
pub record ReadNew (s y m d n : List ℕ) (r : Result FourCounts Reason) (y' m' d' n' : List ℕ) : Type 0 where
  pub answer : said r ≡ and_then (read_new_into s (length y) (length m) (length d) (length n)) (λ l. is (counted_four l))
  pub years : y' ≡ afterwards (read_new_into s (length y) (length m) (length d) (length n)) (λ l. l.three.years) y
  pub months : m' ≡ afterwards (read_new_into s (length y) (length m) (length d) (length n)) (λ l. l.three.months) m
  pub days : d' ≡ afterwards (read_new_into s (length y) (length m) (length d) (length n)) (λ l. l.three.days) d
  pub readings : n' ≡ afterwards (read_new_into s (length y) (length m) (length d) (length n)) (λ l. eights l.readings) n

-- converting the bytes s into a lent buffer that held o: the answer r, and what it holds then
pub record ToNew (s o : List ℕ) (r : Result ℕ Reason) (o' : List ℕ) : Type 0 where
  pub answer : said r ≡ and_then (to_new s (length o)) (λ b. is (length b))
  pub buffer : o' ≡ afterwards (to_new s (length o)) (λ b. b) o

pub record ToOld (s o : List ℕ) (r : Result ℕ Reason) (o' : List ℕ) : Type 0 where
  pub answer : said r ≡ and_then (to_old s (length o)) (λ b. is (length b))
  pub buffer : o' ≡ afterwards (to_old s (length o)) (λ b. b) o

-- for the inner functions: a sheet of the new form that is good, with room in lists of y, m, d and n places, and its counts
pub record ToFillNew (s : List ℕ) (y m d n : ℕ) (c : FourCounts) : Type 0 where
  pub counts : c ≡ four_counts_in s
  pub good : GoodNew s y m d n

-- the lists that held y, m, d and n, with the sheet's items and the numbers of its readings stored from the front
pub record FilledNew (s y m d n y' m' d' n' : List ℕ) : Type 0 where
  pub three : Filled s y m d y' m' d'
  pub readings : n' ≡ sets n 0 (eights (items_of reading_section (readings_part s)))
