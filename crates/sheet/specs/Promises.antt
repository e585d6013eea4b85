-- What reading and writing a sheet promise: the paper's number and values for each case of an answer, and every lent list.
-- Assumes nothing.
use Rattle.rule.specs.declared.Reason.{Reason}
use Rattle.std.specs.Prelude.{Result, ℕ, ◌≡◌, List, length, drop}
use Rattle.rule.specs.Reasons.{is, said, and_then, afterwards}
use Rattle.sheet.specs.declared.Counted.{Counted}
use Rattle.sheet.specs.Sheet.{Lists, count_of, months_part, days_part, read_into, write_into}

-- "gives the three counts"
abbrev pub counted : Lists → Counted
counted l = record { years = length l.years; months = length l.months; days = length l.days }

-- three counts
abbrev pub counts_are : ℕ → ℕ → ℕ → Counted
counts_are y m d = record { years = y; months = m; days = d }

-- the three counts that stand in a sheet
abbrev pub counts_in : List ℕ → Counted
counts_in s = counts_are (count_of s) (count_of (months_part s)) (count_of (days_part s))

-- reading the bytes s into lent lists that held y, m and d: the answer r, and what they hold then
pub record ReadSheet (s y m d : List ℕ) (r : Result Counted Reason) (y' m' d' : List ℕ) : Type 0 where
  pub answer : said r ≡ and_then (read_into s (length y) (length m) (length d)) (λ l. is (counted l))
  pub years : y' ≡ afterwards (read_into s (length y) (length m) (length d)) (λ l. l.years) y
  pub months : m' ≡ afterwards (read_into s (length y) (length m) (length d)) (λ l. l.months) m
  pub days : d' ≡ afterwards (read_into s (length y) (length m) (length d)) (λ l. l.days) d

-- writing the lists y, m and d into a lent buffer that held o: the answer r, and what it holds then
pub record WriteSheet (y m d o : List ℕ) (r : Result ℕ Reason) (o' : List ℕ) : Type 0 where
  pub answer : said r ≡ and_then (write_into (record { years = y; months = m; days = d }) (length o)) (λ b. is (length b))
  pub buffer : o' ≡ afterwards (write_into (record { years = y; months = m; days = d }) (length o)) (λ b. b) o

-- "Both leave places beyond what they fill untouched", where n places are filled
pub record RestKept (n : ℕ) (old new : List ℕ) : Type 0 where
  pub places : length new ≡ length old
  pub rest : drop n new ≡ drop n old
