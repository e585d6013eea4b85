-- What an emendation answers, and what the lent list holds after it, for every input. Assumes nothing.
use Rattle.std.specs.Prelude.{Result, ℕ, ◌*◌, ◌≡◌, Bool, true, false, List, [], leb, eqb, length}
use Rattle.rule.specs.Reasons.{Answer, is, guard-with, afterwards}
use Rattle.reading.specs.declared.Reading.{Reading}
use Rattle.reading.specs.Readings.{window_days}
use Rattle.reading.specs.Search.{total, where_good, said_found}
use Rattle.emending.specs.declared.Emended.{Emended}
use Rattle.emending.specs.declared.Emended.TheVariants.{Fits, Are}
use Rattle.reading.specs.declared.SearchError.{SearchError}
use Rattle.emending.specs.Faults.{emendable, emendations}

-- how many emendations there are
unfoldable pub emend_total : Reading → ℕ → ℕ → ℕ
emend_total r first last = length (emendable r first (window_days first last))

-- "If some day fits, the answer is how many"; else what comes after
abbrev pub where_none_fits : ℕ → Answer Emended → Answer Emended
where_none_fits n a = by_test (eqb n 0)
  where
    by_test : Bool → Answer Emended
    by_test true = a
    by_test false = is (Fits n)

-- "Refusals as for a search, 12 and its total for emendations alone": the list has a place for each of their four numbers, or is too short
unfoldable pub emend_at : Reading → ℕ → ℕ → ℕ → Answer Emended
emend_at r first last room =
    where_good r first last
    (where_none_fits (total r first last)
    (guard-with (leb (4 * emend_total r first last) room) 12 (emend_total r first last) (is (Are (emend_total r first last)))))

-- what the list is filled with: nothing where a day fits
abbrev pub filled_with : Reading → ℕ → ℕ → Emended → List ℕ
filled_with r first last (Fits n) = []
filled_with r first last (Are n) = emendations r first (window_days first last)

-- what an emendation promises
pub record EmendsReading (r : Reading) (first last : ℕ) (old : List ℕ) (answer : Result Emended SearchError) (new : List ℕ) : Type 0 where
  pub answered : said_found answer ≡ emend_at r first last (length old)
  pub lent : new ≡ afterwards (emend_at r first last (length old)) (filled_with r first last) old
