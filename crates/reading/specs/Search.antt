-- What a search answers, and what the lent list holds after it, for every input; the tests that it begins with, which an emendation has too.
-- Assumes nothing.
use Rattle.std.specs.Prelude.{Result, Ok, Err, codes, ℕ, ◌≡◌, ◌++◌, ◌&&◌, List, leb, length}
use Rattle.rule.specs.Reasons.{Answer, is, refused, refused-with, guard, reason_number, guard-with, afterwards}
use Rattle.std.specs.Fmt.{decimal}
use Rattle.rule.specs.Words.{words_of}
use Rattle.rule.specs.declared.Reason.TheVariants.{LentTooShort}
use Rattle.reading.specs.declared.Reading.{Reading}
use Rattle.reading.specs.declared.SearchError.{SearchError}
use Rattle.reading.specs.declared.SearchError.TheVariants.{Refused, TooShort}
use Rattle.reading.specs.Readings.{in_ranges, window_days, window_holds, fitting}

-- the total is the number of fitting days
unfoldable pub total : Reading → ℕ → ℕ → ℕ
total r first last = length (fitting r first (window_days first last))

-- "6 for either end, 13, 14 in field order": what comes after these tests
abbrev pub where_good : {A : Type 0} → Reading → ℕ → ℕ → Answer A → Answer A
where_good r first last a = guard (leb first 14989859 && leb last 14989859) 6 (guard (window_holds first last) 13 (guard (in_ranges r) 14 a))

-- "Search: 6 for either end, 13, 14 in field order, 12."
unfoldable pub search_at : Reading → ℕ → ℕ → ℕ → Answer ℕ
search_at r first last room =
    where_good r first last (guard-with (leb (total r first last) room) 12 (total r first last) (is (total r first last)))

-- what a search or an emendation says back by its result
abbrev pub said_found : {A : Type 0} → Result A SearchError → Answer A
said_found (Ok a) = is a
said_found (Err (TooShort n)) = refused-with 12 n
said_found (Err (Refused why)) = refused (reason_number why)

-- what an error shows
abbrev pub search_words : SearchError → List ℕ
search_words (Refused why) = words_of why
search_words (TooShort n) = words_of LentTooShort ++ codes ": " ++ decimal n ++ codes " days fit"

-- what a search promises
pub record Searched (r : Reading) (first last : ℕ) (old : List ℕ) (answer : Result ℕ SearchError) (new : List ℕ) : Type 0 where
  pub answered : said_found answer ≡ search_at r first last (length old)
  pub lent : new ≡ afterwards (search_at r first last (length old)) (λ n. fitting r first (window_days first last)) old
