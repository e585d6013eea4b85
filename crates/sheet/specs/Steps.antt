-- What the inner functions ask and give: sections at the front of more, a whole item tested, filling lists from sections that are good,
-- laying lists that are good. Assumes nothing.
use Rattle.rule.specs.Reasons.{said}
use Rattle.rule.specs.declared.Reason.{Reason}
use Rattle.std.specs.Prelude.{Result, ℕ, ◌+◌, ◌*◌, ◌≤◌, ◌≡◌, List, [], ◌∷◌}
use Rattle.std.proofs.lemmas.List.Edits.{sets}
use Rattle.rule.specs.Reasons.{Answer, is, guard, and_then}
use Rattle.octets.specs.Bytes.{number}
use Rattle.sheet.specs.declared.Counted.{Counted}
use Rattle.sheet.specs.Sheet.{Section, count_read, section_read, left_after, ListsFor, sheet_sections, lists_in}
use Rattle.sheet.specs.Faults.{GoodSection, HasRoom}
use Rattle.sheet.specs.Promises.{counts_in}

-- the count of any section that has so many items at most, at the front of s
abbrev pub CountRead : ℕ → List ℕ → Result ℕ Reason → Type 0
CountRead most s r = (k : Section) → k.items ≡ most → said r ≡ count_read k s

-- a whole item at the front of s: its own reason where it is not good
abbrev pub item_tested : Section → List ℕ → Answer (Unit {0})
item_tested k s = guard (k.good (number k.width s)) (k.reason (number k.width s)) (is tt)

-- reading sections in order, whatever comes after them; what comes after them; and that they are good
unfoldable pub front_read : (ks : List Section) → List ℕ → Answer (ListsFor ks)
front_read [] s = is tt
front_read (k ∷ ks) s = and_then (section_read k s) (λ xs. and_then (front_read ks (left_after k s)) (λ l. is (xs, l)))

unfoldable pub left_over : List Section → List ℕ → List ℕ
left_over [] s = s
left_over (k ∷ ks) s = left_over ks (left_after k s)

unfoldable pub GoodFront : List Section → List ℕ → Type 0
GoodFront [] s = Unit {0}
GoodFront (k ∷ ks) s = GoodSection k s × GoodFront ks (left_after k s)

-- how many bytes the three sections have, by their counts
abbrev pub bytes_of : Counted → ℕ
bytes_of c = 6 + 2 * c.years + 4 * c.months + 4 * c.days

-- three counts that a sheet may have
pub record FewOf (c : Counted) : Type 0 where
  pub years : c.years ≤ 1000
  pub months : c.months ≤ 1000
  pub days : c.days ≤ 1000

-- the three sections at the front of s are good, with room in lists of y, m and d places, and c are their counts
pub record ToFill (s : List ℕ) (y m d : ℕ) (c : Counted) : Type 0 where
  pub counts : c ≡ counts_in s
  pub good : GoodFront sheet_sections s × HasRoom (lists_in s) y m d

-- the lists that held y, m and d, with the sheet's items stored from the front
pub record Filled (s y m d y' m' d' : List ℕ) : Type 0 where
  pub years : y' ≡ sets y 0 (lists_in s).years
  pub months : m' ≡ sets m 0 (lists_in s).months
  pub days : d' ≡ sets d 0 (lists_in s).days

-- three lists of y, m and d items that a sheet may have, and a buffer of n bytes with room for their sheet
pub record ToLay (y m d n : ℕ) : Type 0 where
  pub years : y ≤ 1000
  pub months : m ≤ 1000
  pub days : d ≤ 1000
  pub room : 6 + 2 * y + 4 * m + 4 * d ≤ n
