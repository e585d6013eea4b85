-- What the request and its issue say of the yearbook's figures, as statements. proofs/Paper.antt proves each under the same name in small letters.
-- Assumes nothing.
use Rattle.std.specs.Prelude.{Result, Ok, Err, ℕ, ◌+◌, ◌-◌, ◌≤◌, ◌<◌, ◌≡◌, ◌↔◌, ◌⊎◌, ◌≢◌, Bool, true, ◌&&◌, List, [], ◌∷◌, length, get_or}
use Rattle.rule.specs.Lists.{those}
use Rattle.rule.specs.Reasons.{within}
use Rattle.rule.specs.Rule.{month_of_day, big, pair_starts, leap, civil_year_of_month, civil_first_month, InCivilYear, eclipse}
use Rattle.rule.specs.declared.Reason.{Reason}
use Rattle.rule.specs.declared.Reason.TheVariants.{NoSuchYear, BadWindow}
use Rattle.yearbook.specs.declared.Figures.{Figures}
use Rattle.yearbook.specs.Figures.{months_that, days_that, small, leap_numbered, has_name}
use Rattle.yearbook.specs.Promise.{CountsFigures}

-- "any range of civil years within 1 to 41,039"
pub record GoodYears (first last : ℕ) : Type 0 where
  pub from-1 : 1 ≤ first
  pub in_order : first ≤ last
  pub to_the_end : last ≤ 41039

-- month n is of one of the civil years from first to last
abbrev pub in_years : ℕ → ℕ → ℕ → Bool
in_years first last n = within first last (civil_year_of_month n)

-- "Definitions count literally, over the list of the range's months and days": of all 507,600 months and of all 14,989,860 days those of these
-- civil years that pass a test, each tried by itself
abbrev pub months_of_years : (ℕ → Bool) → ℕ → ℕ → ℕ
months_of_years p first last = length (those (λ n. in_years first last n && p n) 0 507600)

abbrev pub days_of_years : (ℕ → Bool) → ℕ → ℕ → ℕ
days_of_years p first last = length (those (λ d. in_years first last (month_of_day d) && p d) 0 14989860)

-- the definition's months and days are these, whatever the test; and a month is one of them exactly where it is one of the months of one of
-- the years
pub record MonthsAndDaysOfTheYears : Type 0 where
  pub months : (p : ℕ → Bool) (first last : ℕ) → GoodYears first last → months_that p first last ≡ months_of_years p first last
  pub days : (p : ℕ → Bool) (first last : ℕ) → GoodYears first last → days_that p first last ≡ days_of_years p first last
  pub of-the-years :
      (first last n : ℕ) → GoodYears first last →
      (in_years first last n ≡ true) ↔ ((y : ℕ) × (first ≤ y) × (y ≤ last) × InCivilYear y n)

-- "how many big and small months, big pairs .., leap months by number (twelve counts), eclipse months, and days of each of the sixty names, all
-- exact": each figure is the count, over all months and all days
pub record AreFigures (first last : ℕ) (f : Figures) (leaps names : List ℕ) : Type 0 where
  pub big : f.big ≡ months_of_years big first last
  pub small : f.small ≡ months_of_years small first last
  pub pairs : f.pairs ≡ months_of_years pair_starts first last
  pub eclipses : f.eclipses ≡ months_of_years eclipse first last
  pub twelve : length leaps ≡ 12
  pub leap-number : (k : ℕ) → 1 ≤ k → k ≤ 12 → get_or leaps (k - 1) 0 ≡ months_of_years (leap_numbered k) first last
  pub sixty : length names ≡ 60
  pub day-name : (k : ℕ) → 1 ≤ k → k ≤ 60 → get_or names (k - 1) 0 ≡ days_of_years (has_name k) first last

-- figures are given exactly over a good range, and are these
abbrev pub FiguresCounted : Type 0
FiguresCounted =
    (first last : ℕ) (f : Figures) (leaps names leaps' names' : List ℕ) →
    CountsFigures first last leaps names (Ok f) leaps' names' ↔ (GoodYears first last × AreFigures first last f leaps' names')

-- a year outside 1 to 41,039
abbrev pub Outside : ℕ → Type 0
Outside y = (y < 1) ⊎ (41039 < y)

abbrev pub Inside : ℕ → Type 0
Inside y = (1 ≤ y) × (y ≤ 41039)

-- "Refusals: 1 for either end outside those, then 13 for a range turned round."
abbrev pub FiguresFault : ℕ → ℕ → Reason → Type 0
FiguresFault first last why =
    ((why ≡ NoSuchYear) × (Outside first ⊎ Outside last)) ⊎ ((why ≡ BadWindow) × Inside first × Inside last × (last < first))

-- a reason if and only if its row holds and no earlier one's does, both arrays as they were
abbrev pub ReasonsOfFigures : Type 0
ReasonsOfFigures =
    (first last : ℕ) (leaps names leaps' names' : List ℕ) (why : Reason) →
    CountsFigures first last leaps names (Err why) leaps' names' ↔ (FiguresFault first last why × (leaps' ≡ leaps) × (names' ≡ names))

-- "All lent memory stays as before the call" where it comes back
abbrev pub RefusalChangesNothing : Type 0
RefusalChangesNothing =
    (first last : ℕ) (leaps names leaps' names' : List ℕ) (why : Reason) →
    CountsFigures first last leaps names (Err why) leaps' names' → (leaps' ≡ leaps) × (names' ≡ names)

-- the counts of a list together
unfoldable pub sum_of : List ℕ → ℕ
sum_of [] = 0
sum_of (x ∷ xs) = x + sum_of xs

-- "big and small make up the months, the names make up the days, the leap months by number make up the leap months"
pub record MakeUp (first last : ℕ) (f : Figures) (leaps names : List ℕ) : Type 0 where
  pub months : f.big + f.small ≡ months_of_years (λ n. true) first last
  pub days : sum_of names ≡ days_of_years (λ d. true) first last
  pub leap-months : sum_of leaps ≡ months_of_years leap first last

abbrev pub FiguresMakeUp : Type 0
FiguresMakeUp =
    (first last : ℕ) (f : Figures) (leaps names leaps' names' : List ℕ) →
    CountsFigures first last leaps names (Ok f) leaps' names' → MakeUp first last f leaps' names'

-- figures of two ranges added: those of a third
pub record AddUp (f g whole : Figures) (leaps leaps' all-leaps names names' all-names : List ℕ) : Type 0 where
  pub big : f.big + g.big ≡ whole.big
  pub small : f.small + g.small ≡ whole.small
  pub pairs : f.pairs + g.pairs ≡ whole.pairs
  pub eclipses : f.eclipses + g.eclipses ≡ whole.eclipses
  pub leap-number : (i : ℕ) → get_or leaps i 0 + get_or leaps' i 0 ≡ get_or all-leaps i 0
  pub day-name : (i : ℕ) → get_or names i 0 + get_or names' i 0 ≡ get_or all-names i 0

-- "The figures for two ranges that meet are added to give those of the whole, with pairs across the join counted by the month that starts
-- them": the years from first to middle, from the one after it to last, and from first to last
abbrev pub TwoRangesMeet : Type 0
TwoRangesMeet =
    (first middle last : ℕ) (f g whole : Figures) (l l₁ n n₁ m m₁ o o₁ p p₁ q q₁ : List ℕ) →
    CountsFigures first middle l n (Ok f) l₁ n₁ → CountsFigures (middle + 1) last m o (Ok g) m₁ o₁ →
    CountsFigures first last p q (Ok whole) p₁ q₁ → AddUp f g whole l₁ m₁ p₁ n₁ o₁ q₁

-- a pair across the join behind civil year y: the last month of y starts it
abbrev pub pair_across : ℕ → Bool
pair_across y = pair_starts (civil_first_month (y + 1) - 1)

-- "the last month of 2,160 of the years 1 to 41,038 starts a pair across"
abbrev pub PairsAcrossTheJoin : Type 0
PairsAcrossTheJoin = length (those pair_across 1 41038) ≡ 2160

-- "A pair starting in the range's last month counts if the month after the range is big": one more than the pairs that start before that month
-- where it does, and as many where not
pub record AtTheEnd (first last : ℕ) (f : Figures) : Type 0 where
  pub counts : (big (civil_first_month (last + 1) - 1) ≡ true) → (big (civil_first_month (last + 1)) ≡ true) → pair_across last ≡ true
  pub with_it : pair_across last ≡ true → f.pairs ≡ length (those pair_starts (civil_first_month first) (civil_first_month (last + 1) - 1 - civil_first_month first)) + 1
  pub without-it : (pair_across last ≡ true → ⊥) → f.pairs ≡ length (those pair_starts (civil_first_month first) (civil_first_month (last + 1) - 1 - civil_first_month first))

abbrev pub PairInTheLastMonth : Type 0
PairInTheLastMonth =
    (first last : ℕ) (f : Figures) (leaps names leaps' names' : List ℕ) →
    CountsFigures first last leaps names (Ok f) leaps' names' → AtTheEnd first last f

-- "seventy-six years have 499 big, 441 small, 58 pairs and the leap months (3, 1, 3, 2, 3, 2, 2, 3, 2, 3, 1, 3) wherever they begin"
pub record OfSeventySix (f : Figures) (leaps : List ℕ) : Type 0 where
  pub big : f.big ≡ 499
  pub small : f.small ≡ 441
  pub pairs : f.pairs ≡ 58
  pub leap-number : leaps ≡ 3 ∷ 1 ∷ 3 ∷ 2 ∷ 3 ∷ 2 ∷ 2 ∷ 3 ∷ 2 ∷ 3 ∷ 1 ∷ 3 ∷ []

abbrev pub SeventySixYears : Type 0
SeventySixYears =
    (first : ℕ) (f : Figures) (leaps names leaps' names' : List ℕ) →
    CountsFigures first (first + 75) leaps names (Ok f) leaps' names' → OfSeventySix f leaps'

-- one answer and one state of both arrays for each input
abbrev pub UniqueFigures : Type 0
UniqueFigures =
    (first last : ℕ) (leaps names : List ℕ) (a b : Result Figures Reason) (l n m o : List ℕ) →
    CountsFigures first last leaps names a l n → CountsFigures first last leaps names b m o → (a ≡ b) × (l ≡ m) × (n ≡ o)

-- the four numbers of a range
abbrev pub four : ℕ → ℕ → ℕ → ℕ → Figures
four b s p e = record { big = b; small = s; pairs = p; eclipses = e }

-- whatever is promised over a range is this
abbrev pub Gives : ℕ → ℕ → Figures → List ℕ → Type 0
Gives first last f by_number =
    (leaps names leaps' names' : List ℕ) (a : Result Figures Reason) →
    CountsFigures first last leaps names a leaps' names' → (a ≡ Ok f) × (leaps' ≡ by_number)

-- figures worked out apart: "year 8 (7 big, 6 small, 1 pair, a leap 12, 3 eclipses), year 11 (7, 6, 1, a leap 9, 2), years 1 to 41,039 ..; years
-- 9,368 to 9,460: 196 eclipses"
pub record KnownFigures : Type 0 where
  pub year-8 : Gives 8 8 (four 7 6 1 3) (0 ∷ 0 ∷ 0 ∷ 0 ∷ 0 ∷ 0 ∷ 0 ∷ 0 ∷ 0 ∷ 0 ∷ 0 ∷ 1 ∷ [])
  pub year-11 : Gives 11 11 (four 7 6 1 2) (0 ∷ 0 ∷ 0 ∷ 0 ∷ 0 ∷ 0 ∷ 0 ∷ 0 ∷ 1 ∷ 0 ∷ 0 ∷ 0 ∷ [])
  pub all-years :
      Gives 1 41039 (four 269453 238134 31319 86478)
      (1620 ∷ 540 ∷ 1620 ∷ 1080 ∷ 1620 ∷ 1080 ∷ 1080 ∷ 1620 ∷ 1080 ∷ 1619 ∷ 540 ∷ 1620 ∷ [])
  pub eclipses-of-004 :
      (a : Result Figures Reason) (leaps names leaps' names' : List ℕ) → CountsFigures 9368 9460 leaps names a leaps' names' →
      (f : Figures) × (a ≡ Ok f) × (f.eclipses ≡ 196)

-- wrong versions, each shut out at a named input: one that refuses all; the pair that the last month of year 47 starts, lost; the same counted
-- again with year 48; the months of solstice year 8 for those of civil year 8, which has the leap 12; the day names of year 7 for those of year
-- 8, of which the 19th has seven days; the names a place on; big and small exchanged; the leap month a place on; the first year alone; arrays left as they were, or
-- filled though the query comes back; year 0 and year 41,040 let in; 13 before 1
pub record WrongFigures : Type 0 where
  pub refusing-all : (why : Reason) (l n l' n' : List ℕ) → CountsFigures 8 8 l n (Err why) l' n' → ⊥
  pub pair-across-lost : (b s e : ℕ) (l n l' n' : List ℕ) → CountsFigures 47 47 l n (Ok (four b s 0 e)) l' n' → ⊥
  pub pair-across-twice : (b s e : ℕ) (l n l' n' : List ℕ) → CountsFigures 48 48 l n (Ok (four b s 1 e)) l' n' → ⊥
  pub pair-across-twice-in-whole : (b s e : ℕ) (l n l' n' : List ℕ) → CountsFigures 47 48 l n (Ok (four b s 2 e)) l' n' → ⊥
  pub solstice-months : (l n l' n' : List ℕ) → CountsFigures 8 8 l n (Ok (four 7 5 1 2)) l' n' → ⊥
  pub solstice-leaps :
      (a : Result Figures Reason) (l n n' : List ℕ) →
      CountsFigures 8 8 l n a (0 ∷ 0 ∷ 0 ∷ 0 ∷ 0 ∷ 0 ∷ 0 ∷ 0 ∷ 0 ∷ 0 ∷ 0 ∷ 0 ∷ []) n' → ⊥
  pub names-of-the-year-before : (a : Result Figures Reason) (l n l' n' : List ℕ) → get_or n' 18 0 ≡ 5 → CountsFigures 8 8 l n a l' n' → ⊥
  pub names-a-place-on : (a : Result Figures Reason) (l n l' n' : List ℕ) → get_or n' 18 0 ≡ 6 → CountsFigures 8 8 l n a l' n' → ⊥
  pub exchanged : (p e : ℕ) (l n l' n' : List ℕ) → CountsFigures 8 8 l n (Ok (four 6 7 p e)) l' n' → ⊥
  pub leap-a-place-on :
      (a : Result Figures Reason) (l n n' : List ℕ) →
      CountsFigures 8 8 l n a (1 ∷ 0 ∷ 0 ∷ 0 ∷ 0 ∷ 0 ∷ 0 ∷ 0 ∷ 0 ∷ 0 ∷ 0 ∷ 0 ∷ []) n' → ⊥
  pub first-year-alone : (p e : ℕ) (l n l' n' : List ℕ) → CountsFigures 47 48 l n (Ok (four 6 6 p e)) l' n' → ⊥
  pub left-as-it-was : (a : Result Figures Reason) (l n l' : List ℕ) → get_or n 18 0 ≡ 0 → CountsFigures 8 8 l n a l' n → ⊥
  pub leaps-left-as-they-were : (a : Result Figures Reason) (l n n' : List ℕ) → get_or l 11 0 ≢ 1 → CountsFigures 8 8 l n a l n' → ⊥
  pub filled-though-refused : (a : Result Figures Reason) (l n l' n' : List ℕ) → get_or l 0 0 ≢ get_or l' 0 0 → CountsFigures 9 8 l n a l' n' → ⊥
  pub names-though-refused : (a : Result Figures Reason) (l n l' n' : List ℕ) → get_or n 0 0 ≢ get_or n' 0 0 → CountsFigures 0 8 l n a l' n' → ⊥
  pub year-0-let-in : (f : Figures) (l n l' n' : List ℕ) → CountsFigures 0 8 l n (Ok f) l' n' → ⊥
  pub year-41040-let-in : (f : Figures) (l n l' n' : List ℕ) → CountsFigures 8 41040 l n (Ok f) l' n' → ⊥
  pub turned-round-first : (l n l' n' : List ℕ) → CountsFigures 8 0 l n (Err BadWindow) l' n' → ⊥
