-- A number too large for its type is "refused by its own reason in its own order": every answer is the same of a number and of the
-- number cut down. No proofs here: proofs/Paper.antt has each under its own name.
use Rattle.std.specs.Prelude.{ℕ, ◌≡◌, Bool, true, ℤ}
use Rattle.rule.specs.Reasons.{Answer, refused, guard}
use Rattle.dates.specs.Dates.{date_at, day_of_date}
use Rattle.moves.specs.Moves.{moved}
use Rattle.facts.specs.Facts.{solstice_year_at, year_facts_at, month_facts_at, quarter_at, term_at}
use Rattle.planets.specs.Planets.{conjunction_at, next_at, pair_at}
use Rattle.clerk.specs.Clerk.{start_at, walked}
use Rattle.yearbook.specs.Promise.{figures_at}
use Rattle.reading.specs.declared.Reading.{Reading}
use Rattle.reading.specs.Search.{where_good}
use Rattle.capped.specs.Capped.{capped, capped_move, capped_reading}

-- a test that tells the two apart nowhere, and holds of no number that was cut down
abbrev pub Settled : (ℕ → Bool) → Type 0
Settled b = (n : ℕ) → (b (capped n) ≡ b n) × (b n ≡ true → capped n ≡ n)

-- so whatever stands behind such a test is the same of both
abbrev pub BehindATest : Type 1
BehindATest =
    (A : Type 0) (b : ℕ → Bool) → Settled b → (k : ℕ) (f : ℕ → Answer A) (n : ℕ) →
    guard {A = A} (b (capped n)) k (f (capped n)) ≡ guard (b n) k (f n)

-- of each call
pub record CappedAlike : Type 0 where
  pub date : (d : ℕ) → date_at (capped d) ≡ date_at d
  pub day : (y k : ℕ) (l : Bool) (m : ℕ) → day_of_date (capped y) (capped k) l (capped m) ≡ day_of_date y k l m
  pub move : (y k : ℕ) (l : Bool) (m : ℕ) (n : ℤ) → moved (capped y) (capped k) l (capped m) n ≡ moved y k l m n
  pub far : (y k : ℕ) (l : Bool) (m : ℕ) (n : ℤ) → moved y k l m (capped_move n) ≡ moved y k l m n
  pub solstice : (y : ℕ) → solstice_year_at (capped y) ≡ solstice_year_at y
  pub year : (y : ℕ) → year_facts_at (capped y) ≡ year_facts_at y
  pub month : (n : ℕ) → month_facts_at (capped n) ≡ month_facts_at n
  pub quarter : (n q : ℕ) → quarter_at (capped n) (capped q) ≡ quarter_at n q
  pub term : (y k : ℕ) → term_at (capped y) (capped k) ≡ term_at y k
  pub planet : (p k : ℕ) → conjunction_at (capped p) k ≡ conjunction_at p k
  pub conjunction : (p k : ℕ) → conjunction_at (capped p) (capped k) ≡ conjunction_at p k
  pub next : (p d : ℕ) → next_at (capped p) (capped d) ≡ next_at p d
  pub pair : (p : ℕ) → pair_at (capped p) ≡ pair_at p
  pub start : (b : ℕ) → start_at (capped b) ≡ start_at b
  pub walk : (b k : ℕ) → walked (capped b) (capped k) ≡ walked b k
  pub figures : (first last : ℕ) → figures_at (capped first) (capped last) ≡ figures_at first last

-- of a search and of an emendation: nothing was cut down, or both are refused with one reason, whatever comes after the tests
pub data AlikeSearch (r : Reading) (first last : ℕ) : Type 1 where
  whole : capped_reading r ≡ r → capped first ≡ first → capped last ≡ last → AlikeSearch r first last
  both :
      (k : ℕ) → ((A : Type 0) (a : Answer A) → where_good (capped_reading r) (capped first) (capped last) a ≡ refused k) →
      ((A : Type 0) (a : Answer A) → where_good r first last a ≡ refused k) → AlikeSearch r first last

abbrev pub CappedSearch : Type 1
CappedSearch = (r : Reading) (first last : ℕ) → AlikeSearch r first last
