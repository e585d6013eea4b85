-- The statements of specs/Paper, proved, each under its own name. Assumes nothing.
use Prim.Native.Nat.{ℕ, suc, ◌+◌, ◌-◌, ◌≤◌, ◌<◌}
use native.Mathlib.Omega.{arith}
use native.Mathlib.Decide.{dec_le}
use mathlib.Core.Path.{◌≡◌, refl, ap, ap₂, sym, ◌∙◌}
use mathlib.Core.Bool.{Bool, true, false, ◌&&◌, and-eq-true_iff}
use lib.Dec.{leb}
use lib.IntN.{ℤ, pos, negsuc, ◌+ℤ◌}
use borrow.Author.Tests.{lt-leb}
use Rattle.rule.specs.Reasons.{Answer, is, refused, refused-with, guard, guard-with, within, and_then}
use Rattle.rule.proofs.Answers.{within-true}
use Rattle.dates.specs.declared.Date.{Date}
use Rattle.dates.specs.Dates.{date_at, date_of, day_of_date, day_of_named, number_there, mid_term_of}
use Rattle.moves.specs.Moves.{landed, moved, stepped}
use Rattle.rule.specs.declared.Quarter.{Quarter}
use Rattle.rule.specs.declared.Term.{Term}
use Rattle.facts.specs.declared.SolsticeYear.{SolsticeYear}
use Rattle.facts.specs.declared.YearFacts.{YearFacts}
use Rattle.facts.specs.declared.MonthFacts.{MonthFacts}
use Rattle.dates.proofs.Laws.{found-date}
use Rattle.moves.proofs.Landing.{lands-out, back-out, moved-refused, moved-refused-with, moved-found}
use Rattle.facts.specs.Facts.{solstice_year, year_facts, month_facts, quarter_of, term_of, solstice_year_at, year_facts_at, month_facts_at, quarter_at, term_at}
use Rattle.planets.specs.declared.Numbers.{Numbers}
use Rattle.planets.specs.declared.Conjunction.{Conjunction}
use Rattle.planets.specs.declared.Next.{Next}
use Rattle.planets.specs.declared.Pair.{Pair}
use Rattle.planets.specs.Planets.{numbers_of, conjunction_day, conjunction_of, conjunction_at, next_count, next_of, next_at, pair_of, pair_at}
use Rattle.planets.specs.Paper.{Good}
use Rattle.planets.proofs.Moments.{count-first}
use Rattle.planets.proofs.Paper.{good-planets}
use Rattle.clerk.specs.declared.Clerk.{Clerk}
use Rattle.clerk.specs.Clerk.{head, start_at, walked}
use Rattle.clerk.specs.Paper.{count_of}
use Rattle.clerk.proofs.Steps.{clerk_at}
use Rattle.clerk.proofs.Gone.{walk-closed}
use Rattle.reading.specs.declared.Field.{Field}
use Rattle.reading.specs.declared.Field.TheVariants.{Known, Unread}
use Rattle.reading.specs.declared.Reading.{Reading}
use Rattle.reading.specs.Readings.{field_in_range, in_ranges, window_holds}
use Rattle.reading.specs.Search.{total, where_good, search_at}
use Rattle.yearbook.specs.declared.Figures.{Figures}
use Rattle.yearbook.specs.Figures.{figures_of}
use Rattle.yearbook.specs.Promise.{figures_at}
use Rattle.yearbook.proofs.Rows.{given}
use Rattle.capped.specs.Capped.{capped, capped_move, capped_field, capped_reading}
use Rattle.capped.specs.Paper.{Settled, BehindATest, CappedAlike, AlikeSearch, whole, both, CappedSearch}

-- a number that is not cut down, and one that is
cut : (n : ℕ) → 4294967295 ≤ n → capped n ≡ 4294967295
cut n h = omega arith

uncut : (n : ℕ) → n ≤ 4294967295 → capped n ≡ n
uncut n h = omega arith

pub behind-a-test : BehindATest
behind-a-test A b s k f n = go (b n) refl
  where
    go : (t : Bool) → b n ≡ t → guard {A = A} (b (capped n)) k (f (capped n)) ≡ guard (b n) k (f n)
    go true h = rw ((s n).0, h) (ap f ((s n).1 h))
    go false h = rw ((s n).0, h) refl

-- what such a test says of a number that was cut down
none-behind : (b : ℕ → Bool) → ((n : ℕ) → 4294967295 ≤ n → b n ≡ false) → Settled b
none-behind b out n = go (dec_le n 4294967294)
  where
    go : Dec (n ≤ 4294967294) → (b (capped n) ≡ b n) × (b n ≡ true → capped n ≡ n)
    go (yes h) = (ap b (uncut n (omega arith)), λ e. uncut n (omega arith))
    go (no g) = (
      ap b (cut n (omega (arith, g))) ∙ out 4294967295 (omega arith) ∙ sym (out n (omega (arith, g))),
      λ e. absurd (let f : true ≡ false = sym e ∙ out n (omega (arith, g)) in let o : ◌≡◌ {A = ℕ} 0 1 = cc in omega arith),
    )

and-false : (a b : Bool) → b ≡ false → (a && b) ≡ false
and-false true b e = e
and-false false b e = refl

-- "at most m" is such a test, and "1 to m"
pub at_most : (m : ℕ) → m < 4294967295 → Settled (λ n. leb n m)
at_most m s = none-behind (λ n. leb n m) (λ n h. lt-leb n m (omega arith))

from_one : (m : ℕ) → m < 4294967295 → Settled (within 1 m)
from_one m s = none-behind (within 1 m) (λ n h. and-false (leb 1 n) (leb n m) (lt-leb n m (omega arith)))

-- two tests, one behind the other
two :
    (A : Type 0) (b d : ℕ → Bool) → Settled b → Settled d → (k j : ℕ) (f : ℕ → ℕ → Answer A) (n m : ℕ) →
    guard {A = A} (b (capped n)) k (guard (d (capped m)) j (f (capped n) (capped m))) ≡ guard (b n) k (guard (d m) j (f n m))
two A b d s t k j f n m =
    behind-a-test A b s k (λ i. guard (d (capped m)) j (f i (capped m))) n
    ∙ ap (guard (b n) k) (behind-a-test A d t j (f n) m)

month-settled : Settled (λ n. leb n 507599)
month-settled = at_most 507599 (omega arith)

year-settled : Settled (λ n. leb n 41040)
year-settled = at_most 41040 (omega arith)

solstice-year-settled : Settled (within 1 41040)
solstice-year-settled = from_one 41040 (omega arith)

day-capped : (y k : ℕ) (l : Bool) (m : ℕ) → day_of_date (capped y) (capped k) l (capped m) ≡ day_of_date y k l m
unfolding day_of_date
day-capped y k l m =
    two ℕ (λ n. leb n 41040) (within 1 12) year-settled (from_one 12 (omega arith)) 1 2
    (λ i j. guard (within 1 30 (capped m)) 3 (guard (number_there i j) 16 (day_of_named (mid_term_of i j) l (capped m)))) y k
    ∙ ap (λ (a : Answer ℕ). guard (leb y 41040) 1 (guard (within 1 12 k) 2 a))
    (behind-a-test ℕ (within 1 30) (from_one 30 (omega arith)) 3 (λ n. guard (number_there y k) 16 (day_of_named (mid_term_of y k) l n)) m)

-- a move so far lands nowhere, from any day in range
far-lands : (d : ℕ) (n : ℤ) → d ≤ 14989859 → landed (pos d +ℤ capped_move n) ≡ landed (pos d +ℤ n)
unfolding stepped
far-lands d (pos n) h = go (dec_le n 4294967295)
  where
    go : Dec (n ≤ 4294967295) → landed (pos (d + capped n)) ≡ landed (pos (d + n))
    go (yes s) = ap (λ (i : ℕ). landed (pos (d + i))) (uncut n s)
    go (no g) =
        ap (λ (i : ℕ). landed (pos (d + i))) (cut n (omega (arith, g)))
        ∙ lands-out (d + 4294967295) (omega arith)
        ∙ sym (lands-out (d + n) (omega (arith, g)))
far-lands d (negsuc n) h = go (dec_le (suc n) 4294967295)
  where
    go : Dec (suc n ≤ 4294967295) → landed (pos d +ℤ negsuc (capped (suc n) - 1)) ≡ landed (pos d +ℤ negsuc n)
    go (yes s) =
        ap (λ (i : ℕ). landed (pos d +ℤ negsuc (i - 1))) (uncut (suc n) s)
        ∙ ap (λ (i : ℕ). landed (pos d +ℤ negsuc i)) {x = suc n - 1} {y = n} (omega arith)
    go (no g) =
        ap (λ (i : ℕ). landed (pos d +ℤ negsuc (i - 1))) (cut (suc n) (omega (arith, g)))
        ∙ back-out d 4294967294 (omega arith)
        ∙ sym (back-out d n (omega (arith, g)))

far-capped : (y k : ℕ) (l : Bool) (m : ℕ) (n : ℤ) → moved y k l m (capped_move n) ≡ moved y k l m n
far-capped y k l m n = go (day_of_date y k l m) refl
  where
    go : (a : Answer ℕ) → day_of_date y k l m ≡ a → moved y k l m (capped_move n) ≡ moved y k l m n
    go (is d) e =
        moved-found y k l m (capped_move n) d e ∙ far-lands d n (found-date y k l m d e).0 ∙ sym (moved-found y k l m n d e)
    go (refused r) e = moved-refused y k l m (capped_move n) r e ∙ sym (moved-refused y k l m n r e)
    go (refused-with r i) e = moved-refused-with y k l m (capped_move n) r i e ∙ sym (moved-refused-with y k l m n r i e)

move-capped : (y k : ℕ) (l : Bool) (m : ℕ) (n : ℤ) → moved (capped y) (capped k) l (capped m) n ≡ moved y k l m n
unfolding moved
move-capped y k l m n = ap (λ (a : Answer ℕ). and_then a (λ d. landed (pos d +ℤ n))) (day-capped y k l m)

-- a conjunction's day is never before its count, so that no count that was cut down has its conjunction in range
count-settled : (n : Numbers) → Good n → Settled (λ k. leb (conjunction_day n k) 14989859)
count-settled n g =
    none-behind (λ k. leb (conjunction_day n k) 14989859)
    (λ k h. lt-leb (conjunction_day n k) 14989859 (omega (arith, count-first n g k)))

planet-capped : (p k : ℕ) → conjunction_at (capped p) k ≡ conjunction_at p k
unfolding conjunction_at
planet-capped p k =
    behind-a-test Conjunction (within 1 5) (from_one 5 (omega arith)) 19
    (λ i. guard (leb (conjunction_day (numbers_of i) k) 14989859) 6 (is (conjunction_of (numbers_of i) k))) p

count-capped : (p k : ℕ) → conjunction_at p (capped k) ≡ conjunction_at p k
unfolding conjunction_at
count-capped p k = go (within 1 5 p) refl
  where
    at : ℕ → Answer Conjunction
    at j = guard (leb (conjunction_day (numbers_of p) j) 14989859) 6 (is (conjunction_of (numbers_of p) j))

    go : (t : Bool) → within 1 5 p ≡ t → guard t 19 (at (capped k)) ≡ guard t 19 (at k)
    go true e =
        behind-a-test Conjunction (λ i. leb (conjunction_day (numbers_of p) i) 14989859)
        (count-settled (numbers_of p) (good-planets p ((within-true 1 5 p).0 e))) 6 (λ i. is (conjunction_of (numbers_of p) i)) k
    go false e = refl

pair-capped : (p : ℕ) → pair_at (capped p) ≡ pair_at p
unfolding pair_at
pair-capped p = behind-a-test Pair (within 1 5) (from_one 5 (omega arith)) 19 (λ i. is (pair_of (numbers_of i))) p

next-capped : (p d : ℕ) → next_at (capped p) (capped d) ≡ next_at p d
unfolding next_at
next-capped p d =
    two Next (within 1 5) (λ i. leb i 14989859) (from_one 5 (omega arith)) (at_most 14989859 (omega arith)) 19 6
    (λ i j.
    guard (leb (conjunction_day (numbers_of i) (next_count (numbers_of i) j)) 14989859) 20 (is (next_of (numbers_of i) (next_count (numbers_of i) j))))
    p d

-- of so many steps that were cut down none stays in range
walk-capped : (b k : ℕ) → walked (capped b) (capped k) ≡ walked b k
walk-capped b k =
    walk-closed (capped b) (capped k)
    ∙ behind-a-test Clerk (within 1 540) (from_one 540 (omega arith)) 21 (λ i. at i (capped k)) b
    ∙ ap (guard (within 1 540 b) 21) (behind-a-test Clerk (λ j. leb (count_of b j) 507599) (steps-settled b) 7 (λ j. is (clerk_at (count_of b j))) k)
    ∙ sym (walk-closed b k)
  where
    at : ℕ → ℕ → Answer Clerk
    at i j = guard (leb (count_of i j) 507599) 7 (is (clerk_at (count_of i j)))

    steps-settled : (c : ℕ) → Settled (λ j. leb (count_of c j) 507599)
    steps-settled c = none-behind (λ j. leb (count_of c j) 507599) (λ j h. lt-leb (count_of c j) 507599 (omega arith))

-- one guard for two tests
one-guard : {A : Type 0} (b c : Bool) (k : ℕ) (a : Answer A) → guard (b && c) k a ≡ guard b k (guard c k a)
one-guard true c k a = refl
one-guard false c k a = refl

figures-capped : (first last : ℕ) → figures_at (capped first) (capped last) ≡ figures_at first last
unfolding figures_at
figures-capped first last =
    one-guard (within 1 41039 (capped first)) (within 1 41039 (capped last)) 1
    (guard (leb (capped first) (capped last)) 13 (is (figures_of (capped first) (capped last))))
    ∙ two Figures (within 1 41039) (within 1 41039) (from_one 41039 (omega arith)) (from_one 41039 (omega arith)) 1 1
    (λ i j. guard (leb i j) 13 (is (figures_of i j))) first last
    ∙ sym (one-guard (within 1 41039 first) (within 1 41039 last) 1 (guard (leb first last) 13 (is (figures_of first last))))

-- years that have figures were not cut down
pub given-whole : (first last : ℕ) (f : Figures) → figures_at first last ≡ is f → (capped first ≡ first) × (capped last ≡ last)
given-whole first last f e =
    let g = (given first last f (sym e)).0 in
    (uncut first (omega (arith, g.in_order, g.to_the_end)), uncut last (omega (arith, g.to_the_end)))

pub capped-alike : CappedAlike
unfolding date_at solstice_year_at year_facts_at month_facts_at quarter_at term_at start_at
capped-alike =
    record {
      date = λ d. behind-a-test Date (λ n. leb n 14989859) (at_most 14989859 (omega arith)) 6 (λ n. is (date_of n)) d;
      day = day-capped;
      move = move-capped;
      far = far-capped;
      solstice = λ y. behind-a-test SolsticeYear (within 1 41040) solstice-year-settled 1 (λ n. is (solstice_year n)) y;
      year = λ y. behind-a-test YearFacts (λ i. leb i 41040) year-settled 1 (λ n. is (year_facts n)) y;
      month = λ n. behind-a-test MonthFacts (λ i. leb i 507599) month-settled 7 (λ i. is (month_facts i)) n;
      quarter = λ n q. two Quarter (λ i. leb i 507599) (λ i. leb i 3) month-settled (at_most 3 (omega arith)) 7 15 (λ i j. is (quarter_of i j)) n q;
      term = λ y k. two Term (within 1 41040) (λ i. leb i 23) solstice-year-settled (at_most 23 (omega arith)) 1 15 (λ i j. is (term_of i j)) y k;
      planet = planet-capped;
      conjunction = λ p k. planet-capped p (capped k) ∙ count-capped p k;
      next = next-capped;
      pair = pair-capped;
      start = λ b. behind-a-test Clerk (within 1 540) (from_one 540 (omega arith)) 21 (λ i. is (head i)) b;
      walk = walk-capped;
      figures = figures-capped;
    }

-- a field, and a reading
field-settled :
    (f : Field) (m : ℕ) → m < 4294967295 →
    (field_in_range (capped_field f) m ≡ field_in_range f m) × (field_in_range f m ≡ true → capped_field f ≡ f)
field-settled (Known n) m s = ((from_one m s n).0, λ e. ap Known ((from_one m s n).1 e))
field-settled Unread m s = (refl, λ e. refl)

module _ (r : Reading) where
  ranges-same : in_ranges (capped_reading r) ≡ in_ranges r
  unfolding in_ranges
  ranges-same =
      rw (
        (field-settled r.year_name 60 (omega arith)).0,
        (field-settled r.month_number 12 (omega arith)).0,
        (field-settled r.leap_mark 2 (omega arith)).0,
        (field-settled r.day_of_month 30 (omega arith)).0,
        (field-settled r.day_name 60 (omega arith)).0,
        (field-settled r.first_name 60 (omega arith)).0,
      )
      refl

  -- six tests that all hold
  six : (a b c d e f : Bool) → (a && b && c && d && e && f) ≡ true → (a ≡ true) × (b ≡ true) × (c ≡ true) × (d ≡ true) × (e ≡ true) × (f ≡ true)
  six a b c d e f h =
      let g : ((a && b && c && d && e) ≡ true) × (f ≡ true) = (and-eq-true_iff (a && b && c && d && e) f).0 h in
      let i : ((a && b && c && d) ≡ true) × (e ≡ true) = (and-eq-true_iff (a && b && c && d) e).0 g.0 in
      let j : ((a && b && c) ≡ true) × (d ≡ true) = (and-eq-true_iff (a && b && c) d).0 i.0 in
      let k : ((a && b) ≡ true) × (c ≡ true) = (and-eq-true_iff (a && b) c).0 j.0 in
      let l : (a ≡ true) × (b ≡ true) = (and-eq-true_iff a b).0 k.0 in
      (l.0, l.1, k.1, j.1, i.1, g.1)

  reading-same : in_ranges r ≡ true → capped_reading r ≡ r
  unfolding in_ranges
  reading-same h =
      let t = six (field_in_range r.year_name 60) (field_in_range r.month_number 12) (field_in_range r.leap_mark 2)
      (field_in_range r.day_of_month 30) (field_in_range r.day_name 60) (field_in_range r.first_name 60) h in
      rw (
        (field-settled r.year_name 60 (omega arith)).1 t.0,
        (field-settled r.month_number 12 (omega arith)).1 t.1,
        (field-settled r.leap_mark 2 (omega arith)).1 t.2,
        (field-settled r.day_of_month 30 (omega arith)).1 t.3,
        (field-settled r.day_name 60 (omega arith)).1 t.4,
        (field-settled r.first_name 60 (omega arith)).1 t.5,
      )
      refl

-- tests from first to last that fail with each of their reasons
module _ (first last : ℕ) where
  abbrev ends : Bool
  ends = leb first 14989859 && leb last 14989859

  six-said : (s : Reading) (A : Type 0) (a : Answer A) → ends ≡ false → where_good s first last a ≡ refused 6
  six-said s A a e = rw (e) refl

  thirteen-said :
      (s : Reading) (A : Type 0) (a : Answer A) → ends ≡ true → window_holds first last ≡ false → where_good s first last a ≡ refused 13
  thirteen-said s A a e w = rw (e, w) refl

  fourteen-said :
      (s : Reading) (A : Type 0) (a : Answer A) → ends ≡ true → window_holds first last ≡ true → in_ranges s ≡ false →
      where_good s first last a ≡ refused 14
  fourteen-said s A a e w h = rw (e, w, h) refl

pub capped-search : CappedSearch
capped-search r first last = at-ends (ends first last) refl
  where
    end : Settled (λ n. leb n 14989859)
    end = at_most 14989859 (omega arith)

    ends_same : ends (capped first) (capped last) ≡ ends first last
    ends_same = ap₂ (λ (a b : Bool). a && b) (end first).0 (end last).0

    whole-ends :
        capped first ≡ first → capped last ≡ last → (k : ℕ) →
        ((s : Reading) (A : Type 0) (a : Answer A) → in_ranges s ≡ in_ranges r → where_good s first last a ≡ refused k) → AlikeSearch r first last
    whole-ends a b k h =
        both k
        (λ A x. ap₂ (λ (i j : ℕ). where_good (capped_reading r) i j x) a b ∙ h (capped_reading r) A x (ranges-same r))
        (λ A x. h r A x refl)

    at-ranges :
        capped first ≡ first → capped last ≡ last → ends first last ≡ true → window_holds first last ≡ true →
        (t : Bool) → in_ranges r ≡ t → AlikeSearch r first last
    at-ranges a b e w true h = whole (reading-same r h) a b
    at-ranges a b e w false h = whole-ends a b 14 (λ s A x i. fourteen-said first last s A x e w (i ∙ h))

    at-window :
        capped first ≡ first → capped last ≡ last → ends first last ≡ true → (t : Bool) → window_holds first last ≡ t →
        AlikeSearch r first last
    at-window a b e true w = at-ranges a b e w (in_ranges r) refl
    at-window a b e false w = whole-ends a b 13 (λ s A x i. thirteen-said first last s A x e w)

    at-ends : (t : Bool) → ends first last ≡ t → AlikeSearch r first last
    at-ends true e =
        let t : (leb first 14989859 ≡ true) × (leb last 14989859 ≡ true) = (and-eq-true_iff (leb first 14989859) (leb last 14989859)).0 e in
        at-window ((end first).1 t.0) ((end last).1 t.1) e (window_holds first last) refl
    at-ends false e =
        both 6 (λ A x. six-said (capped first) (capped last) (capped_reading r) A x (ends_same ∙ e)) (λ A x. six-said first last r A x e)

-- a search whose tests fail, whatever list is lent
pub search-refused :
    (r : Reading) (first last k : ℕ) → ((A : Type 0) (a : Answer A) → where_good r first last a ≡ refused k) → (room : ℕ) →
    search_at r first last room ≡ refused k
unfolding search_at
search-refused r first last k h room = h ℕ (guard-with (leb (total r first last) room) 12 (total r first last) (is (total r first last)))
