-- The statements of specs/Paper, proved, each under its own name. Assumes nothing.
use Rattle.emending.specs.declared.Emended.{Emended}
use Rattle.emending.specs.declared.Emended.TheVariants.{Fits, Are}
use Rattle.std.specs.Prelude.{Option, Some, None, Ok}
use Prim.Native.Nat.{ℕ, ◌+◌, ◌-◌, ◌*◌}
use native.Mathlib.Omega.{arith}
use mathlib.Core.Path.{◌≡◌, refl, ap, ap₂, sym, subst, ◌∙◌}
use mathlib.Core.Bool.{Bool}
use mathlib.Core.List.{List, [], ◌∷◌, ◌++◌, append_assoc}
use lib.Dec.{leb}
use borrow.Author.Tests.{ne_eqb}
use lib.IntN.{ℤ, pos, negsuc, ◌+ℤ◌}
use Rattle.rule.specs.Counts.{DayInRange}
use Rattle.rule.specs.Rule.{month_start, month_length, month_of_day}
use Rattle.rule.specs.Reasons.{Answer, is, refused, refused-with, guard, within, and_then}
use Rattle.rule.specs.declared.Reason.TheVariants.{MoveOutOfRange}
use Rattle.rule.proofs.Answers.{at_most, within-true, passes, holds-all, given-not}
use Rattle.rule.proofs.Leap.{number_at, mark-at}
use Rattle.dates.specs.declared.Date.{Date}
use Rattle.dates.specs.Dates.{date_in, date_of, date_at, is_there, month_asked, day_in_month, day_of_named, day_of_date, number_there, mid_term_of}
use Rattle.dates.proofs.Days.{a-day}
use Rattle.dates.proofs.Laws.{day-is, back-to-day}
use Rattle.moves.specs.Moves.{landed, moved}
use Rattle.moves.proofs.Paper as Moves
use Rattle.facts.specs.declared.LeapMonth.{LeapMonth}
use Rattle.facts.specs.Facts.{
  solstice_year,
  solstice_year_at,
  year_facts,
  year_facts_at,
  month_facts,
  month_facts_at,
  quarter_of,
  quarter_at,
  term_of,
  term_at,
}
use Rattle.facts.proofs.Given as Given
use Rattle.facts.proofs.Exactly.{leap-there}
use Rattle.planets.specs.Planets.{Planet, numbers_of, conjunction_day, phase, conjunction_of, conjunction_at, next_count, next_of, next_at, pair_of, pair_at}
use Rattle.planets.specs.Paper.{IsConjunction, IsNext}
use Rattle.planets.proofs.Paper as Planets
use Rattle.planets.proofs.Literal.{of-count, venus-or-mercury, conjunction-is}
use Rattle.reading.specs.Readings.{window_days, fitting}
use Rattle.reading.specs.Search.{total, search_at}
use Rattle.reading.specs.Paper.{GoodSearch}
use Rattle.reading.proofs.Rows as Searches
use Rattle.emending.specs.Faults.{emendations}
use Rattle.emending.specs.Emended.{emend_total, emend_at}
use Rattle.emending.proofs.Rows as Emends
use Rattle.clerk.specs.Clerk.{walked}
use Rattle.clerk.specs.Paper.{count_of}
use Rattle.clerk.proofs.Steps.{clerk_at}
use Rattle.clerk.proofs.Gone.{count_at, shown-at, walk-there, walk-closed}
use Rattle.fields.specs.Fields.{word, digits, decimal, followed, each}
use Rattle.told.specs.Answers.{
  places,
  told,
  place_line,
  place_text,
  leap_number,
  leap_count,
  year_line,
  year_text,
  line_of_month,
  month_line_of,
  month_text,
  quarter_line,
  quarter_text,
  term_line,
  term_text,
  phase_text,
  conjunction_line,
  conjunction_text,
  next_line,
  next_text,
  pair_line,
  pair_text,
  day_line_of,
  day_text,
  day_line,
  date_text,
  text_of_date,
  move_text,
  found_line,
  search_text,
  fits_line,
  emended_line,
  emendation_line,
  emendation_lines,
  outcome_text,
  emend_text,
  clerk_line,
  clerk_text,
}
use Rattle.told.specs.Paper as Paper
use Rattle.told.proofs.Telling.{words_back, as-refusal}
use Rattle.told.proofs.Refusing.{NoRefusal, NeverWith, never-is, never-refused, never-guard, never-one, never-two, never-then, tells-refusal}
use Rattle.told.proofs.Finding.{searched-few, searched-never-with, searched-not-twelve}
use Rattle.told.proofs.Emending.{emendings-few, emended-never-with, emended-not-twelve}

pub words-of-a-number : Paper.WordsOfANumber
words-of-a-number = words_back

pub refusal-literally : Paper.RefusalLiterally
unfolding followed
refusal-literally r = sym (as-refusal r refl)

pub place-line-literally : Paper.PlaceLineLiterally
unfolding place_text place_line solstice_year followed
place-line-literally y h = ap (told place_line) (Given.solstice-year-given y h)

-- a year's line by its leap month
year-with : (y : ℕ) (l : Option LeapMonth) → (year_facts y).leap_month ≡ l → year_line y (year_facts y) ≡ Paper.year_with y (leap_number l ++ (32 ∷ leap_count l))
unfolding year_line year_facts followed
year-with y l e = ap (λ (m : Option LeapMonth). Paper.year_with y (leap_number m ++ (32 ∷ leap_count m))) e

pub year-line-literally : Paper.YearLineLiterally
unfolding year_text year_facts
year-line-literally =
    record {
      with-leap = λ y k n h i e.
          ap (told (year_line y)) (Given.year-given y h)
          ∙ year-with y (Some (record { number = k; month = n })) (((leap-there y h).with-one k n).1 (i, e));
      without = λ y h none.
          ap (told (year_line y)) (Given.year-given y h) ∙ year-with y None ((leap-there y h).without.1 none);
    }

pub month-line-literally : Paper.MonthLineLiterally
unfolding month_text month_line_of month_facts followed
month-line-literally n h = ap (told (month_line_of n)) (Given.month-given n h) ∙ rw (number_at n, mark-at n) refl

pub clerk-line-literally : Paper.ClerkLineLiterally
unfolding clerk_text clerk_line month_facts followed
clerk-line-literally b k r h =
    let n = count_of b k in
    ap (told clerk_line) (walk-there b k r h)
    ∙ ap₂ (line_of_month (word "CLERK")) (count_at n) (shown-at n)
    ∙ rw (number_at n, mark-at n) refl

pub quarter-line-literally : Paper.QuarterLineLiterally
unfolding quarter_text quarter_line quarter_of followed
quarter-line-literally n q h i = ap (told quarter_line) (Given.quarter-given n q h i)

pub term-line-literally : Paper.TermLineLiterally
unfolding term_text term_line term_of followed
term-line-literally y k h i = ap (told term_line) (Given.term-given y k h i)

-- a phase's letter, and the planet that has it
letter-of : {p k : ℕ} {last : List ℕ} → Paper.Letter p k last → phase_text (phase (numbers_of p) k) ≡ last
letter-of {p} (Paper.morning j v) = ap phase_text ((of-count p (2 * j + 1) (venus-or-mercury p v)).odd v (omega arith))
letter-of {p} (Paper.evening j v) = ap phase_text ((of-count p (2 * j) (venus-or-mercury p v)).even v (omega arith))
letter-of {p} {k} (Paper.neither l h) = ap phase_text ((of-count p k (l, omega (arith, h))).neither h)

planet-of : {p k : ℕ} {last : List ℕ} → Paper.Letter p k last → Planet p
planet-of {p} (Paper.morning j v) = venus-or-mercury p v
planet-of {p} (Paper.evening j v) = venus-or-mercury p v
planet-of (Paper.neither l h) = (l, omega (arith, h))

as-defined : {p k : ℕ} {last : List ℕ} → Paper.Letter p k last → IsConjunction p k (conjunction_of (numbers_of p) k)
as-defined {p} {k} l = (conjunction-is p k (conjunction_of (numbers_of p) k) (planet-of l)).1 refl

pub conjunction-line-literally : Paper.ConjunctionLineLiterally
unfolding conjunction_text conjunction_line conjunction_of followed
conjunction-line-literally p k last l h =
    ap (told conjunction_line) (sym ((((Planets.reasons-of-planets).conjunctions p k).given (conjunction_of (numbers_of p) k)).1 (planet-of l, h, as-defined l)))
    ∙ ap (λ (s : List ℕ). word "CONJUNCTION " ++ Paper.conjunction_with p k s) (letter-of l)

pub next-line-literally : Paper.NextLineLiterally
unfolding next_text next_line next_of conjunction_of followed
next-line-literally p d k last l h least i =
    let w : IsNext p d (next_of (numbers_of p) k) = record { least = least; conjunction = as-defined l; in-range = i } in
    ap (told next_line) (sym ((((Planets.reasons-of-planets).nexts p d).given (next_of (numbers_of p) k)).1 (planet-of l, h, w)))
    ∙ ap (λ (s : List ℕ). word "NEXT " ++ s) (append_assoc (decimal k) _ (10 ∷ []))
    ∙ ap (λ (s : List ℕ). word "NEXT " ++ (decimal k ++ (32 ∷ Paper.conjunction_with p k s))) (letter-of l)

pub pair-line-literally : Paper.PairLineLiterally
unfolding pair_text pair_line pair_at followed
pair-line-literally p h = ap (told pair_line) (passes (within 1 5 p) 19 (is (pair_of (numbers_of p))) ((within-true 1 5 p).1 h))

pub day-line-literally : Paper.DayLineLiterally
unfolding day_line day_line_of date_of date_in followed
day-line-literally d = rw (number_at (month_of_day d), mark-at (month_of_day d)) refl

pub line-of-a-day : Paper.LineOfADay
unfolding day_text day_line
line-of-a-day d h = ap (told (day_line_of d)) (a-day d h)

pub date-line-literally : Paper.DateLineLiterally
unfolding date_text
date-line-literally y k l m d h = ap (told day_line) ((day-is y k l m d).1 h)

-- the date of a day, looked up by its own four things, has that day's line
date-of-day-line : (e : ℕ) → DayInRange e → text_of_date (date_of e) ≡ day_line e
unfolding date_text
date-of-day-line e h = ap (told day_line) (back-to-day e h)

pub move-line-literally : Paper.MoveLineLiterally
unfolding move_text
move-line-literally y k l m d n h =
    let w = Moves.move-of-a-date-exactly y k l m d n (sym ((day-is y k l m d).1 h)) in
    record {
      lands = λ e f i.
          ap (told text_of_date) (sym ((w.gives e f i (Ok (date_of e))).1 (sym (a-day e i)))) ∙ date-of-day-line e i;
      eight = λ out. ap (told text_of_date) (sym ((w.eight MoveOutOfRange).1 (refl, out)));
    }

pub search-lines-literally : Paper.SearchLinesLiterally
unfolding search_text found_line total followed
search-lines-literally r first last h i w f =
    ap (told (λ n. found_line n ++ each day_line (fitting r first (window_days first last))))
    (Searches.gives r first last places (record { ends = (h, i); window = w; fields = f }) (omega (arith, searched-few r first last w)))

pub emend-lines-literally : Paper.EmendLinesLiterally
unfolding emend_text fits_line emended_line emend_total total followed
emend-lines-literally r first last h i w f =
    let g : GoodSearch r first last = record { ends = (h, i); window = w; fields = f } in
    let text = told (outcome_text (emendations r first (window_days first last))) in
    record {
      some_fit = λ s. ap text (Emends.fits_said r first last places g s);
      none-fits = λ z. ap text (Emends.gives r first last places g (sym z) (omega (arith, emendings-few r first last w)));
    }

pub emendation-line-literally : Paper.EmendationLineLiterally
unfolding emendation_lines emendation_line followed decimal digits
emendation-line-literally =
    record {
      none = refl;
      number = λ d i k v xs n. rw (ne_eqb i 3 n) refl;
      to-leap = λ d xs. refl;
      to-ordinary = λ d xs. refl;
    }

-- no line of an emendation is a refusal
outcome-first : (xs : List ℕ) (o : Emended) → NoRefusal (outcome_text xs o)
unfolding fits_line emended_line followed
outcome-first xs (Fits n) = refl
outcome-first xs (Are n) = refl

-- a `DAY` line is no refusal
day-first : (d : ℕ) (r : Date) → NoRefusal (day_line_of d r)
unfolding day_line_of followed
day-first d r = refl

-- a move that is answered has the line of a day in range
moved-line : (y k : ℕ) (l : Bool) (m : ℕ) (n : ℤ) (r : Date) → moved y k l m n ≡ is r → NoRefusal (text_of_date r)
unfolding moved day_line
moved-line y k l m n r = from (day_of_date y k l m)
  where
    at : (e : ℕ) → guard (leb e 14989859) 8 (is (date_of e)) ≡ is r → NoRefusal (text_of_date r)
    at e h =
        let w = (holds-all (leb e 14989859) 8 (is (date_of e)) r).0 h in
        let g : date_of e ≡ r = let a : ◌≡◌ {A = Answer Date} (is (date_of e)) (is r) = w.1 in cc in
        subst (λ (s : Date). NoRefusal (text_of_date s)) g
        (subst NoRefusal (sym (date-of-day-line e ((at_most e 14989859).0 w.0))) (day-first e (date_of e)))

    lands : (z : ℤ) → landed z ≡ is r → NoRefusal (text_of_date r)
    lands (pos e) h = at e h
    lands (negsuc e) h = absurd (given-not (refused 8) r 8 h refl)

    from : (a : Answer ℕ) → and_then a (λ d. landed (pos d +ℤ n)) ≡ is r → NoRefusal (text_of_date r)
    from (is d) h = lands (pos d +ℤ n) h
    from (refused j) h = absurd (given-not (refused j) r j h refl)
    from (refused-with j i) h = absurd (never-is r j i (sym h))

-- no answer but a search's can be refused with a total
date-never-with : (y k : ℕ) (l : Bool) (m : ℕ) → NeverWith (day_of_date y k l m)
unfolding day_of_date day_of_named day_in_month
date-never-with y k l m =
    let t = mid_term_of y k in
    never-guard (leb y 41040) 1 _
    (never-guard (within 1 12 k) 2 _
    (never-guard (within 1 30 m) 3 _
    (never-guard (number_there y k) 16 _
    (never-two (is_there t l) 4 (leb m (month_length (month_asked t l))) 5 (month_start (month_asked t l) + (m - 1))))))

landed-never-with : (z : ℤ) → NeverWith (landed z)
landed-never-with (pos d) = never-one (leb d 14989859) 8 (date_of d)
landed-never-with (negsuc d) = never-refused 8

moved-never-with : (y k : ℕ) (l : Bool) (m : ℕ) (n : ℤ) → NeverWith (moved y k l m n)
unfolding moved
moved-never-with y k l m n = never-then (day_of_date y k l m) _ (date-never-with y k l m) (λ d. landed-never-with (pos d +ℤ n))

walked-never-with : (b k : ℕ) → NeverWith (walked b k)
walked-never-with b k =
    let n = count_of b k in
    subst NeverWith (sym (walk-closed b k)) (never-two (within 1 540 b) 21 (leb n 507599) 7 (clerk_at n))

-- what the texts, their first bytes and the answers they tell are computed with, for the `unfolding` line below
texts : ℕ
unfolding place_text year_text month_text quarter_text term_text conjunction_text next_text pair_text day_text date_text move_text search_text emend_text clerk_text
texts = 0

firsts : ℕ
unfolding place_line year_line month_line_of quarter_line term_line conjunction_line next_line pair_line day_line day_line_of found_line clerk_line followed
firsts = 0

answered : ℕ
unfolding solstice_year_at year_facts_at month_facts_at quarter_at term_at conjunction_at next_at pair_at date_at
answered = 0

pub refusals-told : Paper.RefusalsTold
unfolding texts firsts answered
refusals-told =
    record {
      place = λ y. tells-refusal place_line (solstice_year_at y) (λ x e. refl) (never-one (within 1 41040 y) 1 (solstice_year y));
      year = λ y. tells-refusal (year_line y) (year_facts_at y) (λ x e. refl) (never-one (leb y 41040) 1 (year_facts y));
      month = λ n. tells-refusal (month_line_of n) (month_facts_at n) (λ x e. refl) (never-one (leb n 507599) 7 (month_facts n));
      quarter = λ n q.
          tells-refusal quarter_line (quarter_at n q) (λ x e. refl) (never-two (leb n 507599) 7 (leb q 3) 15 (quarter_of n q));
      term = λ y k.
          tells-refusal term_line (term_at y k) (λ x e. refl)
          (never-two (within 1 41040 y) 1 (leb k 23) 15 (term_of y k));
      conjunction = λ p k.
          tells-refusal conjunction_line (conjunction_at p k) (λ x e. refl)
          (never-two (within 1 5 p) 19 (leb (conjunction_day (numbers_of p) k) 14989859) 6 (conjunction_of (numbers_of p) k));
      next = λ p d.
          tells-refusal next_line (next_at p d) (λ x e. refl)
          (never-guard (within 1 5 p) 19 _
          (never-two (leb d 14989859) 6 (leb (conjunction_day (numbers_of p) (next_count (numbers_of p) d)) 14989859) 20
          (next_of (numbers_of p) (next_count (numbers_of p) d))));
      pair = λ p. tells-refusal pair_line (pair_at p) (λ x e. refl) (never-one (within 1 5 p) 19 (pair_of (numbers_of p)));
      day = λ d. tells-refusal (day_line_of d) (date_at d) (λ x e. refl) (never-one (leb d 14989859) 6 (date_of d));
      date = λ y k l m. tells-refusal day_line (day_of_date y k l m) (λ x e. refl) (date-never-with y k l m);
      move = λ y k l m n. tells-refusal text_of_date (moved y k l m n) (moved-line y k l m n) (moved-never-with y k l m n);
      search = λ r first last.
          tells-refusal (λ n. found_line n ++ each day_line (fitting r first (window_days first last))) (search_at r first last places)
          (λ x e. refl) (searched-never-with r first last);
      emend = λ r first last.
          tells-refusal (outcome_text (emendations r first (window_days first last))) (emend_at r first last places)
          (λ x e. outcome-first (emendations r first (window_days first last)) x) (emended-never-with r first last);
      clerk = λ b k. tells-refusal clerk_line (walked b k) (λ x e. refl) (walked-never-with b k);
    }

pub never-twelve : Paper.NeverTwelve
never-twelve =
    record {
      search = λ r first last e. searched-not-twelve r first last ((refusals-told.search r first last 12).0 e);
      emend = λ r first last e. emended-not-twelve r first last ((refusals-told.emend r first last 12).0 e);
    }
