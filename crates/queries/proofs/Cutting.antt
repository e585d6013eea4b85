-- Every answer is the same of numbers and of numbers cut down. Assumes nothing.
use Rattle.std.specs.Prelude.{Option, Some, None}
use Rattle.emending.specs.declared.Emended.TheVariants.{Are}
use Prim.Native.Nat.{ℕ, zero, suc, ◌-◌, ◌*◌, ◌≤◌, ◌<◌}
use native.Mathlib.Omega.{arith}
use mathlib.Core.Path.{◌≡◌, refl, ap, ap₂, sym, ◌∙◌}
use mathlib.Core.Bool.{Bool, true, false, cond}
use mathlib.Core.List.{List, [], ◌∷◌, ◌++◌}
use lib.Dec.{leb}
use lib.IntN.{ℤ, pos}
use lib.ListN.{length, drop}
use borrow.Author.Tests.{le-leb, lt-leb}
use Rattle.rule.specs.Reasons.{Answer, is, refused, refused-with, guard, guard-with}
use Rattle.dates.specs.Dates.{date_of, date_at}
use Rattle.facts.specs.Facts.{year_facts, year_facts_at, month_facts, month_facts_at}
use Rattle.reading.specs.declared.Field.TheVariants.{Known, Unread}
use Rattle.reading.specs.declared.Reading.{Reading}
use Rattle.reading.specs.Readings.{window_days, fitting}
use Rattle.reading.specs.Search.{total, where_good, search_at}
use Rattle.emending.specs.Faults.{emendations}
use Rattle.emending.specs.Emended.{emend_total, where_none_fits, emend_at}
use Rattle.fields.specs.Fields.{word, each}
use Rattle.told.specs.Answers.{
  told,
  place_line,
  place_text,
  year_line,
  year_text,
  month_line_of,
  month_text,
  quarter_line,
  quarter_text,
  term_line,
  term_text,
  conjunction_line,
  conjunction_text,
  next_line,
  next_text,
  pair_line,
  pair_text,
  day_line_of,
  day_text,
  day_line,
  date_text,
  text_of_date,
  move_text,
  found_line,
  places,
  search_text,
  outcome_text,
  emend_text,
  clerk_line,
  clerk_text,
}
use Rattle.told.specs.Yearbook.{figures_lines, figures_text}
use Rattle.yearbook.specs.declared.Figures.{Figures}
use Rattle.yearbook.specs.Figures.{leap_figures, name_figures}
use Rattle.yearbook.specs.Promise.{figures_at}
use Rattle.capped.specs.Capped.{capped, capped_move, capped_field, capped_reading}
use Rattle.capped.specs.Paper.{Settled, AlikeSearch, whole, both}
use Rattle.capped.proofs.Paper.{at_most, capped-alike, capped-search, given-whole}
use Rattle.forms.specs.Forms.{fields_in, field_at, same, first_like, back, is_minus, move_of, slip_field_of, move_in, slip_field_in}
use Rattle.fields.specs.Paper.{value_from}
use Rattle.forms.proofs.Saying.{itself}
use Rattle.asked.specs.declared.Query.{Query}
use Rattle.asked.specs.Asked.{Row, slip_in, table, table_of, forms, query_at, hashed, read_by}
use Rattle.asked.specs.Paper.{read}
use Rattle.queries.specs.Queries.{unreadable, mark_field, reading_of, answered, answer_to}

-- a line that also says the number itself
line-capped : {A : Type 0} (b : ℕ → Bool) → Settled b → (k : ℕ) (f : ℕ → A → List ℕ) (h : ℕ → A) (n : ℕ) →
    told (f (capped n)) (guard (b (capped n)) k (is (h (capped n)))) ≡ told (f n) (guard (b n) k (is (h n)))
line-capped b s k f h n = go (b n) refl
  where
    go : (t : Bool) → b n ≡ t → told (f (capped n)) (guard (b (capped n)) k (is (h (capped n)))) ≡ told (f n) (guard (b n) k (is (h n)))
    go true e = ap (λ (i : ℕ). told (f i) (guard (b i) k (is (h i)))) ((s n).1 e)
    go false e = rw ((s n).0, e) refl

place-capped : (y : ℕ) → place_text (capped y) ≡ place_text y
unfolding place_text
place-capped y = ap (told place_line) (capped-alike.solstice y)

year-capped : (y : ℕ) → year_text (capped y) ≡ year_text y
unfolding year_text year_facts_at
year-capped y = line-capped (λ n. leb n 41040) (at_most 41040 (omega arith)) 1 year_line year_facts y

month-capped : (n : ℕ) → month_text (capped n) ≡ month_text n
unfolding month_text month_facts_at
month-capped n = line-capped (λ i. leb i 507599) (at_most 507599 (omega arith)) 7 month_line_of month_facts n

quarter-capped : (n q : ℕ) → quarter_text (capped n) (capped q) ≡ quarter_text n q
unfolding quarter_text
quarter-capped n q = ap (told quarter_line) (capped-alike.quarter n q)

term-capped : (y k : ℕ) → term_text (capped y) (capped k) ≡ term_text y k
unfolding term_text
term-capped y k = ap (told term_line) (capped-alike.term y k)

conjunction-capped : (p k : ℕ) → conjunction_text (capped p) (capped k) ≡ conjunction_text p k
unfolding conjunction_text
conjunction-capped p k = ap (told conjunction_line) (capped-alike.conjunction p k)

next-capped : (p d : ℕ) → next_text (capped p) (capped d) ≡ next_text p d
unfolding next_text
next-capped p d = ap (told next_line) (capped-alike.next p d)

pair-capped : (p : ℕ) → pair_text (capped p) ≡ pair_text p
unfolding pair_text
pair-capped p = ap (told pair_line) (capped-alike.pair p)

day-capped : (d : ℕ) → day_text (capped d) ≡ day_text d
unfolding day_text date_at
day-capped d = line-capped (λ i. leb i 14989859) (at_most 14989859 (omega arith)) 6 day_line_of date_of d

date-capped : (y k : ℕ) (l : Bool) (m : ℕ) → date_text (capped y) (capped k) l (capped m) ≡ date_text y k l m
unfolding date_text
date-capped y k l m = ap (told day_line) (capped-alike.day y k l m)

move-capped : (y k : ℕ) (l : Bool) (m : ℕ) (n : ℤ) → move_text (capped y) (capped k) l (capped m) (capped_move n) ≡ move_text y k l m n
unfolding move_text
move-capped y k l m n = ap (told text_of_date) (capped-alike.move y k l m (capped_move n) ∙ capped-alike.far y k l m n)

-- what is told behind the tests of a search
abbrev behind_tests : {A : Type 0} → (Reading → ℕ → ℕ → A → List ℕ) → (Reading → ℕ → ℕ → Answer A) → Reading → ℕ → ℕ → List ℕ
behind_tests f a r first last = told (f r first last) (where_good r first last (a r first last))

behind-capped : {A : Type 0} (f : Reading → ℕ → ℕ → A → List ℕ) (a : Reading → ℕ → ℕ → Answer A) (r : Reading) (first last : ℕ) →
    behind_tests f a (capped_reading r) (capped first) (capped last) ≡ behind_tests f a r first last
behind-capped {A} f a r first last = go (capped-search r first last)
  where
    go : AlikeSearch r first last → behind_tests f a (capped_reading r) (capped first) (capped last) ≡ behind_tests f a r first last
    go (whole x y z) = rw (x, y, z) refl
    go (both k h g) =
        ap (told (f (capped_reading r) (capped first) (capped last))) (h A (a (capped_reading r) (capped first) (capped last)))
        ∙ sym (ap (told (f r first last)) (g A (a r first last)))

search-capped : (r : Reading) (first last : ℕ) → search_text (capped_reading r) (capped first) (capped last) ≡ search_text r first last
unfolding search_text search_at
search-capped =
    behind-capped (λ r first last n. found_line n ++ each day_line (fitting r first (window_days first last)))
    (λ r first last. guard-with (leb (total r first last) places) 12 (total r first last) (is (total r first last)))

emend-capped : (r : Reading) (first last : ℕ) → emend_text (capped_reading r) (capped first) (capped last) ≡ emend_text r first last
unfolding emend_text emend_at
emend-capped =
    behind-capped (λ r first last. outcome_text (emendations r first (window_days first last))) (
    λ r first last.
    let n = emend_total r first last in
    where_none_fits (total r first last) (guard-with (leb (4 * n) places) 12 n (is (Are n)))
    )

clerk-capped : (b k : ℕ) → clerk_text (capped b) (capped k) ≡ clerk_text b k
unfolding clerk_text
clerk-capped b k = ap (told clerk_line) (capped-alike.walk b k)

figures-capped : (first last : ℕ) → figures_text (capped first) (capped last) ≡ figures_text first last
unfolding figures_text
figures-capped first last =
    ap (told (figures_lines (leap_figures (capped first) (capped last)) (name_figures (capped first) (capped last)))) (capped-alike.figures first last)
    ∙ go (figures_at first last) refl
  where
    text : ℕ → ℕ → List ℕ
    text a b = told (figures_lines (leap_figures a b) (name_figures a b)) (figures_at first last)

    go : (a : Answer Figures) → figures_at first last ≡ a → text (capped first) (capped last) ≡ text first last
    go (is x) e = let w = given-whole first last x e in ap₂ text w.0 w.1
    go (refused k) e = rw (e) refl
    go (refused-with k n) e = rw (e) refl

-- a move and a field in a line
back-capped : (v : ℕ) → back (capped v) ≡ capped_move (back v)
back-capped zero = refl
back-capped (suc n) = ap back {x = capped (suc n)} {y = suc (capped (suc n) - 1)} (omega arith)

move_in_lem : (fs : List (List ℕ)) (k : ℕ) → move_in capped fs k ≡ capped_move (move_in itself fs k)
unfolding move_in move_of
move_in_lem fs k = go (is_minus (field_at fs k)) (value_from 0 (drop 1 (field_at fs k))) (value_from 0 (field_at fs k))
  where
    go : (t : Bool) (u v : ℕ) → cond t (back (capped u)) (pos (capped v)) ≡ capped_move (cond t (back u) (pos v))
    go true u v = back-capped u
    go false u v = refl

field_in : (fs : List (List ℕ)) (k : ℕ) → slip_field_in capped fs k ≡ capped_field (slip_field_in itself fs k)
unfolding slip_field_in slip_field_of
field_in fs k = go (same (word "?") (field_at fs k)) (value_from 0 (field_at fs k))
  where
    go : (t : Bool) (v : ℕ) → cond t Unread (Known (capped v)) ≡ capped_field (cond t Unread (Known v))
    go true v = refl
    go false v = refl

mark-kept : (m : Option Bool) → capped_field (mark_field m) ≡ mark_field m
mark-kept (Some true) = refl
mark-kept (Some false) = refl
mark-kept None = refl

slip-in : (fs : List (List ℕ)) → reading_of (slip_in capped fs) ≡ capped_reading (reading_of (slip_in itself fs))
slip-in fs = rw (field_in fs 1, field_in fs 2, field_in fs 4, field_in fs 5, field_in fs 6, mark-kept (slip_in itself fs).leap_mark) refl

-- the answers of all rows, to a line
module _ (s : List ℕ) where
  answers_of : List Row → List (List ℕ)
  answers_of [] = []
  answers_of (r ∷ rs) = answered s r.query ∷ answers_of rs

  answer_at : List (List ℕ) → ℕ → List ℕ
  answer_at [] k = unreadable
  answer_at (a ∷ l) zero = a
  answer_at (a ∷ l) (suc k) = answer_at l k

  at : (rs : List Row) (k : ℕ) → answered s (query_at rs k) ≡ answer_at (answers_of rs) k
  unfolding answers_of answer_at query_at
  at [] k = refl
  at (r ∷ rs) zero = refl
  at (r ∷ rs) (suc k) = at rs k

  rows_alike : (fs : List (List ℕ)) → answers_of (table_of capped fs) ≡ answers_of (table_of itself fs)
  unfolding answers_of table
  rows_alike fs =
      simp (
        move_in_lem,
        slip-in,
        place-capped,
        year-capped,
        month-capped,
        quarter-capped,
        term-capped,
        conjunction-capped,
        next-capped,
        pair-capped,
        day-capped,
        date-capped,
        move-capped,
        search-capped,
        emend-capped,
        clerk-capped,
        figures-capped,
      )

  same_answer : answered s (read_by capped s) ≡ answered s (read s)
  unfolding read_by
  same_answer = go (hashed s)
    where
      fs : List (List ℕ)
      fs = fields_in s

      k : ℕ
      k = first_like forms fs

      rows : answered s (query_at (table_of capped fs) k) ≡ answered s (query_at (table_of itself fs) k)
      rows = at (table_of capped fs) k ∙ ap (λ (l : List (List ℕ)). answer_at l k) (rows_alike fs) ∙ sym (at (table_of itself fs) k)

      go : (x : Bool) → answered s (cond x Query.Note (query_at (table_of capped fs) k)) ≡ answered s (cond x Query.Note (query_at (table_of itself fs) k))
      go true = refl
      go false = rows

-- by a line's length, against any number
up_to : (x y : List ℕ) (n k : ℕ) → n ≤ k → x ≡ cond (leb n k) x y
up_to x y n k h = rw (le-leb n k h) refl

beyond : (x y : List ℕ) (n k : ℕ) → k < n → y ≡ cond (leb n k) x y
beyond x y n k h = rw (lt-leb n k h) refl

pub short_enough : (s : List ℕ) → length s ≤ 200 → answer_to s ≡ answered s (read_by capped s)
unfolding answer_to
short_enough s h = sym (same_answer s ∙ up_to (answered s (read s)) unreadable (length s) _ (omega (arith, h)))

pub too_long : (s : List ℕ) → 200 < length s → answer_to s ≡ unreadable
unfolding answer_to
too_long s h = sym (beyond (answered s (read s)) unreadable (length s) _ (omega (arith, h)))

pub ruleset by_length = (short_enough, too_long)
