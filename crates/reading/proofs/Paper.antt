-- What the paper says of readings and the search, proved, each statement under its name in small letters. Assumes nothing.
use Rattle.std.specs.Prelude.{Result, Ok, Err}
use Prim.Native.Nat.{ℕ, zero, suc, ◌+◌, ◌-◌, ◌≤◌, ◌<◌}
use native.Mathlib.Omega.{arith}
use mathlib.Core.Path.{◌≡◌, refl, ap, ap₂, sym, ◌∙◌, subst}
use mathlib.Core.Logic.{◌↔◌, inl, inr, ⊎_elim}
use mathlib.Core.Bool.{true}
use mathlib.Core.List.{List, [], ◌∷◌}
use lib.ListN.{length, get_or, drop, get_or-append}
use borrow.Author.Tests.{eqb-true, eq-eqb}
use Rattle.rule.specs.Counts.{day_name, year_name}
use Rattle.rule.specs.Lists.{those, placed}
use Rattle.rule.specs.Rule.{month_start, month_of_day, civil_year_of_month, solstice_year_of_month, leap, mid_terms_before, mid_term_number, month_number, month_at}
use Rattle.rule.specs.Reasons.{Answer, is, refused, refused-with, reason_number, reason_of, afterwards}
use Rattle.rule.proofs.Months.{of-day}
use Rattle.rule.proofs.Leap as Leaps
use Rattle.rule.proofs.Lists.{those-same, length-all, has-place, at-place, rises, run_at}
use Rattle.rule.proofs.Answers.{reason-back, one-to-one, both_true}
use Rattle.dates.specs.Dates.{date_in, date_of}
use Rattle.dates.proofs.Laws.{dated}
use Rattle.reading.specs.declared.Field.{Field}
use Rattle.reading.specs.declared.Field.TheVariants.{Known, Unread}
use Rattle.reading.specs.declared.Reading.{Reading}
use Rattle.reading.specs.declared.SearchError.{SearchError}
use Rattle.reading.specs.declared.SearchError.TheVariants.{Refused, TooShort}
use Rattle.reading.specs.Readings.{mark_number, six_of_date, six_of, field_fits, in_ranges, month_fits, day_fits, fits, window_days, fitting}
use Rattle.reading.specs.Search.{total, search_at, said_found, Searched}
use Rattle.reading.specs.Paper as Paper
use Rattle.reading.specs.Paper.{
  FieldFits,
  ReadingFits,
  SearchFault,
  GoodSearch,
  ListsExactly,
  SearchAnswered,
  SearchTooShort,
  ReadToo,
  MoreKnown,
  all_unread,
}
use Rattle.reading.proofs.Answered
use Rattle.reading.proofs.Answered.{found-once}
use Rattle.reading.proofs.Rows.{refuses, tells, gives, comes}

-- a field, by its two cases
pub field_fits_lem : (f : Field) (v : ℕ) → (field_fits f v ≡ true) ↔ FieldFits f v
field_fits_lem (Known k) v = (
  λ e. inr (ap Known (eqb-true k v e)),
  ⊎_elim (λ (e : Known k ≡ Unread). absurd (let o : ◌≡◌ {A = ℕ} 0 1 = cc in omega arith)) (λ (e : Known k ≡ Known v). let g : k ≡ v = cc in eq-eqb k v g),
)
field_fits_lem Unread v = (λ e. inl refl, λ h. refl)

-- the four of the month and the two of the day are the six of the paper
pub six-of-the-date : Paper.SixOfTheDate
unfolding six_of
six-of-the-date d n r p i = ap₂ six_of_date ((of-day n d).0 i) ((dated d r).0 (sym p)).1

pub fits-literally : Paper.FitsLiterally
unfolding fits month_fits day_fits six_of date_of date_in
fits-literally r d = (λ e. there (six.0 e), λ h. six.1 (back h))
  where
    n : ℕ
    n = month_of_day d

    Four : Type 0
    Four =
        ((FieldFits r.year_name (year_name (civil_year_of_month n)) × FieldFits r.month_number (month_number n))
        × FieldFits r.leap_mark (mark_number (leap n)))
        × FieldFits r.first_name (day_name (month_start n))

    Two : Type 0
    Two = FieldFits r.day_of_month (d - month_start n + 1) × FieldFits r.day_name (day_name d)

    four : (month_fits r n ≡ true) ↔ Four
    four =
        both_true _ (field_fits r.first_name (day_name (month_start n)))
        (both_true _ (field_fits r.leap_mark (mark_number (leap n)))
        (both_true (field_fits r.year_name (year_name (civil_year_of_month n))) (field_fits r.month_number (month_number n))
        (field_fits_lem r.year_name (year_name (civil_year_of_month n))) (field_fits_lem r.month_number (month_number n)))
        (field_fits_lem r.leap_mark (mark_number (leap n))))
        (field_fits_lem r.first_name (day_name (month_start n)))

    two : (day_fits r (month_start n) d ≡ true) ↔ Two
    two =
        both_true (field_fits r.day_of_month (d - month_start n + 1)) (field_fits r.day_name (day_name d))
        (field_fits_lem r.day_of_month (d - month_start n + 1)) (field_fits_lem r.day_name (day_name d))

    six : (fits r d ≡ true) ↔ (Four × Two)
    six = both_true (month_fits r n) (day_fits r (month_start n) d) four two

    there : Four × Two → ReadingFits r d
    there h =
        record {
          year-name = h.0.0.0.0;
          month-number = subst (FieldFits r.month_number) (sym (Leaps.number_at n)) h.0.0.0.1;
          leap-mark = subst (FieldFits r.leap_mark) (ap mark_number (sym (Leaps.mark-at n))) h.0.0.1;
          day-of-month = h.1.0;
          day-name = h.1.1;
          first-name = h.0.1;
        }

    back : ReadingFits r d → Four × Two
    back h =
        let number = subst (FieldFits r.month_number) (Leaps.number_at n) h.month-number in
        let mark = subst (FieldFits r.leap_mark) (ap mark_number (Leaps.mark-at n)) h.leap-mark in
        ((((h.year-name, number), mark), h.first-name), (h.day-of-month, h.day-name))

-- all six unread: every day fits
pub all_fit : (first k : ℕ) → fitting all_unread first k ≡ those (λ n. true) first k
unfolding fitting fits month_fits day_fits
all_fit first k = those-same (fits all_unread) (λ n. true) first k (λ i h. refl)

-- a fitting day of the window has a place in the list
listed_at : (r : Reading) (first last d : ℕ) → first ≤ d → d ≤ last → ReadingFits r d →
    (i : ℕ) × (i < length (fitting r first (window_days first last))) × (get_or (fitting r first (window_days first last)) i 0 ≡ d)
unfolding fitting
listed_at r first last d h g e =
    let w = has-place (fits r) first (window_days first last) (d - first) (omega arith) (ap (fits r) back ∙ (fits-literally r d).1 e) in
    (w.0, w.1, w.2 ∙ back)
  where
    back : first + (d - first) ≡ d
    back = omega arith

pub lists-exactly : (r : Reading) (first last : ℕ) → ListsExactly r first last (fitting r first (window_days first last))
unfolding fitting
lists-exactly r first last =
    record {
      listed = λ d. listed_at r first last d;
      only = λ i l.
          let w = at-place (fits r) first (window_days first last) i l in (
            omega (arith, w.here),
            omega (arith, w.here, w.inside),
            subst (ReadingFits r) (sym w.here) ((fits-literally r (first + w.i)).0 w.passes),
          );
      rising = rises (fits r) first (window_days first last);
    }

-- two lists that rise and have the same members are one
abbrev Rising : List ℕ → Type 0
Rising xs = (i j : ℕ) → i < j → j < length xs → get_or xs i 0 < get_or xs j 0

abbrev Among : List ℕ → List ℕ → Type 0
Among xs ys = (i : ℕ) → i < length xs → (j : ℕ) × (j < length ys) × (get_or ys j 0 ≡ get_or xs i 0)

-- a member that is not the first is among the rest
among-rest : (x y : ℕ) (xs ys : List ℕ) → x ≡ y → Rising (x ∷ xs) → Among (x ∷ xs) (y ∷ ys) → Among xs ys
among-rest x y xs ys e p a i h =
    let w = a (suc i) (omega arith) in
    go w.0 w.1 w.2
  where
    go : (j : ℕ) → j < length (y ∷ ys) → get_or (y ∷ ys) j 0 ≡ get_or xs i 0 → (k : ℕ) × (k < length ys) × (get_or ys k 0 ≡ get_or xs i 0)
    go zero l g = absurd (omega (arith, e, g, p 0 (suc i) (omega arith) (omega arith)))
    go (suc j) l g = (j, omega arith, g)

-- the first member of one is not before the first of the other
not-before : (x y : ℕ) (xs ys : List ℕ) → Rising (y ∷ ys) → Among (x ∷ xs) (y ∷ ys) → y ≤ x
not-before x y xs ys q a = let w = a 0 (omega arith) in go w.0 w.1 w.2
  where
    go : (j : ℕ) → j < length (y ∷ ys) → get_or (y ∷ ys) j 0 ≡ x → y ≤ x
    go zero l g = omega (arith, g)
    go (suc j) l g = omega (arith, g, q 0 (suc j) (omega arith) l)

one-rising : (xs ys : List ℕ) → Rising xs → Rising ys → Among xs ys → Among ys xs → xs ≡ ys
one-rising [] [] p q a b = refl
one-rising [] (y ∷ ys) p q a b = absurd (omega (arith, (b 0 (omega arith)).1))
one-rising (x ∷ xs) [] p q a b = absurd (omega (arith, (a 0 (omega arith)).1))
one-rising (x ∷ xs) (y ∷ ys) p q a b =
    let e : x ≡ y = omega (arith, not-before x y xs ys q a, not-before y x ys xs p b) in
    ap₂ ◌∷◌ e
    (one-rising xs ys (λ i j h l. p (suc i) (suc j) (omega arith) (omega arith)) (λ i j h l. q (suc i) (suc j) (omega arith) (omega arith))
    (among-rest x y xs ys e p a) (among-rest y x ys xs (sym e) q b))

pub one_list : Paper.OneList
one_list r first last xs ys p q = one-rising xs ys p.rising q.rising (among xs ys p q) (among ys xs q p)
  where
    among : (us vs : List ℕ) → ListsExactly r first last us → ListsExactly r first last vs → Among us vs
    among us vs u v i h = let o = u.only i h in v.listed (get_or us i 0) o.0 o.1 o.2

-- a list that holds exactly the fitting days is theirs, and its length their total
module _ (r : Reading) (first last : ℕ) (days : List ℕ) (e : ListsExactly r first last days) where
  the-days : days ≡ fitting r first (window_days first last)
  the-days = one_list r first last days (fitting r first (window_days first last)) e (lists-exactly r first last)

  pub the-total : (n : ℕ) → length days ≡ n → total r first last ≡ n
  unfolding total
  the-total n h = sym (ap length the-days) ∙ h

-- the list after the call, by what is said
lent-after : (r : Reading) (first last : ℕ) (old new : List ℕ) (a : Result ℕ SearchError) → Searched r first last old a new →
    new ≡ afterwards (said_found a) (λ n. fitting r first (window_days first last)) old
lent-after r first last old new a s = s.lent ∙ ap (λ (x : Answer ℕ). afterwards x (λ n. fitting r first (window_days first last)) old) (sym s.answered)

pub search-lists : Paper.SearchLists
unfolding total
search-lists r first last n old new = (there, λ h. back h.0 h.1)
  where
    there : Searched r first last old (Ok n) new → GoodSearch r first last × SearchAnswered r first last n old new
    there s =
        let h = comes r first last (length old) (is n) s.answered in (
          h.0,
          record {
            days = fitting r first (window_days first last);
            exactly = lists-exactly r first last;
            counted = sym h.1;
            room = h.2;
            filled = lent-after r first last old new (Ok n) s;
          },
        )

    back : GoodSearch r first last → SearchAnswered r first last n old new → Searched r first last old (Ok n) new
    back g h =
        let t = the-total r first last h.days h.exactly n h.counted in
        Answered.made (Ok n) (gives r first last (length old) g (omega (arith, t, h.room)) ∙ ap is t) refl
        (h.filled ∙ ap (λ (l : List ℕ). placed l old) (the-days r first last h.days h.exactly))

pub too-short-says-the-total : Paper.TooShortSaysTheTotal
unfolding total
too-short-says-the-total r first last n old new = (there, λ h. back h.0 h.1)
  where
    there : Searched r first last old (Err (TooShort n)) new → GoodSearch r first last × SearchTooShort r first last n old new
    there s =
        let h = comes r first last (length old) (refused-with 12 n) s.answered in (
          h.0,
          record {
            days = fitting r first (window_days first last);
            exactly = lists-exactly r first last;
            counted = sym h.1;
            short = h.2;
            unchanged = lent-after r first last old new (Err (TooShort n)) s;
          },
        )

    back : GoodSearch r first last → SearchTooShort r first last n old new → Searched r first last old (Err (TooShort n)) new
    back g h =
        let t = the-total r first last h.days h.exactly n h.counted in
        Answered.made (Err (TooShort n))
        (tells r first last (length old) g (omega (arith, t, h.short)) ∙ ap (refused-with 12) t) refl h.unchanged

pub reasons-of-a-search : Paper.ReasonsOfASearch
reasons-of-a-search r first last old new why = (
  λ s. (there s, lent-after r first last old new (Err (Refused why)) s),
  λ h. Answered.made (Err (Refused why)) (refuses r first last (length old) why h.0) refl h.1,
)
  where
    there : Searched r first last old (Err (Refused why)) new → SearchFault r first last why
    there s =
        let h = comes r first last (length old) (refused (reason_number why)) s.answered in
        subst (SearchFault r first last) (one-to-one reason_number reason_of reason-back h.0 why h.1) h.2

pub refusal-changes-nothing : Paper.RefusalChangesNothing
refusal-changes-nothing =
    record {
      refused-one = λ r first last old new why. lent-after r first last old new (Err (Refused why));
      too_short = λ r first last n old new. lent-after r first last old new (Err (TooShort n));
    }

pub unique-search : Paper.UniqueSearch
unique-search r first last old a b new other p q = (found-once a b (p.answered ∙ sym q.answered), p.lent ∙ sym q.lent)

-- what stands at place i of the list after the call
front : (r : Reading) (first last n : ℕ) (old new : List ℕ) (h : SearchAnswered r first last n old new) (i : ℕ) → i < n →
    get_or new i 0 ≡ get_or h.days i 0
front r first last n old new h i l =
    ap (λ (m : List ℕ). get_or m i 0) h.filled ∙ get_or-append h.days (drop (length h.days) old) 0 i (omega (arith, h.counted))

pub unread-lists-all : Paper.UnreadListsAll
unread-lists-all = record { counted = number; each = at-place }
  where
    run : (first last n : ℕ) (old new : List ℕ) (h : SearchAnswered all_unread first last n old new) →
        h.days ≡ those (λ d. true) first (window_days first last)
    run first last n old new h = the-days all_unread first last h.days h.exactly ∙ all_fit first (window_days first last)

    number : (first last n : ℕ) (old new : List ℕ) → Searched all_unread first last old (Ok n) new → n ≡ window_days first last
    number first last n old new s =
        let h = ((search-lists all_unread first last n old new).0 s).1 in
        sym h.counted ∙ ap length (run first last n old new h) ∙ length-all first (window_days first last)

    at-place : (first last n : ℕ) (old new : List ℕ) (i : ℕ) → Searched all_unread first last old (Ok n) new → i < n → get_or new i 0 ≡ first + i
    at-place first last n old new i s l =
        let h = ((search-lists all_unread first last n old new).0 s).1 in
        front all_unread first last n old new h i l
        ∙ ap (λ (m : List ℕ). get_or m i 0) (run first last n old new h)
        ∙ run_at first (window_days first last) i (omega (arith, number first last n old new s))

-- a field read in more is fitted by fewer
read-too : (f g : Field) (v : ℕ) → ReadToo f g → FieldFits g v → FieldFits f v
read-too f g v h e = ⊎_elim inl (λ (s : f ≡ g). subst (λ (x : Field). FieldFits x v) (sym s) e) h

fewer : (r s : Reading) (d : ℕ) → MoreKnown r s → ReadingFits s d → ReadingFits r d
fewer r s d m h =
    record {
      year-name = read-too r.year_name s.year_name _ m.year-name h.year-name;
      month-number = read-too r.month_number s.month_number _ m.month-number h.month-number;
      leap-mark = read-too r.leap_mark s.leap_mark _ m.leap-mark h.leap-mark;
      day-of-month = read-too r.day_of_month s.day_of_month _ m.day-of-month h.day-of-month;
      day-name = read-too r.day_name s.day_name _ m.day-name h.day-name;
      first-name = read-too r.first_name s.first_name _ m.first-name h.first-name;
    }

-- a fitting day of the window stands in the list after a call that is answered
found : (r : Reading) (first last k : ℕ) (old new : List ℕ) (d : ℕ) → Searched r first last old (Ok k) new →
    first ≤ d → d ≤ last → ReadingFits r d → (i : ℕ) × (i < k) × (get_or new i 0 ≡ d)
found r first last k old new d s h g e =
    let a = ((search-lists r first last k old new).0 s).1 in
    let w = a.exactly.listed d h g e in
    let l : w.0 < k = omega (arith, w.1, a.counted) in
    (w.0, l, front r first last k old new a w.0 l ∙ w.2)

pub more-known-never-adds : Paper.MoreKnownNeverAdds
more-known-never-adds r s first last n m old new old' new' i k p q l =
    let a = ((search-lists s first last m old' new').0 q).1 in
    let o = a.exactly.only i (omega (arith, a.counted)) in
    let w = found r first last n old new (get_or a.days i 0) p o.0 o.1 (fewer r s (get_or a.days i 0) k o.2) in
    (w.0, w.1, w.2 ∙ sym (front s first last m old' new' a i l))

pub second-of-two-big-listed : Paper.SecondOfTwoBigListed
second-of-two-big-listed n d r first last k old new big also inside e h g s = found r first last k old new d s h g e

-- what a day's six values are computed from
computing : ℕ
unfolding six_of date_of date_in month_at month_start month_of_day civil_year_of_month solstice_year_of_month month_number mid_term_number mid_terms_before leap day_name year_name
computing = 0

pub wrong-searches : Paper.WrongSearches
unfolding search_at total fitting those fits month_fits day_fits in_ranges computing
wrong-searches =
    record {
      refusing-all = λ why new s. let e : ◌≡◌ {A = Answer ℕ} (refused (reason_number why)) (is 1) = s.answered in let o : ◌≡◌ {A = ℕ} 0 1 = cc in omega arith;
      short-for-all = λ n new s. let e : ◌≡◌ {A = Answer ℕ} (refused-with 12 n) (is 1) = s.answered in let o : ◌≡◌ {A = ℕ} 0 1 = cc in omega arith;
      filling-none = λ a s. let e : ◌≡◌ {A = List ℕ} (5 ∷ []) (0 ∷ []) = s.lent in omega (arith, ap (λ (l : List ℕ). get_or l 0 0) e);
      filling-noughts = λ a s. let e : ◌≡◌ {A = List ℕ} (0 ∷ 0 ∷ []) (3 ∷ 4 ∷ []) = s.lent in omega (arith, ap (λ (l : List ℕ). get_or l 0 0) e);
      inventing = λ n new h s. h (let e : ◌≡◌ {A = Answer ℕ} (is n) (is 2) = s.answered in cc);
      inventing-at-12 = λ n new h s. h (let e : ◌≡◌ {A = Answer ℕ} (refused-with 12 n) (refused-with 12 2) = s.answered in cc);
      copying-first = λ a s. let e : ◌≡◌ {A = List ℕ} (3 ∷ 3 ∷ []) (3 ∷ 4 ∷ []) = s.lent in omega (arith, ap (λ (l : List ℕ). get_or l 1 0) e);
      first_alone = λ a s. let e : ◌≡◌ {A = List ℕ} (3 ∷ 0 ∷ []) (3 ∷ 4 ∷ []) = s.lent in omega (arith, ap (λ (l : List ℕ). get_or l 1 0) e);
      in-one-place = λ a s. let e : ◌≡◌ {A = List ℕ} (4 ∷ 0 ∷ []) (3 ∷ 4 ∷ []) = s.lent in omega (arith, ap (λ (l : List ℕ). get_or l 0 0) e);
      one-place-on = λ a s. let e : ◌≡◌ {A = List ℕ} (0 ∷ 3 ∷ 4 ∷ []) (3 ∷ 4 ∷ 5 ∷ []) = s.lent in omega (arith, ap (λ (l : List ℕ). get_or l 0 0) e);
      written-before-refusal = λ a x h s. h (let e : ◌≡◌ {A = List ℕ} (x ∷ []) (0 ∷ []) = s.lent in ap (λ (l : List ℕ). get_or l 0 0) e);
      tail-cleared = λ a x h s. h (let e : ◌≡◌ {A = List ℕ} (3 ∷ 4 ∷ x ∷ []) (3 ∷ 4 ∷ 5 ∷ []) = s.lent in ap (λ (l : List ℕ). get_or l 2 0) e);
      by-the-solstice-year = λ a s. let e : ◌≡◌ {A = List ℕ} (0 ∷ []) (5 ∷ []) = s.lent in omega (arith, ap (λ (l : List ℕ). get_or l 0 0) e);
      second-big-left-out = λ a s. let e : ◌≡◌ {A = List ℕ} (0 ∷ []) (3838 ∷ []) = s.lent in omega (arith, ap (λ (l : List ℕ). get_or l 0 0) e);
    }
