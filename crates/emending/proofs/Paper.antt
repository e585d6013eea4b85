-- What the request says of emendations, proved, each statement under its name in small letters. Assumes nothing.
use Rattle.std.specs.Prelude.{Result, Ok, Err}
use Prim.Native.Nat.{ℕ, ◌+◌, ◌*◌, ◌≤◌, ◌<◌}
use native.Mathlib.Omega.{arith}
use native.Mathlib.Decide.{dec_lt}
use mathlib.Core.Path.{◌≡◌, refl, ap, sym, ◌∙◌, subst}
use mathlib.Core.Logic.{◌⊎◌, inl, inr}
use mathlib.Core.List.{List, [], ◌∷◌}
use lib.ListN.{length, get_or}
use Rattle.rule.specs.Lists.{those, placed}
use Rattle.rule.specs.Reasons.{Answer, is, refused, refused-with, reason_number, reason_of, afterwards}
use Rattle.rule.proofs.Answers.{reason-back, one-to-one}
use Rattle.rule.proofs.Lists.{length-all}
use Rattle.rule.proofs.Months.{of-day-only}
use Rattle.rule.specs.Rule.{month_start, month_length, month_of_day}
use Rattle.dates.specs.Dates.{date_in, date_of}
use Rattle.reading.specs.declared.Field.TheVariants.{Known, Unread}
use Rattle.reading.specs.declared.Reading.{Reading}
use Rattle.reading.specs.Readings.{six_of, window_days, fitting}
use Rattle.reading.specs.Search.{total, said_found}
use Rattle.reading.proofs.Answered.{found-once}
use Rattle.reading.specs.Paper.{GoodSearch, SearchFault, all_unread}
use Rattle.reading.proofs.Paper.{lists-exactly, the-total, search-lists, too-short-says-the-total, all_fit}
use Rattle.reading.proofs.Computing.{searches-computed}
use Rattle.emending.specs.declared.Fault.TheVariants.{One}
use Rattle.emending.specs.declared.Emended.{Emended}
use Rattle.emending.specs.declared.Emended.TheVariants.{Fits, Are}
use Rattle.reading.specs.declared.SearchError.{SearchError}
use Rattle.reading.specs.declared.SearchError.TheVariants.{TooShort, Refused}
use Rattle.emending.specs.Faults.{name_fault, number_fault, month_fault, day_fault, fault, gathered, emendations, emendable}
use Rattle.emending.specs.Emended.{emend_total, emend_at, filled_with, EmendsReading}
use Rattle.emending.specs.Paper as Paper
use Rattle.emending.specs.declared.Place.{Place}
use Rattle.emending.specs.Paper.{field_at, OnlyFault, Entry, ListsEmendations, NoneFits, SomeFit}
use Rattle.emending.proofs.Literally.{found-fault, made_fault, one_place, fits-righted}
use Rattle.emending.proofs.Passing.{emended-four}
use Rattle.emending.proofs.Answered.{made, placed-length}
use Rattle.emending.proofs.Listed.{in-front, behind, lists-emendations}
use Rattle.emending.proofs.Rows.{refuses, fits_said, tells, gives, comes}

pub faults-literally : Paper.FaultsLiterally
faults-literally r d p k v = (
  λ e. let w = found-fault r d e in subst (λ (q : Place). OnlyFault r d q k v) (sym w.1) w.2,
  made_fault r d p k v,
)

pub one-fault-a-day : Paper.OneFaultADay
one-fault-a-day r d p q k l v w a b =
    let e : One p k v ≡ One q l w = sym (made_fault r d p k v a) ∙ made_fault r d q l w b in
    (cc, cc, cc)

pub put-right-fits : Paper.PutRightFits
put-right-fits = fits-righted

-- the list after the call, by what is said
lent-after : (r : Reading) (first last : ℕ) (old new : List ℕ) (a : Result Emended SearchError) → EmendsReading r first last old a new →
    new ≡ afterwards (said_found a) (filled_with r first last) old
lent-after r first last old new a s =
    s.lent ∙ ap (λ (x : Answer Emended). afterwards x (filled_with r first last) old) (sym s.answered)

-- no day fits, where there are none that do
none-of-none : (r : Reading) (first last : ℕ) → 0 ≡ total r first last → NoneFits r first last
unfolding total
none-of-none r first last z d h l e = let w = (lists-exactly r first last).listed d h l e in omega (arith, w.1, z)

-- the emendations of a window, n of them
module _ (r : Reading) (first last n : ℕ) (e : n ≡ emend_total r first last) where
  abbrev written : List ℕ
  written = emendations r first (window_days first last)

  as_long : length written ≡ 4 * n
  unfolding emend_total
  as_long = omega (arith, emended-four r first (window_days first last), e)

  all_listed : ListsEmendations r first last n written
  unfolding emend_total
  all_listed = subst (λ (m : ℕ). ListsEmendations r first last m written) (sym e) (lists-emendations r first last)

  -- and at the front of a list
  module _ (old new : List ℕ) (f : new ≡ placed written old) where
    there : (i : ℕ) → i < 4 * n → get_or new i 0 ≡ get_or written i 0
    there i h = ap (λ (l : List ℕ). get_or l i 0) f ∙ in-front written old i (omega (arith, as_long))

    moved : (i d : ℕ) (p : Place) (k v : ℕ) → i < n → Entry written i d p k v → Entry new i d p k v
    moved i d p k v h w =
        record {
          day = there (4 * i) (omega arith) ∙ w.day;
          field = there (4 * i + 1) (omega arith) ∙ w.field;
          was_read = there (4 * i + 2) (omega arith) ∙ w.was_read;
          should-be = there (4 * i + 3) (omega arith) ∙ w.should-be;
        }

    front-listed : ListsEmendations r first last n new
    front-listed =
        record {
          listed = λ d p k v h l o. let w = all_listed.listed d p k v h l o in (w.0, w.1, moved w.0 d p k v w.1 w.2);
          only = λ i h.
              let w = all_listed.only i h in
              record {
                d = w.d;
                p = w.p;
                k = w.k;
                v = w.v;
                entry = moved i w.d w.p w.k w.v h w.entry;
                from_first = w.from_first;
                to_last = w.to_last;
                only-fault = w.only-fault;
                put_right = w.put_right;
              };
          rising = λ i j h l. omega (arith, there (4 * i) (omega arith), there (4 * j) (omega arith), all_listed.rising i j h l);
        }

pub emendations-listed : Paper.EmendationsListed
emendations-listed r first last n old new s =
    let h = comes r first last (length old) (is (Are n)) s.answered in
    let f = lent-after r first last old new (Ok (Are n)) s in
    let long = as_long r first last n h.2 in (
      h.0,
      record {
        none = none-of-none r first last h.1;
        exactly = front-listed r first last n h.2 old new f;
        room = h.3;
        same-places = ap length f ∙ placed-length (emendations r first (window_days first last)) old (omega (arith, long, h.3));
        beyond = λ i l. ap (λ (m : List ℕ). get_or m i 0) f ∙ behind (emendations r first (window_days first last)) old i (omega (arith, long));
      },
    )

pub too-short-says-how-many : Paper.TooShortSaysHowMany
too-short-says-how-many r first last n old new s =
    let h = comes r first last (length old) (refused-with 12 n) s.answered in (
      h.0,
      record {
        none = none-of-none r first last h.1;
        numbers = emendations r first (window_days first last);
        exactly = all_listed r first last n h.2;
        short = h.3;
        unchanged = lent-after r first last old new (Err (TooShort n)) s;
      },
    )

pub fits-answered : Paper.FitsAnswered
unfolding total
fits-answered r first last n old new = (there, λ h. back h.0 h.1 h.2)
  where
    there : EmendsReading r first last old (Ok (Fits n)) new → GoodSearch r first last × SomeFit r first last n × (new ≡ old)
    there s =
        let h = comes r first last (length old) (is (Fits n)) s.answered in (
          h.0,
          record { days = fitting r first (window_days first last); exactly = lists-exactly r first last; counted = sym h.1; some = h.2 },
          lent-after r first last old new (Ok (Fits n)) s,
        )

    back : GoodSearch r first last → SomeFit r first last n → new ≡ old → EmendsReading r first last old (Ok (Fits n)) new
    back g h e =
        let t = the-total r first last h.days h.exactly n h.counted in
        made (Ok (Fits n)) (fits_said r first last (length old) g (omega (arith, t, h.some)) ∙ ap (λ m. is (Fits m)) t) refl e

pub reasons-of-an-emendation : Paper.ReasonsOfAnEmendation
reasons-of-an-emendation r first last old new why = (
  λ s. (there s, lent-after r first last old new (Err (Refused why)) s),
  λ h. made (Err (Refused why)) (refuses r first last (length old) why h.0) refl h.1,
)
  where
    there : EmendsReading r first last old (Err (Refused why)) new → SearchFault r first last why
    there s =
        let h = comes r first last (length old) (refused (reason_number why)) s.answered in
        subst (SearchFault r first last) (one-to-one reason_number reason_of reason-back h.0 why h.1) h.2

pub refusal-changes-nothing : Paper.RefusalChangesNothing
refusal-changes-nothing =
    record {
      refused-one = λ r first last old new why. lent-after r first last old new (Err (Refused why));
      too_short = λ r first last n old new. lent-after r first last old new (Err (TooShort n));
    }

pub unique-emendation : Paper.UniqueEmendation
unique-emendation r first last old a b new other p q = (found-once a b (p.answered ∙ sym q.answered), p.lent ∙ sym q.lent)

-- where n days fit, it is what the emendation says
says_so : (r : Reading) (first last n : ℕ) (old new : List ℕ) (a : Result Emended SearchError) → GoodSearch r first last → SomeFit r first last n →
    EmendsReading r first last old a new → (a ≡ Ok (Fits n)) × (new ≡ old)
says_so r first last n old new a g f s =
    unique-emendation r first last old a (Ok (Fits n)) new old s ((fits-answered r first last n old old).1 (g, f, refl))

-- a list without length is empty
empty : (xs : List ℕ) → length xs ≡ 0 → xs ≡ []
empty [] e = refl
empty (x ∷ xs) e = absurd (omega (arith, e))

pub never_both : Paper.NeverBoth
never_both =
    record {
      where_found = λ r first last n old new old' new' a some s t.
          let h = (search-lists r first last n old new).0 s in
          says_so r first last n old' new' a h.0
          (record { days = h.1.days; exactly = h.1.exactly; counted = h.1.counted; some = some }) t;
      where-short = λ r first last n old new old' new' a s t.
          let h = (too-short-says-the-total r first last n old new).0 s in
          says_so r first last n old' new' a h.0
          (record { days = h.1.days; exactly = h.1.exactly; counted = h.1.counted; some = omega (arith, h.1.short) }) t;
      where-emended = λ r first last n m old new old' new' s t.
          let z = (comes r first last (length old) (is (Are n)) s.answered).1 in
          let h = ((search-lists r first last m old' new').0 t).1 in
          let e : m ≡ 0 = omega (arith, z, the-total r first last h.days h.exactly m h.counted) in
          (e, h.filled ∙ ap (λ (l : List ℕ). placed l old') (empty h.days (h.counted ∙ e)));
    }

pub unread-never-emended : Paper.UnreadNeverEmended
unread-never-emended r first last n old new i p s h e u =
    let w = (emendations-listed r first last n old new s).1.exactly.only i h in
    let f : p ≡ w.p = one_place p w.p (sym e ∙ w.entry.field) in
    let g : Unread ≡ Known w.k = sym u ∙ ap (field_at r) f ∙ w.only-fault.was_read in
    absurd (let o : ◌≡◌ {A = ℕ} 0 1 = cc in omega arith)

pub all-unread-fits : Paper.AllUnreadFits
all-unread-fits first last old new a g s =
    says_so all_unread first last (window_days first last) old new a g
    (record {
      days = fitting all_unread first (window_days first last);
      exactly = lists-exactly all_unread first last;
      counted = ap length (all_fit first (window_days first last)) ∙ length-all first (window_days first last);
      some = omega (arith, g.window.0);
    }) s

-- no day fits where none is found, and none is found
none_found : (r : Reading) (first last : ℕ) → NoneFits r first last → 0 ≡ total r first last
unfolding total
none_found r first last none = go (dec_lt 0 (length (fitting r first (window_days first last))))
  where
    go : Dec (0 < length (fitting r first (window_days first last))) → 0 ≡ length (fitting r first (window_days first last))
    go (yes h) = let o = (lists-exactly r first last).only 0 h in absurd (none _ o.0 o.1 o.2)
    go (no n) = omega (arith, n)

-- the emendations given, where there is room
module _ (r : Reading) (first last : ℕ) (old new : List ℕ) (a : Result Emended SearchError) (g : GoodSearch r first last) (none : NoneFits r first last) where
  given : EmendsReading r first last old a new → 4 * emend_total r first last ≤ length old →
      (a ≡ Ok (Are (emend_total r first last))) × (new ≡ placed (emendations r first (window_days first last)) old)
  given s h =
      unique-emendation r first last old a (Ok (Are (emend_total r first last))) new _ s
      (made (Ok (Are (emend_total r first last))) (gives r first last (length old) g (none_found r first last none) h) refl refl)

  told : EmendsReading r first last old a new → length old < 4 * emend_total r first last → a ≡ Err (TooShort (emend_total r first last))
  told s h =
      (unique-emendation r first last old a (Err (TooShort (emend_total r first last))) new old s
      (made (Err (TooShort (emend_total r first last))) (tells r first last (length old) g (none_found r first last none) h) refl refl)).0

  one-or-other : EmendsReading r first last old a new → Dec (length old < 4 * emend_total r first last) →
      ((n : ℕ) × (a ≡ Ok (Are n)) × (4 * n ≤ length old)) ⊎ ((n : ℕ) × (a ≡ Err (TooShort n)) × (length old < 4 * n))
  one-or-other s (yes h) = inr (emend_total r first last, told s h, h)
  one-or-other s (no n) = let h : 4 * emend_total r first last ≤ length old = omega (arith, n) in inl (emend_total r first last, (given s h).0, h)

  without : ((d : ℕ) (p : Place) (k v : ℕ) → first ≤ d → d ≤ last → OnlyFault r d p k v → ⊥) → Dec (0 < emend_total r first last) → emend_total r first last ≡ 0
  unfolding emend_total
  without f (yes h) =
      let w = (lists-emendations r first last).only 0 h in
      absurd (f w.d w.p w.k w.v w.from_first w.to_last w.only-fault)
  without f (no n) = omega (arith, n)

pub where-none-fits : Paper.WhereNoneFits
where-none-fits =
    record {
      answered = λ r first last old new a g none s.
          one-or-other r first last old new a g none s (dec_lt (length old) (4 * emend_total r first last));
      nothing-found = λ r first last old new a g none f s.
          let z = without r first last old new a g none f (dec_lt 0 (emend_total r first last)) in
          let w = given r first last old new a g none s (omega (arith, z)) in
          let e = empty (emendations r first (window_days first last)) (omega (arith, z, as_long r first last (emend_total r first last) refl)) in
          (w.0 ∙ ap (λ m. Ok (Are m)) z, w.1 ∙ ap (λ (l : List ℕ). placed l old) e);
    }

pub second-of-two-big-emended : Paper.SecondOfTwoBigEmended
unfolding six_of date_of date_in month_length
second-of-two-big-emended n d r p k v first last m old new big also e o h l s =
    let at = of-day-only (n + 1) d (omega (arith, e), omega (arith, e, also)) in
    let start : month_start (month_of_day d) ≡ month_start (n + 1) = ap month_start at in
    (omega (arith, e, start), (emendations-listed r first last m old new s).1.exactly.listed d p k v h l o)

-- what an emendation is computed with at named inputs
computing : ℕ
unfolding emend_at emend_total emendable emendations gathered those fault month_fault name_fault number_fault day_fault six_of searches-computed
computing = 0

pub wrong-emendations : Paper.WrongEmendations
unfolding computing
wrong-emendations =
    record {
      refusing-all = λ why new s.
          let e : ◌≡◌ {A = Answer Emended} (refused (reason_number why)) (is (Are 1)) = s.answered in
          let o : ◌≡◌ {A = ℕ} 0 1 = cc in omega arith;
      short-for-all = λ n new s.
          let e : ◌≡◌ {A = Answer Emended} (refused-with 12 n) (is (Are 1)) = s.answered in
          let o : ◌≡◌ {A = ℕ} 0 1 = cc in omega arith;
      fitting-all = λ n new s.
          let e : ◌≡◌ {A = Answer Emended} (is (Fits n)) (is (Are 1)) = s.answered in
          let o : ◌≡◌ {A = ℕ} 0 1 = cc in omega arith;
      second-big-left-out = λ a s.
          let e : ◌≡◌ {A = List ℕ} (5 ∷ 5 ∷ 5 ∷ 5 ∷ []) (3838 ∷ 4 ∷ 29 ∷ 30 ∷ []) = s.lent in omega (arith, ap (λ (l : List ℕ). get_or l 0 0) e);
      two-faults = λ a new h s. h s.lent;
      two-faults-counted = λ n new h s. h (let e : ◌≡◌ {A = Answer Emended} (is (Are n)) (is (Are 0)) = s.answered in cc);
      two-faults-short = λ n new s.
          let e : ◌≡◌ {A = Answer Emended} (refused-with 12 n) (is (Are 0)) = s.answered in
          let o : ◌≡◌ {A = ℕ} 0 1 = cc in omega arith;
      inventing = λ n new h s. h (let e : ◌≡◌ {A = Answer Emended} (is (Are n)) (is (Are 1)) = s.answered in cc);
      counting-numbers = λ n new h s. h (let e : ◌≡◌ {A = Answer Emended} (refused-with 12 n) (refused-with 12 1) = s.answered in cc);
      first_alone = λ a s.
          let e : ◌≡◌ {A = List ℕ} (0 ∷ 1 ∷ 17 ∷ 16 ∷ 5 ∷ 5 ∷ 5 ∷ 5 ∷ []) (0 ∷ 1 ∷ 17 ∷ 16 ∷ 1 ∷ 1 ∷ 17 ∷ 16 ∷ []) = s.lent in
          omega (arith, ap (λ (l : List ℕ). get_or l 4 0) e);
      field-before = λ a s.
          let e : ◌≡◌ {A = List ℕ} (3838 ∷ 3 ∷ 29 ∷ 30 ∷ []) (3838 ∷ 4 ∷ 29 ∷ 30 ∷ []) = s.lent in omega (arith, ap (λ (l : List ℕ). get_or l 1 0) e);
      exchanged = λ a s.
          let e : ◌≡◌ {A = List ℕ} (3838 ∷ 4 ∷ 30 ∷ 29 ∷ []) (3838 ∷ 4 ∷ 29 ∷ 30 ∷ []) = s.lent in omega (arith, ap (λ (l : List ℕ). get_or l 2 0) e);
      touched-though-fitting = λ a new h s. h s.lent;
      short-though-fitting = λ n new s.
          let e : ◌≡◌ {A = Answer Emended} (refused-with 12 n) (is (Fits 1)) = s.answered in
          let o : ◌≡◌ {A = ℕ} 0 1 = cc in omega arith;
      written-before-refusal = λ a x h s. h (let e : ◌≡◌ {A = List ℕ} (x ∷ []) (5 ∷ []) = s.lent in ap (λ (l : List ℕ). get_or l 0 0) e);
      emendation-before-refusal = λ a s.
          let e : ◌≡◌ {A = List ℕ} (0 ∷ 1 ∷ 17 ∷ 16 ∷ []) (5 ∷ 5 ∷ 5 ∷ 5 ∷ []) = s.lent in omega (arith, ap (λ (l : List ℕ). get_or l 0 0) e);
      tail-cleared = λ a x h s.
          h (let e : ◌≡◌ {A = List ℕ} (3838 ∷ 4 ∷ 29 ∷ 30 ∷ x ∷ []) (3838 ∷ 4 ∷ 29 ∷ 30 ∷ 5 ∷ []) = s.lent in ap (λ (l : List ℕ). get_or l 4 0) e);
    }
