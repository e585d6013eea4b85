-- Proofs of the statements about the calls for C. Assumes nothing.
use Rattle.reading.specs.declared.SearchError.{SearchError}
use Rattle.reading.specs.declared.SearchError.TheVariants.{TooShort, Refused}
use Rattle.std.specs.Prelude.{Result, Ok, Err}
use Rattle.sheet.specs.declared.Counted.{Counted}
use Prim.Native.Nat.{ℕ, ◌<◌}
use native.Mathlib.Omega.{arith}
use mathlib.Core.Path.{◌≡◌, refl, ap, sym, ◌∙◌, subst}
use mathlib.Core.Logic.{◌↔◌, ◌≢◌}
use mathlib.Core.Bool.{Bool, true, false, ◌&&◌}
use mathlib.Core.List.{List, [], ◌∷◌}
use lib.Dec.{leb}
use lib.ListN.{length, get_or, replicate}
use Rattle.rule.specs.Lists.{placed}
use Rattle.rule.specs.Reasons.{said, Answer, is, refused, refused-with, guard, and_then, reason_number, guard-with, afterwards}
use Rattle.rule.specs.declared.Reason.{Reason}
use Rattle.rule.specs.declared.Reason.TheVariants.{NoSuchDay, BadWindow, FieldOutOfRange}
use Rattle.dates.specs.declared.Date.{Date}
use Rattle.dates.specs.Dates.{date_at, day_of_date}
use Rattle.moves.specs.Moves.{moved}
use Rattle.rule.specs.Rule.{year_term}
use Rattle.rule.specs.Paper.{IsTerm}
use Rattle.rule.specs.declared.Term.{Term}
use Rattle.facts.specs.Facts.{solstice_year_at, year_facts_at, month_facts_at, quarter_at, term_at}
use Rattle.clerk.specs.declared.Clerk.{Clerk}
use Rattle.clerk.specs.Clerk.{step_at, start_at, walked, shown}
use Rattle.clerk.proofs.Paper as Clerks
use Rattle.planets.specs.Planets.{conjunction_at, next_at, pair_at}
use Rattle.planets.proofs.Reducing.{as-printed}
use Rattle.reading.specs.declared.Reading.{Reading}
use Rattle.reading.specs.Readings.{in_ranges, window_days, window_holds, fitting}
use Rattle.reading.specs.Search.{total, search_at, said_found}
use Rattle.emending.specs.Emended.{filled_with}
use Rattle.drawer.specs.Drawer.{days_from, drawer_at}
use Rattle.sheet.specs.declared.Counted as Counts
use Rattle.sheet.specs.Sheet.{Lists, read_into}
use Rattle.sheet.specs.Promises.{counted}
use Rattle.sheet.proofs.Reading.{reading}
use Rattle.sheet.proofs.Writing.{writing}
use Rattle.penned.specs.Promises.{year_block_at, month_line_at, month_item_at, day_item_at, Printed}
use Rattle.offered.specs.declared.CDate.{CDate}
use Rattle.offered.specs.declared.CDay.{CDay}
use Rattle.offered.specs.declared.CSolstice.{CSolstice}
use Rattle.offered.specs.declared.CYear.{CYear}
use Rattle.offered.specs.declared.CMonth.{CMonth}
use Rattle.offered.specs.declared.CClerk.{CClerk}
use Rattle.offered.specs.declared.CQuarter.{CQuarter}
use Rattle.offered.specs.declared.CTerm.{CTerm}
use Rattle.offered.specs.declared.CConjunction.{CConjunction}
use Rattle.offered.specs.declared.CNext.{CNext}
use Rattle.offered.specs.declared.CPair.{CPair}
use Rattle.offered.specs.declared.CFound.{CFound}
use Rattle.offered.specs.declared.CEmended.{CEmended}
use Rattle.offered.specs.declared.CFilled.{CFilled}
use Rattle.offered.specs.declared.CSheetCounts.{CSheetCounts}
use Rattle.offered.specs.declared.CLength.{CLength}
use Rattle.offered.specs.Flat.{
  flat,
  given_date,
  no_date,
  flat_date,
  given_day,
  no_day,
  flat_day,
  given_solstice,
  no_solstice,
  flat_solstice,
  given_year,
  no_year,
  flat_year,
  given_month,
  no_month,
  flat_month,
  given_clerk,
  no_clerk,
  flat_clerk,
  given_quarter,
  no_quarter,
  flat_quarter,
  given_term,
  no_term,
  flat_term,
  given_conjunction,
  no_conjunction,
  flat_conjunction,
  given_next,
  no_next,
  flat_next,
  given_pair,
  no_pair,
  flat_pair,
  flat_found,
  flat_emended,
  given_counts,
  no_counts,
  flat_counts,
  given_length,
  no_length,
  flat_length,
  flat_filled,
}
use Rattle.offered.specs.Structs.{
  BareDate,
  BareDay,
  BareSolstice,
  BareYear,
  BareMonth,
  BareClerk,
  BareQuarter,
  BareTerm,
  BareConjunction,
  BareNext,
  BarePair,
  BareFound,
  BareCounts,
  BareLength,
}
use Rattle.offered.proofs.Structs.{refusals-flat}
use Rattle.offered.specs.Promises.{reading_of, CDateOfDay, CPrinted}
use Rattle.offered.specs.Paper as Paper
use Rattle.offered.specs.Paper.{CAgrees}
use Rattle.offered.proofs.Sound as Sound
use Rattle.offered.proofs.Sound.{Sound, given, numbered, none-is-0}
use Rattle.offered.proofs.Drawers.{reason-of, place_of, drawer-bare, drawer-zero, single-record, record-given, says-the-drawer, of-noughts, overfull, full}
use Rattle.offered.proofs.Clerks.{at-walk, step-more, shows-month, counts-month, clerks-computed}
use Rattle.offered.proofs.Emended.{outcome-zero, emend-bare, emend-zero, emend-said, emendations-computed}
use Rattle.offered.proofs.Texts.{text-said, unwritten, year-11, line-134, month-134, day-0}
use Rattle.concordance.proofs.Cases as Verdicts
use Rattle.dates.specs.Paper.{AgreesWith}
use Rattle.dates.proofs.Computing.{dates-computed}
use Rattle.dates.proofs.Laws.{found-date}
use Rattle.dates.proofs.Paper as Dates
use Rattle.moves.proofs.Paper as Moves
use Rattle.facts.proofs.Computing.{facts-computed}
use Rattle.facts.proofs.Paper as Facts
use Rattle.planets.proofs.Computing.{planets-computed}
use Rattle.reading.proofs.Computing.{searches-computed}

-- printed bytes leave one answer and one buffer
pub one-printed :
    {x : Answer (List ℕ)} {o : List ℕ} {a b : CLength} {o₁ o₂ : List ℕ} → CPrinted x o a o₁ → CPrinted x o b o₂ → (a ≡ b) × (o₁ ≡ o₂)
one-printed p q = (p.answer ∙ sym q.answer, p.buffer ∙ sym q.buffer)

pub unique-exported : Paper.UniqueExported
unique-exported =
    record {
      date-of-day = λ d a b p q. p ∙ sym q;
      day-of-date = λ y k l m a b p q. p ∙ sym q;
      move-date = λ y k l m n a b p q. p ∙ sym q;
      solstice-year = λ y a b p q. p ∙ sym q;
      year-facts = λ y a b p q. p ∙ sym q;
      month-facts = λ n a b p q. p ∙ sym q;
      clerk-start = λ b r s p q. p ∙ sym q;
      clerk-step = λ c r s p q. p ∙ sym q;
      clerk-walk = λ b k r s p q. p ∙ sym q;
      clerk-show = λ c r s p q. p ∙ sym q;
      quarter = λ n i a b p q. p ∙ sym q;
      term = λ y k a b p q. p ∙ sym q;
      conjunction = λ n k a b p q. p ∙ sym q;
      next = λ n d a b p q. p ∙ sym q;
      pair = λ n a b p q. p ∙ sym q;
      search = λ r first last old a b new other p q. (p.answer ∙ sym q.answer, p.lent ∙ sym q.lent);
      emend = λ r first last old a b new other p q. (p.answer ∙ sym q.answer, p.lent ∙ sym q.lent);
      fill-dates = λ days old a b new other p q. (p.answer ∙ sym q.answer, p.lent ∙ sym q.lent);
      read-sheet = λ s y m d a b y₁ m₁ d₁ y₂ m₂ d₂ p q.
          (p.answer ∙ sym q.answer, p.years ∙ sym q.years, p.months ∙ sym q.months, p.days ∙ sym q.days);
      write-sheet = λ y m d o a b o₁ o₂ p q. one-printed p q;
      print-year = λ x o a b o₁ o₂ p q. one-printed p q;
      print-month-line = λ x o a b o₁ o₂ p q. one-printed p q;
      print-month = λ x o a b o₁ o₂ p q. one-printed p q;
      print-day = λ x o a b o₁ o₂ p q. one-printed p q;
      judge-text = λ s o a b o₁ o₂ p q. one-printed p q;
    }

-- an answer laid flat, whatever its struct: a refusal is bare, and reason 0 is an answer
module _ {A R : Type 0} (reason : R → ℕ) (gives : A → R) (bare : ℕ → R) (nought : (x : A) → reason (gives x) ≡ 0) where
  flat-bare : (P : R → Type 0) → ((k : ℕ) → P (bare k)) → (a : Answer A) → reason (flat gives bare a) ≢ 0 → P (flat gives bare a)
  flat-bare P h (is x) no_zero = absurd (no_zero (nought x))
  flat-bare P h (refused k) no_zero = h k
  flat-bare P h (refused-with k n) no_zero = h k

  pub is-bare : (P : R → Type 0) → ((k : ℕ) → P (bare k)) → (a : Answer A) (r : R) → r ≡ flat gives bare a → reason r ≢ 0 → P r
  is-bare P h a r e no_zero = rw (e) (flat-bare P h a (λ z. no_zero (ap reason e ∙ z)))

  -- reason 0: there is an answer x, and what is said is x laid flat
  pub is_zero :
      ((k : ℕ) → reason (bare k) ≡ k) → {a : Answer A} → Sound a → (r : R) → r ≡ flat gives bare a →
      (reason r ≡ 0) ↔ ((x : A) × (is x ≡ a) × (r ≡ gives x))
  is_zero h {a} s r e = (there a s e, λ z. ap reason z.2 ∙ nought z.0)
    where
      there : (a : Answer A) → Sound a → r ≡ flat gives bare a → reason r ≡ 0 → (x : A) × (is x ≡ a) × (r ≡ gives x)
      there a (given x) e z = (x, refl, e)
      there a (numbered why) e z = absurd (none-is-0 why (sym (h (reason_number why)) ∙ sym (ap reason e) ∙ z))

-- whatever the struct: what is said of the answer a is what an answer of the call that says a is, laid flat
module _ {A E : Type 0} (said : E → Answer A) (gives : A → E) (no : Reason → E)
    (says : (x : A) → said (gives x) ≡ is x) (says-no : (why : Reason) → said (no why) ≡ refused (reason_number why)) where
  there-is : {a : Answer A} → Sound a → (e : E) × (said e ≡ a)
  there-is (given x) = (gives x, says x)
  there-is (numbered why) = (no why, says-no why)

  pub as_said :
      {R : Type 0} (laid : Answer A → R) {a : Answer A} → Sound a → (r : R) →
      (r ≡ laid a) ↔ ((e : E) × (said e ≡ a) × (r ≡ laid (said e)))
  as_said laid s r = (λ p. ((there-is s).0, (there-is s).1, p ∙ sym (ap laid (there-is s).1)), λ z. z.2 ∙ ap laid z.1)

-- a length or counts said of what was answered: the lent memory is as it was where the query comes back
module _ {A B R : Type 0} (reason : R → ℕ) (gives : B → R) (bare : ℕ → R) (nought : (x : B) → reason (gives x) ≡ 0) (f : A → B) where
  pub untouched :
      (a : Answer A) (g : A → List ℕ) (old : List ℕ) (r : R) → r ≡ flat gives bare (and_then a (λ x. is (f x))) → reason r ≢ 0 →
      afterwards a g old ≡ old
  untouched (is x) g old r e no_zero = absurd (no_zero (ap reason e ∙ nought (f x)))
  untouched (refused k) g old r e no_zero = refl
  untouched (refused-with k n) g old r e no_zero = refl

-- printed bytes: their length is said
abbrev length_of : Answer (List ℕ) → Answer ℕ
length_of a = and_then a (λ b. is (length b))

pub printed-bare : {a : Answer (List ℕ)} {o : List ℕ} {r : CLength} {o' : List ℕ} → CPrinted a o r o' → r.reason ≢ 0 → BareLength r × (o' ≡ o)
printed-bare {a} {o} {r} p h = (
  is-bare (λ (x : CLength). x.reason) given_length no_length (λ x. refl) BareLength (λ k. (refusals-flat.length k).1) (length_of a) r p.answer h,
  p.buffer ∙ untouched (λ (x : CLength). x.reason) given_length no_length (λ x. refl) length a (λ b. b) o r p.answer h,
)

module _ {a : Answer (List ℕ)} (s : Sound a) (r : CLength) where
  length-sound : Sound (length_of a)
  length-sound = Sound.sound-then (λ b. is (length b)) s (λ b. given (length b))

  pub length-zero : r ≡ flat_length (length_of a) → (r.reason ≡ 0) ↔ ((n : ℕ) × (is n ≡ length_of a) × (r ≡ given_length n))
  length-zero e = is_zero (λ (x : CLength). x.reason) given_length no_length (λ x. refl) (λ k. refl) length-sound r e

  pub length-said : (r ≡ flat_length (length_of a)) ↔ ((h : Result ℕ Reason) × (said h ≡ length_of a) × (r ≡ flat_length (said h)))
  length-said = as_said said Ok Err (λ x. refl) (λ w. refl) flat_length length-sound r

module _ {a : Answer (List ℕ)} (s : Sound a) {o : List ℕ} {r : CLength} {o' : List ℕ} where
  printed-zero : CPrinted a o r o' → (r.reason ≡ 0) ↔ ((n : ℕ) × Printed a o (Ok n) o' × (r ≡ given_length n))
  printed-zero p = (
    λ z. let w = (length-zero s r p.answer).0 z in (w.0, record { answer = w.1; buffer = p.buffer }, w.2),
    λ w. (length-zero s r p.answer).1 (w.0, w.1.answer, w.2),
  )

  printed-said : CPrinted a o r o' ↔ ((h : Result ℕ Reason) × Printed a o h o' × (r ≡ flat_length (said h)))
  printed-said = (
    λ p. let w = (length-said s r).0 p.answer in (w.0, record { answer = w.1; buffer = p.buffer }, w.2),
    λ w. record { answer = (length-said s r).1 (w.0, w.1.answer, w.2); buffer = w.1.buffer },
  )

-- a sheet's counts
abbrev counts_of : Answer Lists → Answer Counts.Counted
counts_of a = and_then a (λ l. is (counted l))

counts-bare :
    (a : Answer Lists) (r : CSheetCounts) → r ≡ flat_counts (counts_of a) → r.reason ≢ 0 →
    BareCounts r × ((g : Lists → List ℕ) (old : List ℕ) → afterwards a g old ≡ old)
counts-bare a r e h = (
  is-bare (λ (x : CSheetCounts). x.reason) given_counts no_counts (λ x. refl) BareCounts (λ k. (refusals-flat.counts k).1) (counts_of a) r e h,
  λ g old. untouched (λ (x : CSheetCounts). x.reason) given_counts no_counts (λ x. refl) counted a g old r e h,
)

module _ {a : Answer Lists} (s : Sound a) (r : CSheetCounts) where
  counts-sound : Sound (counts_of a)
  counts-sound = Sound.sound-then (λ l. is (counted l)) s (λ l. given (counted l))

  counts_zero : r ≡ flat_counts (counts_of a) → (r.reason ≡ 0) ↔ ((c : Counts.Counted) × (is c ≡ counts_of a) × (r ≡ given_counts c))
  counts_zero e = is_zero (λ (x : CSheetCounts). x.reason) given_counts no_counts (λ x. refl) (λ k. refl) counts-sound r e

  counts-said : (r ≡ flat_counts (counts_of a)) ↔ ((c : Result Counted Reason) × (said c ≡ counts_of a) × (r ≡ flat_counts (said c)))
  counts-said = as_said said Ok Err (λ x. refl) (λ w. refl) flat_counts counts-sound r

-- a search, by its four tests
abbrev row : Bool → Bool → Bool → Bool → ℕ → Answer ℕ
row e w i t n = guard e 6 (guard w 13 (guard i 14 (guard-with t 12 n (is n))))

row-bare :
    (e w i t : Bool) (n : ℕ) (days old : List ℕ) → (flat_found (row e w i t n)).reason ≢ 0 →
    BareFound n (flat_found (row e w i t n)) × (afterwards (row e w i t n) (λ n. days) old ≡ old)
row-bare false w i t n days old h = (record { other = λ z. refl; twelve = λ z. absurd (omega (arith, z)) }, refl)
row-bare true false i t n days old h = (record { other = λ z. refl; twelve = λ z. absurd (omega (arith, z)) }, refl)
row-bare true true false t n days old h = (record { other = λ z. refl; twelve = λ z. absurd (omega (arith, z)) }, refl)
row-bare true true true true n days old h = absurd (h refl)
row-bare true true true false n days old h = (record { other = λ z. absurd (z refl); twelve = λ z. refl }, refl)

row_zero :
    (e w i t : Bool) (n : ℕ) (a : CFound) → a ≡ flat_found (row e w i t n) → a.reason ≡ 0 →
    (m : ℕ) × (is m ≡ row e w i t n) × (a ≡ flat_found (is m))
row_zero false w i t n a p z = absurd (omega (arith, z, ap (λ (x : CFound). x.reason) p))
row_zero true false i t n a p z = absurd (omega (arith, z, ap (λ (x : CFound). x.reason) p))
row_zero true true false t n a p z = absurd (omega (arith, z, ap (λ (x : CFound). x.reason) p))
row_zero true true true true n a p z = (n, refl, p)
row_zero true true true false n a p z = absurd (omega (arith, z, ap (λ (x : CFound). x.reason) p))

row-found : (e w i t : Bool) (n : ℕ) → (f : Result ℕ SearchError) × (said_found f ≡ row e w i t n)
row-found false w i t n = (Err (Refused NoSuchDay), refl)
row-found true false i t n = (Err (Refused BadWindow), refl)
row-found true true false t n = (Err (Refused FieldOutOfRange), refl)
row-found true true true true n = (Ok n, refl)
row-found true true true false n = (Err (TooShort n), refl)

module _ (r : Reading) (first last n : ℕ) where
  search-bare :
      (days old : List ℕ) (a : CFound) → a ≡ flat_found (search_at r first last n) → a.reason ≢ 0 →
      BareFound (total r first last) a × (afterwards (search_at r first last n) (λ n. days) old ≡ old)
  unfolding search_at
  search-bare days old a e no_zero =
      rw (e)
      (row-bare (leb first 14989859 && leb last 14989859) (window_holds first last) (in_ranges r) (leb (total r first last) n) (total r first last) days old
      (λ z. no_zero (ap (λ (x : CFound). x.reason) e ∙ z)))

  search-zero :
      (a : CFound) → a ≡ flat_found (search_at r first last n) → a.reason ≡ 0 →
      (m : ℕ) × (is m ≡ search_at r first last n) × (a ≡ flat_found (is m))
  unfolding search_at
  search-zero = row_zero (leb first 14989859 && leb last 14989859) (window_holds first last) (in_ranges r) (leb (total r first last) n) (total r first last)

  search-found : (f : Result ℕ SearchError) × (said_found f ≡ search_at r first last n)
  unfolding search_at
  search-found = row-found (leb first 14989859 && leb last 14989859) (window_holds first last) (in_ranges r) (leb (total r first last) n) (total r first last)

-- the clerk's answers
clerk-bare : (a : Answer Clerk) (r : CClerk) → r ≡ flat_clerk a → r.reason ≢ 0 → BareClerk r
clerk-bare = is-bare (λ (x : CClerk). x.reason) given_clerk no_clerk (λ x. refl) BareClerk (λ i. (refusals-flat.clerk i).1)

clerk-zero : {a : Answer Clerk} → Sound a → (r : CClerk) → r ≡ flat_clerk a → (r.reason ≡ 0) ↔ ((c : Clerk) × (is c ≡ a) × (r ≡ given_clerk c))
clerk-zero = is_zero (λ (x : CClerk). x.reason) given_clerk no_clerk (λ x. refl) (λ i. refl)

clerk-said :
    {a : Answer Clerk} → Sound a → (r : CClerk) → (r ≡ flat_clerk a) ↔ ((e : Result Clerk Reason) × (said e ≡ a) × (r ≡ flat_clerk (said e)))
clerk-said = as_said said Ok Err (λ x. refl) (λ w. refl) flat_clerk

pub refusal-is-bare : Paper.RefusalIsBare
refusal-is-bare =
    record {
      date-of-day = λ d r. is-bare (λ (x : CDate). x.reason) given_date no_date (λ x. refl) BareDate (λ i. (refusals-flat.date i).1) (date_at d) r;
      day-of-date = λ y k l m r.
          is-bare (λ (x : CDay). x.reason) given_day no_day (λ x. refl) BareDay (λ i. (refusals-flat.day i).1) (day_of_date y k l m) r;
      move-date = λ y k l m n r.
          is-bare (λ (x : CDate). x.reason) given_date no_date (λ x. refl) BareDate (λ i. (refusals-flat.date i).1) (moved y k l m n) r;
      solstice-year = λ y r.
          is-bare (λ (x : CSolstice). x.reason) given_solstice no_solstice (λ x. refl) BareSolstice (λ i. (refusals-flat.solstice i).1) (solstice_year_at y) r;
      year-facts = λ y r. is-bare (λ (x : CYear). x.reason) given_year no_year (λ x. refl) BareYear (λ i. (refusals-flat.year i).1) (year_facts_at y) r;
      month-facts = λ n r.
          is-bare (λ (x : CMonth). x.reason) given_month no_month (λ x. refl) BareMonth (λ i. (refusals-flat.month i).1) (month_facts_at n) r;
      clerk-start = λ b r. clerk-bare (start_at b) r;
      clerk-step = λ c r. clerk-bare (step_at c) r;
      clerk-walk = λ b k r. clerk-bare (walked b k) r;
      quarter = λ n q r.
          is-bare (λ (x : CQuarter). x.reason) given_quarter no_quarter (λ x. refl) BareQuarter (λ i. (refusals-flat.quarter i).1) (quarter_at n q) r;
      term = λ y k r. is-bare (λ (x : CTerm). x.reason) given_term no_term (λ x. refl) BareTerm (λ i. (refusals-flat.term i).1) (term_at y k) r;
      conjunction = λ n k r.
          is-bare (λ (x : CConjunction). x.reason) given_conjunction no_conjunction (λ x. refl) BareConjunction
          (λ i. (refusals-flat.conjunction i).1) (conjunction_at n k) r;
      next = λ n d r. is-bare (λ (x : CNext). x.reason) given_next no_next (λ x. refl) BareNext (λ i. (refusals-flat.next i).1) (next_at n d) r;
      pair = λ n r. is-bare (λ (x : CPair). x.reason) given_pair no_pair (λ x. refl) BarePair (λ i. (refusals-flat.pair i).1) (pair_at n) r;
      search = λ r first last old a new p h.
          let b = search-bare (reading_of r) first last (length old) (fitting (reading_of r) first (window_days first last)) old a p.answer h in
          (b.0, p.lent ∙ b.1);
      emend = λ r first last old a new p h.
          let b = emend-bare (reading_of r) first last (length old) (filled_with (reading_of r) first last) old a p.answer h in
          (b.0, p.lent ∙ b.1);
      fill-dates = λ days old r new p. drawer-bare days old r new p;
      read-sheet = λ s y m d r y' m' d' p h.
          let b = counts-bare (read_into s (length y) (length m) (length d)) r p.answer h in (
            b.0,
            p.years ∙ b.1 (λ (l : Lists). l.years) y,
            p.months ∙ b.1 (λ (l : Lists). l.months) m,
            p.days ∙ b.1 (λ (l : Lists). l.days) d,
          );
      write-sheet = λ y m d o r o' p h. printed-bare p h;
      print-year = λ x o r o' p h. printed-bare p h;
      print-month-line = λ x o r o' p h. printed-bare p h;
      print-month = λ x o r o' p h. printed-bare p h;
      print-day = λ x o r o' p h. printed-bare p h;
      judge-text = λ s o r o' p h. printed-bare p h;
    }

pub reason-0-iff-answered : Paper.Reason0IffAnswered
reason-0-iff-answered =
    record {
      date-of-day = λ d r. is_zero (λ (x : CDate). x.reason) given_date no_date (λ x. refl) (λ i. refl) (Sound.date-sound d) r;
      day-of-date = λ y k l m r. is_zero (λ (x : CDay). x.reason) given_day no_day (λ x. refl) (λ i. refl) (Sound.day-sound y k l m) r;
      move-date = λ y k l m n r. is_zero (λ (x : CDate). x.reason) given_date no_date (λ x. refl) (λ i. refl) (Sound.move-sound y k l m n) r;
      solstice-year = λ y r. is_zero (λ (x : CSolstice). x.reason) given_solstice no_solstice (λ x. refl) (λ i. refl) (Sound.solstice-sound y) r;
      year-facts = λ y r. is_zero (λ (x : CYear). x.reason) given_year no_year (λ x. refl) (λ i. refl) (Sound.year-sound y) r;
      month-facts = λ n r. is_zero (λ (x : CMonth). x.reason) given_month no_month (λ x. refl) (λ i. refl) (Sound.month-sound n) r;
      clerk-start = λ b r. clerk-zero (Sound.start-sound b) r;
      clerk-step = λ c r. clerk-zero (Sound.step-sound c) r;
      clerk-walk = λ b k r. clerk-zero (Sound.walk-sound b k) r;
      clerk-show = λ c r p. ap (λ (x : CMonth). x.reason) p;
      quarter = λ n q r. is_zero (λ (x : CQuarter). x.reason) given_quarter no_quarter (λ x. refl) (λ i. refl) (Sound.quarter-sound n q) r;
      term = λ y k r. is_zero (λ (x : CTerm). x.reason) given_term no_term (λ x. refl) (λ i. refl) (Sound.term-sound y k) r;
      conjunction = λ n k r.
          is_zero (λ (x : CConjunction). x.reason) given_conjunction no_conjunction (λ x. refl) (λ i. refl) (Sound.conjunction-sound n k) r;
      next = λ n d r. is_zero (λ (x : CNext). x.reason) given_next no_next (λ x. refl) (λ i. refl) (Sound.next-sound n d) r;
      pair = λ n r p.
          let z = is_zero (λ (x : CPair). x.reason) given_pair no_pair (λ x. refl) (λ i. refl) (Sound.pair-sound n) r p in (
            λ e. let w = z.0 e in (w.0, (as-printed n (Ok w.0)).1 w.1, w.2),
            λ w. z.1 (w.0, (as-printed n (Ok w.0)).0 w.1, w.2),
          );
      search = λ r first last old a new p. (
        λ z. let w = search-zero (reading_of r) first last (length old) a p.answer z in (w.0, record { answered = w.1; lent = p.lent }, w.2),
        λ w. ap (λ (x : CFound). x.reason) w.2,
      );
      emend = λ r first last old a new p. (
        λ z. let w = emend-zero (reading_of r) first last (length old) a p.answer z in (w.0, record { answered = w.1; lent = p.lent }, w.2),
        λ w. ap (λ (x : CEmended). x.reason) w.2 ∙ outcome-zero w.0,
      );
      fill-dates = λ days old r new p. drawer-zero days old r new p;
      read-sheet = λ s y m d r y' m' d' p.
          let z = counts_zero (Sound.read-sound s (length y) (length m) (length d)) r p.answer in (
            λ e. let w = z.0 e in (w.0, record { answer = w.1; years = p.years; months = p.months; days = p.days }, w.2),
            λ w. z.1 (w.0, w.1.answer, w.2),
          );
      write-sheet = λ y m d o r o' p.
          let s = Sound.write-sound (record { years = y; months = m; days = d }) (length o) in (
            λ z. let w = (length-zero s r p.answer).0 z in (w.0, record { answer = w.1; buffer = p.buffer }, w.2),
            λ w. (length-zero s r p.answer).1 (w.0, w.1.answer, w.2),
          );
      print-year = λ x o r o' p. printed-zero (Sound.year-printed-sound x (length o)) p;
      print-month-line = λ x o r o' p. printed-zero (Sound.line-printed-sound x (length o)) p;
      print-month = λ x o r o' p. printed-zero (Sound.month-printed-sound x (length o)) p;
      print-day = λ x o r o' p. printed-zero (Sound.day-printed-sound x (length o)) p;
      judge-text = λ s o r o' p. printed-zero (Sound.verdicts-sound s (length o)) p;
    }

pub says-what-the-call-says : Paper.SaysWhatTheCallSays
says-what-the-call-says =
    record {
      date-of-day = λ d r. date-said (Sound.date-sound d) r;
      day-of-date = λ y k l m r. as_said said Ok Err (λ x. refl) (λ w. refl) flat_day (Sound.day-sound y k l m) r;
      move-date = λ y k l m n r. date-said (Sound.move-sound y k l m n) r;
      solstice-year = λ y r. as_said said Ok Err (λ x. refl) (λ w. refl) flat_solstice (Sound.solstice-sound y) r;
      year-facts = λ y r. as_said said Ok Err (λ x. refl) (λ w. refl) flat_year (Sound.year-sound y) r;
      month-facts = λ n r. as_said said Ok Err (λ x. refl) (λ w. refl) flat_month (Sound.month-sound n) r;
      clerk-start = λ b r. clerk-said (Sound.start-sound b) r;
      clerk-step = λ c r. clerk-said (Sound.step-sound c) r;
      clerk-walk = λ b k r. clerk-said (Sound.walk-sound b k) r;
      clerk-show = λ c r. (λ p. (shown c, refl, p), λ w. w.2 ∙ ap given_month w.1);
      quarter = λ n q r. as_said said Ok Err (λ x. refl) (λ w. refl) flat_quarter (Sound.quarter-sound n q) r;
      term = λ y k r. as_said said Ok Err (λ x. refl) (λ w. refl) flat_term (Sound.term-sound y k) r;
      conjunction = λ n k r. as_said said Ok Err (λ x. refl) (λ w. refl) flat_conjunction (Sound.conjunction-sound n k) r;
      next = λ n d r. as_said said Ok Err (λ x. refl) (λ w. refl) flat_next (Sound.next-sound n d) r;
      pair = λ n r.
          let c = as_said said Ok Err (λ x. refl) (λ w. refl) flat_pair (Sound.pair-sound n) r in (
            λ p. let w = c.0 p in (w.0, (as-printed n w.0).1 w.1, w.2),
            λ w. c.1 (w.0, (as-printed n w.0).0 w.1, w.2),
          );
      search = λ r first last old a new. (
        λ p. let w = search-found (reading_of r) first last (length old) in
            (w.0, record { answered = w.1; lent = p.lent }, p.answer ∙ sym (ap flat_found w.1)),
        λ w. record { answer = w.2 ∙ ap flat_found w.1.answered; lent = w.1.lent },
      );
      emend = λ r first last old a new. (
        λ p. let w = emend-said (reading_of r) first last (length old) in
            (w.0, record { answered = w.1; lent = p.lent }, p.answer ∙ sym (ap flat_emended w.1)),
        λ w. record { answer = w.2 ∙ ap flat_emended w.1.answered; lent = w.1.lent },
      );
      fill-dates = λ days old r new held e. says-the-drawer days old r new held e;
      read-sheet = λ s y m d r y' m' d'.
          let c = counts-said (Sound.read-sound s (length y) (length m) (length d)) r in (
            λ p. let w = c.0 p.answer in (w.0, record { answer = w.1; years = p.years; months = p.months; days = p.days }, w.2),
            λ w. record { answer = c.1 (w.0, w.1.answer, w.2); years = w.1.years; months = w.1.months; days = w.1.days },
          );
      write-sheet = λ y m d o r o'.
          let c = length-said (Sound.write-sound (record { years = y; months = m; days = d }) (length o)) r in (
            λ p. let w = c.0 p.answer in (w.0, record { answer = w.1; buffer = p.buffer }, w.2),
            λ w. record { answer = c.1 (w.0, w.1.answer, w.2); buffer = w.1.buffer },
          );
      print-year = λ x o r o'. printed-said (Sound.year-printed-sound x (length o));
      print-month-line = λ x o r o'. printed-said (Sound.line-printed-sound x (length o));
      print-month = λ x o r o'. printed-said (Sound.month-printed-sound x (length o));
      print-day = λ x o r o'. printed-said (Sound.day-printed-sound x (length o));
      judge-text = λ s o r o'. printed-said (Sound.verdicts-sound s (length o));
    }
  where
    date-said :
        {a : Answer Date} → Sound a → (r : CDate) → (r ≡ flat_date a) ↔ ((e : Result Date Reason) × (said e ≡ a) × (r ≡ flat_date (said e)))
    date-said = as_said said Ok Err (λ x. refl) (λ w. refl) flat_date

pub c-term-exactly : Paper.CTermExactly
c-term-exactly y k r p e =
    let (x, t, f) = (reason-0-iff-answered.term y k r p).0 e in
    subst (λ (c : CTerm). IsTerm (year_term y k) c.day c.parts) (sym f) ((Facts.term-of-year-exactly y k x).0 t).2

pub c-term-as-before : Paper.CTermAsBefore
c-term-as-before y k r p =
    let (a, t, e) = (says-what-the-call-says.term y k r).0 p in
    sym (ap flat_day (Facts.term-as-before y k a t)) ∙ day-of (said a) ∙ ap (λ (x : CTerm). record { reason = x.reason; day = x.day }) (sym e)
  where
    day-of : (x : Answer Term) → flat_day (and_then x (λ t. is t.day)) ≡ record { reason = (flat_term x).reason; day = (flat_term x).day }
    day-of (is t) = refl
    day-of (refused n) = refl
    day-of (refused-with n m) = refl

pub c-clerk-exactly : Paper.CClerkExactly
unfolding walked
c-clerk-exactly =
    record {
      shows = λ b k r m p z s.
          let (c, w, e) = (reason-0-iff-answered.clerk-walk b k r p).0 z in
          s ∙ ap (λ (x : CClerk). given_month (shown x.clerk)) e ∙ ap flat_month (shows-month b k c w);
      counts = λ b k r p z.
          let (c, w, e) = (reason-0-iff-answered.clerk-walk b k r p).0 z in
          ap (λ (x : CClerk). x.clerk.month_count) e ∙ counts-month b k c w;
      goes_on = λ b k r s p z q.
          let (c, w, e) = (reason-0-iff-answered.clerk-walk b k r p).0 z in
          q ∙ ap (λ (x : CClerk). flat_clerk (step_at x.clerk)) e ∙ ap flat_clerk (step-more b k c w);
      from-the-start = λ b r. (λ p. p, λ p. p);
    }

-- what agrees with its own day agrees laid flat
agrees-flat : (d : ℕ) (x : Date) (r : CDate) → AgreesWith d x → r ≡ given_date x → CAgrees d r
agrees-flat d x r a e =
    let i = a.its-date in
    subst (CAgrees d) (sym e)
    record {
      its_own = ap flat_day a.its_own;
      its-date = ap flat_date ((Dates.date-of-day-exactly d x).1 ((found-date _ _ _ _ d (sym a.its_own)).0, i));
      n = i.n;
      on-its-days = i.on-its-days;
      besides = i.besides;
    }

pub c-dates-agree : Paper.CDatesAgree
c-dates-agree =
    record {
      date-of-day = of-a-day;
      move-date = λ y k l m n r p e.
          let (x, t, f) = (reason-0-iff-answered.move-date y k l m n r p).0 e in
          let (d, a) = Moves.moved-agrees y k l m n x t in
          (d, agrees-flat d x r a f);
      fill-dates = λ days old r new i none p z l. of-a-day (get_or days i 0) (get_or new i none) (single-record days old r new p z i none l)
          (record-given days old r new p z i none l);
    }
  where
    of-a-day : (d : ℕ) (r : CDate) → CDateOfDay d r → r.reason ≡ 0 → CAgrees d r
    of-a-day d r p e = let (x, t, f) = (reason-0-iff-answered.date-of-day d r p).0 e in agrees-flat d x r (Dates.date-agrees d x t) f

-- an answer that is given is no refusal, and no other is said alike
module _ {R : Type 0} (reason : R → ℕ) {r s : R} (p : r ≡ s) where
  no-refusal : reason s ≡ 0 → reason r ≢ 0 → ⊥
  no-refusal z no_zero = no_zero (ap reason p ∙ z)

  not_alike : {t : R} → r ≡ t → reason s ≢ reason t → ⊥
  not_alike q differ = differ (ap reason (sym p ∙ q))

-- two lists that differ in place i
unlike : (i : ℕ) {xs ys : List ℕ} → xs ≡ ys → get_or xs i 0 ≢ get_or ys i 0 → ⊥
unlike i e differ = differ (ap (λ (l : List ℕ). get_or l i 0) e)

-- two lists of records that differ in a day of month
unlike-records : (i : ℕ) {xs ys : List CDate} → xs ≡ ys → (get_or xs i (no_date 0)).day_of_month ≢ (get_or ys i (no_date 0)).day_of_month → ⊥
unlike-records i e differ = differ (ap (λ (l : List CDate). (get_or l i (no_date 0)).day_of_month) e)

-- what the named inputs are computed with: on an `unfolding` line such a name brings all that its own line names
dates : ℕ
unfolding moved dates-computed
dates = 0

pub wrong-exported : Paper.WrongExported
unfolding dates facts-computed clerks-computed planets-computed searches-computed emendations-computed drawer_at days_from reading writing
wrong-exported =
    record {
      refusing-days = λ r p. no-refusal (λ (x : CDate). x.reason) p refl;
      refusing-dates = λ r p. no-refusal (λ (x : CDay). x.reason) p refl;
      refusing-moves = λ r p. no-refusal (λ (x : CDate). x.reason) p refl;
      refusing-solstices = λ r p. no-refusal (λ (x : CSolstice). x.reason) p refl;
      refusing-years = λ r p. no-refusal (λ (x : CYear). x.reason) p refl;
      refusing-months = λ r p. no-refusal (λ (x : CMonth). x.reason) p refl;
      refusing-quarters = λ r p. no-refusal (λ (x : CQuarter). x.reason) p refl;
      refusing-terms = λ r p. no-refusal (λ (x : CTerm). x.reason) p refl;
      refusing-conjunctions = λ r p. no-refusal (λ (x : CConjunction). x.reason) p refl;
      refusing-nexts = λ r p. no-refusal (λ (x : CNext). x.reason) p refl;
      refusing-pairs = λ r p. no-refusal (λ (x : CPair). x.reason) p refl;
      refusing-searches = λ a new p. no-refusal (λ (x : CFound). x.reason) p.answer refl;
      refusing-sheets = λ r y m d p. no-refusal (λ (x : CSheetCounts). x.reason) p.answer refl;
      refusing-lists = λ r o p. no-refusal (λ (x : CLength). x.reason) p.answer refl;
      refusing-year-blocks = λ o r o' h p. no-refusal (λ (x : CLength). x.reason) (text-said year-11 o h p) refl;
      refusing-month-lines = λ o r o' h p. no-refusal (λ (x : CLength). x.reason) (text-said line-134 o h p) refl;
      refusing-month-items = λ o r o' h p. no-refusal (λ (x : CLength). x.reason) (text-said month-134 o h p) refl;
      refusing-day-items = λ o r o' h p. no-refusal (λ (x : CLength). x.reason) (text-said day-0 o h p) refl;
      one-date = λ r p q. not_alike (λ (x : CDate). x.day_of_month) p q (λ e. let f : ◌≡◌ {A = ℕ} 29 1 = e in omega arith);
      never-moving = λ r p q. not_alike (λ (x : CDate). x.year) p q (λ e. let f : ◌≡◌ {A = ℕ} 0 76 = e in omega arith);
      filling-none = λ a p. unlike 0 p.lent (λ e. let f : ◌≡◌ {A = ℕ} 5 0 = e in omega arith);
      copying-first = λ a p. unlike 1 p.lent (λ e. let f : ◌≡◌ {A = ℕ} 0 1 = e in omega arith);
      first_alone = λ a p. unlike 1 p.lent (λ e. let f : ◌≡◌ {A = ℕ} 5 1 = e in omega arith);
      inventing = λ a new p other. other (ap (λ (x : CFound). x.total) p.answer);
      inventing-at-12 = λ a new p other. other (ap (λ (x : CFound). x.total) p.answer);
      refusing-fits = λ a new p. no-refusal (λ (x : CEmended). x.reason) p.answer refl;
      refusing-emendations = λ a new p. no-refusal (λ (x : CEmended). x.reason) p.answer refl;
      touching-where-fits = λ a p. unlike 0 p.lent (λ e. let f : ◌≡◌ {A = ℕ} 0 5 = e in omega arith);
      emending-none = λ a p. unlike 0 p.lent (λ e. let f : ◌≡◌ {A = ℕ} 5 0 = e in omega arith);
      read-for-right = λ a p. unlike 2 p.lent (λ e. let f : ◌≡◌ {A = ℕ} 16 17 = e in omega arith);
      fitting-none = λ a new p z. differ-in-fits (sym (ap (λ (x : CEmended). x.fits) p.answer) ∙ z);
      fitting-all = λ a new p z. differ-in-fits (sym z ∙ ap (λ (x : CEmended). x.fits) p.answer);
      inventing-emendations = λ a new p other. other (ap (λ (x : CEmended). x.total) p.answer);
      inventing-emendations-at-6 = λ a new p other. other (ap (λ (x : CEmended). x.total) p.answer);
      inventing-emendations-at-12 = λ a new p other. other (ap (λ (x : CEmended). x.total) p.answer);
      refusing-drawers = λ r x new p. no-refusal reason-of p.answer refl;
      filling-no-record = λ r p. unlike-records 0 p.lent (λ e. let f : ◌≡◌ {A = ℕ} 1 30 = e in omega arith);
      first-record-over = λ r x y p. unlike-records 1 p.lent (λ e. let f : ◌≡◌ {A = ℕ} 30 1 = e in omega arith);
      skipping-second = λ r p. unlike-records 1 p.lent (λ e. let f : ◌≡◌ {A = ℕ} 1 30 = e in omega arith);
      last-bad-place = λ r x new p other. other (ap place_of p.answer);
      beyond-the-last = λ r p. unlike-records 1 p.lent (λ e. let f : ◌≡◌ {A = ℕ} 30 1 = e in omega arith);
      turned_round = λ r x y p. unlike-records 0 p.lent (λ e. let f : ◌≡◌ {A = ℕ} 1 30 = e in omega arith);
      filled-before-refusal = λ r p. unlike-records 0 p.lent (λ e. let f : ◌≡◌ {A = ℕ} 30 1 = e in omega arith);
      six-before-twelve = λ r new p other. other (ap reason-of p.answer);
      twelve-before-ten = λ r new p other. other (ap reason-of (p.answer ∙ ap flat_filled (overfull 4097 0 (omega arith))));
      full-refused = λ r x new p. no-refusal reason-of (p.answer ∙ ap flat_filled (full 4096 x (omega arith))) refl;
      overfull-taken = λ r x new p z. omega (arith, of-noughts 4097, ((drawer-zero (replicate 4097 0) (replicate 4097 x) r new p).0 z).not-too-many);
      second-big-refused = λ r x new p. no-refusal reason-of p.answer refl;
      inventing-a-count = λ r x new p other. other (ap (λ (x : CFilled). x.count) p.answer);
      refusing-starts = λ r p. no-refusal (λ (x : CClerk). x.reason) p refl;
      refusing-steps = λ r s p q. no-refusal (λ (x : CClerk). x.reason) (q ∙ ap (λ (x : CClerk). flat_clerk (step_at x.clerk)) p) refl;
      refusing-walks = λ r p. no-refusal (λ (x : CClerk). x.reason) (at-walk 1 129 p) refl;
      refusing-shows = λ c r p. no-refusal (λ (x : CMonth). x.reason) p refl;
      never-stepping = λ c p.
          let (d, w, e) = (reason-0-iff-answered.clerk-step c (given_clerk c) p).0 refl in
          omega (arith, (Clerks.one-step-by-additions c d w).count, ap (λ (x : CClerk). x.clerk.month_count) e);
      never-walking = λ r p q. not_alike (λ (x : CClerk). x.clerk.month_count) p (at-walk 1 1 q) (λ e. let f : ◌≡◌ {A = ℕ} 0 1 = e in omega arith);
      one-month-shown = λ r s m p q u v.
          not_alike (λ (x : CMonth). x.first_day) (u ∙ ap (λ (x : CClerk). given_month (shown x.clerk)) p)
          (v ∙ ap (λ (x : CClerk). given_month (shown x.clerk)) (at-walk 1 1 q)) (λ e. let f : ◌≡◌ {A = ℕ} 0 29 = e in omega arith);
      bu-from-0 = λ r p other. other (ap (λ (x : CClerk). x.clerk.month_count) p);
      bu-0-taken = λ r p other. other (ap (λ (x : CClerk). x.reason) p);
      bu-541-taken = λ r p other. other (ap (λ (x : CClerk). x.reason) p);
      past-the-last = λ r p other. other (ap (λ (x : CClerk). x.reason) (at-walk 540 940 p));
      stopping-before = λ r p. no-refusal (λ (x : CClerk). x.reason) (at-walk 540 939 p) refl;
      reading-none = λ r m d p. unlike 0 p.years (λ e. let f : ◌≡◌ {A = ℕ} 0 11 = e in omega arith);
      reading-first-over = λ r m d p. unlike 1 p.years (λ e. let f : ◌≡◌ {A = ℕ} 11 12 = e in omega arith);
      reading-first-alone = λ r m d p. unlike 1 p.years (λ e. let f : ◌≡◌ {A = ℕ} 0 12 = e in omega arith);
      writing-first-over = λ r p. unlike 4 p.buffer (λ e. let f : ◌≡◌ {A = ℕ} 11 12 = e in omega arith);
      writing-first-alone = λ r p. unlike 4 p.buffer (λ e. let f : ◌≡◌ {A = ℕ} 0 12 = e in omega arith);
      writing-none = λ r p. unlike 0 p.buffer (λ e. let f : ◌≡◌ {A = ℕ} 0 1 = e in omega arith);
      unwritten-year-blocks = λ o r h z p. unwritten year-11 o h (omega arith) z p;
      unwritten-month-lines = λ o r h z p. unwritten line-134 o h (omega arith) z p;
      unwritten-month-items = λ o r h z p. unwritten month-134 o h (omega arith) z p;
      unwritten-day-items = λ o r h z p. unwritten day-0 o h (omega arith) z p;
    }
  where
    differ-in-fits : true ≡ false → ⊥
    differ-in-fits e = let o : ◌≡◌ {A = ℕ} 0 1 = cc in omega arith

-- a text's verdicts at a named text: what is said, and what the list holds
module _ {a : Answer (List ℕ)} {xs o o' : List ℕ} {r : CLength} (e : a ≡ is xs) (p : CPrinted a o r o') where
  verdicts-said : r ≡ given_length (length xs)
  verdicts-said = p.answer ∙ ap (λ (b : Answer (List ℕ)). flat_length (length_of b)) e

  verdicts-put : o' ≡ placed xs o
  verdicts-put = p.buffer ∙ ap (λ (b : Answer (List ℕ)). afterwards b (λ c. c) o) e

first-verdict : {a : Answer (List ℕ)} {x v : ℕ} {o o' : List ℕ} {r : CLength} → a ≡ is (x ∷ []) → CPrinted a o r (v ∷ o') → v ≢ x → ⊥
first-verdict e p other = other (ap (λ (l : List ℕ). get_or l 0 0) (verdicts-put e p))

pub wrong-exported-verdicts : Paper.WrongExportedVerdicts
wrong-exported-verdicts =
    record {
      refusing-texts = λ r o p. no-refusal (λ (x : CLength). x.reason) (verdicts-said Verdicts.big-pair p) refl;
      second-big-struck-out = λ r v p. first-verdict Verdicts.big-pair p;
      unwritten-verdicts = λ r p. unlike 0 (verdicts-put Verdicts.big-pair p) (λ e. let f : ◌≡◌ {A = ℕ} 9 0 = e in omega arith);
      all_right = λ r p. first-verdict Verdicts.short-month p (λ e. omega (arith, e));
      first-line-alone = λ r o p other. other (ap (λ (x : CLength). x.length) (verdicts-said Verdicts.two-lines p));
      leading-zero = λ r v p. first-verdict Verdicts.leading-zero p;
      carriage-return = λ r v p. first-verdict Verdicts.carriage-return p;
      out_of_range = λ r v p. first-verdict Verdicts.out_of_range p;
    }

pub wrong-low-bits : Paper.WrongLowBits
unfolding dates facts-computed clerks-computed planets-computed searches-computed emendations-computed year_block_at month_line_at month_item_at day_item_at
wrong-low-bits =
    record {
      days = λ r p q. not_alike (λ (x : CDate). x.reason) p q (above 6 (omega arith));
      years-of-dates = λ r p q. not_alike (λ (x : CDay). x.reason) p q (above 1 (omega arith));
      numbers-of-dates = λ r p q. not_alike (λ (x : CDay). x.reason) p q (above 2 (omega arith));
      days-of-dates = λ r p q. not_alike (λ (x : CDay). x.reason) p q (above 3 (omega arith));
      years-of-moves = λ r p q. not_alike (λ (x : CDate). x.reason) p q (above 1 (omega arith));
      numbers-of-moves = λ r p q. not_alike (λ (x : CDate). x.reason) p q (above 2 (omega arith));
      days-of-moves = λ r p q. not_alike (λ (x : CDate). x.reason) p q (above 3 (omega arith));
      moves = λ r p q. not_alike (λ (x : CDate). x.reason) p q (above 8 (omega arith));
      solstices = λ r p q. not_alike (λ (x : CSolstice). x.reason) p q (above 1 (omega arith));
      years = λ r p q. not_alike (λ (x : CYear). x.reason) p q (above 1 (omega arith));
      months = λ r p q. not_alike (λ (x : CMonth). x.reason) p q (above 7 (omega arith));
      bu-of-starts = λ r p q. not_alike (λ (x : CClerk). x.reason) p q (above 21 (omega arith));
      bu-of-walks = λ r p q. not_alike (λ (x : CClerk). x.reason) (at-walk 4294967297 0 p) (at-walk 1 0 q) (above 21 (omega arith));
      steps-of-walks = λ r p q. not_alike (λ (x : CClerk). x.reason) (at-walk 1 4294967296 p) (at-walk 1 0 q) (above 7 (omega arith));
      months-of-quarters = λ r p q. not_alike (λ (x : CQuarter). x.reason) p q (above 7 (omega arith));
      quarters = λ r p q. not_alike (λ (x : CQuarter). x.reason) p q (above 15 (omega arith));
      years-of-terms = λ r p q. not_alike (λ (x : CTerm). x.reason) p q (above 1 (omega arith));
      terms = λ r p q. not_alike (λ (x : CTerm). x.reason) p q (above 15 (omega arith));
      planets = λ r p q. not_alike (λ (x : CConjunction). x.reason) p q (above 19 (omega arith));
      counts = λ r p q. not_alike (λ (x : CConjunction). x.reason) p q (above 6 (omega arith));
      planets-of-nexts = λ r p q. not_alike (λ (x : CNext). x.reason) p q (above 19 (omega arith));
      days-of-nexts = λ r p q. not_alike (λ (x : CNext). x.reason) p q (above 6 (omega arith));
      planets-of-pairs = λ r p q. not_alike (λ (x : CPair). x.reason) p q (above 19 (omega arith));
      first-days = λ a new other p q. not_alike (λ (x : CFound). x.reason) p.answer q.answer (above 6 (omega arith));
      last-days = λ a new other p q. not_alike (λ (x : CFound). x.reason) p.answer q.answer (above 6 (omega arith));
      year-names = λ a new other p q. not_alike (λ (x : CFound). x.reason) p.answer q.answer (above 14 (omega arith));
      month-numbers = λ a new other p q. not_alike (λ (x : CFound). x.reason) p.answer q.answer (above 14 (omega arith));
      leap-marks = λ a new other p q. not_alike (λ (x : CFound). x.reason) p.answer q.answer (above 14 (omega arith));
      days-of-month = λ a new other p q. not_alike (λ (x : CFound). x.reason) p.answer q.answer (above 14 (omega arith));
      day-names = λ a new other p q. not_alike (λ (x : CFound). x.reason) p.answer q.answer (above 14 (omega arith));
      first-names = λ a new other p q. not_alike (λ (x : CFound). x.reason) p.answer q.answer (above 14 (omega arith));
      emended-first-days = λ a new other p q. not_alike (λ (x : CEmended). x.reason) p.answer q.answer (above 6 (omega arith));
      emended-last-days = λ a new other p q. not_alike (λ (x : CEmended). x.reason) p.answer q.answer (above 6 (omega arith));
      emended-year-names = λ a new other p q. not_alike (λ (x : CEmended). x.reason) p.answer q.answer (above 14 (omega arith));
      emended-month-numbers = λ a new other p q. not_alike (λ (x : CEmended). x.reason) p.answer q.answer (above 14 (omega arith));
      emended-leap-marks = λ a new other p q. not_alike (λ (x : CEmended). x.reason) p.answer q.answer (above 14 (omega arith));
      emended-days-of-month = λ a new other p q. not_alike (λ (x : CEmended). x.reason) p.answer q.answer (above 14 (omega arith));
      emended-day-names = λ a new other p q. not_alike (λ (x : CEmended). x.reason) p.answer q.answer (above 14 (omega arith));
      emended-first-names = λ a new other p q. not_alike (λ (x : CEmended). x.reason) p.answer q.answer (above 14 (omega arith));
      year-blocks = λ o r o₁ o₂ h p q. not_alike (λ (x : CLength). x.reason) p.answer (text-said year-11 o h q) (above 1 (omega arith));
      month-lines = λ o r o₁ o₂ h p q. not_alike (λ (x : CLength). x.reason) p.answer (text-said line-134 o h q) (above 7 (omega arith));
      month-items = λ o r o₁ o₂ h p q. not_alike (λ (x : CLength). x.reason) p.answer (text-said month-134 o h q) (above 7 (omega arith));
      day-items = λ o r o₁ o₂ h p q. not_alike (λ (x : CLength). x.reason) p.answer (text-said day-0 o h q) (above 6 (omega arith));
    }
  where
    above : (k : ℕ) → 0 < k → k ≢ 0
    above k h e = omega (arith, e)
