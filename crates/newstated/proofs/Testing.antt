-- Laws of what is asked of a reading: its rows by its eight numbers, and the search's own tests. Assumes nothing.
use Rattle.std.specs.Prelude.{Result, Err}
use Rattle.reading.specs.declared.SearchError.{SearchError}
use Rattle.reading.specs.declared.SearchError.TheVariants.{Refused}
use Prim.Native.Nat.{ℕ, zero, suc, ◌≤◌}
use native.Mathlib.Omega.{arith}
use mathlib.Core.Path.{◌≡◌, refl, ap, sym, ◌∙◌, subst}
use mathlib.Core.Logic.{◌↔◌, ⊎_elim}
use mathlib.Core.Bool.{Bool, true, false, ◌&&◌}
use mathlib.Core.List.{List}
use lib.Dec.{leb}
use lib.ListN.{length, get_or}
use Rattle.rule.specs.Reasons.{Answer, is, refused, guard, guard-with, reason_number}
use Rattle.rule.specs.declared.Reason.{Reason}
use Rattle.rule.proofs.Answers.{both_true, at_most, within-true, given-not}
use Rattle.reading.specs.Readings.{field_in_range, in_ranges, window_holds, window_days}
use Rattle.reading.specs.Search.{where_good, total, search_at, said_found, Searched}
use Rattle.reading.proofs.Answered.{made}
use Rattle.reading.proofs.Paper.{unique-search}
use Rattle.sheet.specs.Faults.{Row}
use Rattle.sheet.proofs.Deciding.{Decides, asks, asks-first, if-refused}
use Rattle.newsheet.specs.Faults.{FieldsThere, GoodReading, ReadingFault}
use Rattle.newsheet.specs.New.{field_by, reading_in, first_in, last_in, tested, is_given, reason_in}

-- a field is in its range where its number is at most the range's last: 0 is unread
field-iff : (k most : ℕ) → (field_in_range (field_by k) most ≡ true) ↔ (k ≤ most)
field-iff zero most = (λ h. omega arith, λ h. refl)
field-iff (suc k) most = (λ h. ((within-true 1 most (suc k)).0 h).1, λ h. (within-true 1 most (suc k)).1 (omega arith, h))

fields-iff : (v : List ℕ) → (in_ranges (reading_in v) ≡ true) ↔ FieldsThere v
unfolding in_ranges
fields-iff v =
    let f : (i most : ℕ) → (field_in_range (field_by (get_or v i 0)) most ≡ true) ↔ (get_or v i 0 ≤ most) = λ i most. field-iff (get_or v i 0) most in
    let e = both_true _ _ (both_true _ _ (both_true _ _ (both_true _ _ (both_true _ _ (f 0 60) (f 1 12)) (f 2 2)) (f 3 30)) (f 4 60)) (f 5 60) in (
      λ h.
          let g = e.0 h in
          record {
            year-name = g.0.0.0.0.0;
            month-number = g.0.0.0.0.1;
            leap-mark = g.0.0.0.1;
            day-of-month = g.0.0.1;
            day-name = g.0.1;
            first-name = g.1;
          },
      λ g.
          e.1 (((((g.year-name, g.month-number), g.leap-mark), g.day-of-month), g.day-name), g.first-name),
    )

-- what the tests decide, whatever comes after them
tests-decided : {A : Type 0} (v : List ℕ) (x : A) → Decides (where_good (reading_in v) (first_in v) (last_in v) (is x)) x (ReadingFault v) (GoodReading v)
tests-decided v x =
    asks-first (leb (first_in v) 14989859 && leb (last_in v) 14989859) 6
    (both_true _ _ (at_most (first_in v) 14989859) (at_most (last_in v) 14989859))
    (asks-first (window_holds (first_in v) (last_in v)) 13
    (both_true _ _ (at_most (first_in v) (last_in v)) (at_most (window_days (first_in v) (last_in v)) 27759))
    (asks (in_ranges (reading_in v)) 14 (fields-iff v) x))

tested-decided : (v : List ℕ) → Decides (tested v) (tt {0}) (ReadingFault v) (GoodReading v)
unfolding tested
tested-decided v = tests-decided v (tt {0})

-- a bool that is both
both : {P : Type 0} (b : Bool) → b ≡ false → b ≡ true → P
both b h e = absurd (let o : ◌≡◌ {A = Bool} false true = sym h ∙ e in let z : ◌≡◌ {A = ℕ} 0 1 = cc in omega arith)

module _ (v : List ℕ) where
  not-given : (r : ℕ) → ReadingFault v r → is_given (tested v) ≡ false
  not-given r f = ap is_given ((tested-decided v).told r f)

  pub good-iff : (is_given (tested v) ≡ true) ↔ GoodReading v
  good-iff = (
    λ h. ⊎_elim (λ (f : (r : ℕ) × ReadingFault v r). both (is_given (tested v)) (not-given f.0 f.1) h) (λ (g : GoodReading v). g)
        (tested-decided v).decided,
    λ g. ap is_given ((tested-decided v).given g),
  )

  pub fault-iff : (r : ℕ) → Row (is_given (tested v) ≡ true) (reason_in (tested v)) r ↔ ReadingFault v r
  fault-iff r = (
    λ w.
        ⊎_elim (λ (f : (q : ℕ) × ReadingFault v q).
        subst (ReadingFault v) (sym (w.reason ∙ ap reason_in ((tested-decided v).told f.0 f.1))) f.1)
        (λ (g : GoodReading v). absurd (w.fails (good-iff.1 g))) (tested-decided v).decided,
    λ f.
        record {
          fails = λ h. both (is_given (tested v)) (not-given r f) h;
          reason = sym (ap reason_in ((tested-decided v).told r f));
        },
  )

-- the same tests before another answer, which is no such refusal
abbrev none : Answer (Unit {0})
none = is tt

-- a refusal is the same of whatever would be given
alike : {A B : Type 0} (j k : ℕ) → ◌≡◌ {A = Answer A} (refused j) (refused k) → ◌≡◌ {A = Answer B} (refused j) (refused k)
alike j k h = let e : j ≡ k = cc in ap refused e

tests-alike : (p q t : Bool) (x : Answer ℕ) (k : ℕ) → guard p 6 (guard q 13 (guard t 14 none)) ≡ refused k → guard p 6 (guard q 13 (guard t 14 x)) ≡ refused k
tests-alike true true true x k h = absurd (given-not none (tt {0}) k refl h)
tests-alike true true false x k h = alike 14 k h
tests-alike true false t x k h = alike 13 k h
tests-alike false q t x k h = alike 6 k h

tests-back : (p q t : Bool) (x : Answer ℕ) (k : ℕ) → (x ≡ refused k → ⊥) → guard p 6 (guard q 13 (guard t 14 x)) ≡ refused k →
    guard p 6 (guard q 13 (guard t 14 none)) ≡ refused k
tests-back true true true x k n h = absurd (n h)
tests-back true true false x k n h = alike 14 k h
tests-back true false t x k n h = alike 13 k h
tests-back false q t x k n h = alike 6 k h

-- what comes after the tests of a search is no refusal without its total
no-refusal : (t : Bool) (m n k : ℕ) → guard-with t 12 m (is n) ≡ refused k → ⊥
no-refusal true m n k h = given-not (is n) n k refl h
no-refusal false m n k h = let o : ◌≡◌ {A = ℕ} 0 1 = cc in omega arith

pub search-tests : (v old new : List ℕ) (a : Result ℕ SearchError) (why : Reason) → Searched (reading_in v) (first_in v) (last_in v) old a new →
    (a ≡ Err (Refused why)) ↔ ReadingFault v (reason_number why)
unfolding search_at tested
search-tests v old new a why p =
    let k = reason_number why in
    let ends = leb (first_in v) 14989859 && leb (last_in v) 14989859 in
    let window = window_holds (first_in v) (last_in v) in
    let fields = in_ranges (reading_in v) in
    let n = total (reading_in v) (first_in v) (last_in v) in
    let x : Answer ℕ = guard-with (leb n (length old)) 12 n (is n) in (
      λ e.
          let h : search_at (reading_in v) (first_in v) (last_in v) (length old) ≡ refused k = sym p.answered ∙ ap said_found e in
          if-refused (tested-decided v) k (tests-back ends window fields x k (no-refusal (leb n (length old)) n n k) h),
      λ f.
          let h : search_at (reading_in v) (first_in v) (last_in v) (length old) ≡ refused k = tests-alike ends window fields x k ((tested-decided v).told k f) in
          (unique-search (reading_in v) (first_in v) (last_in v) old a (Err (Refused why)) new old p (made (Err (Refused why)) h refl refl)).0,
    )
