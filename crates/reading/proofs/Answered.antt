-- What a search answers at each return, over plain values. Assumes nothing.
use Rattle.std.specs.Prelude.{Result, Ok, Err}
use Prim.Native.Nat.{ℕ, ◌≤◌, ◌<◌}
use native.Mathlib.Omega.{arith}
use mathlib.Core.Path.{◌≡◌, refl, ap, sym, ◌∙◌}
use mathlib.Core.Logic.{◌↔◌}
use mathlib.Core.Bool.{Bool, true, false, ◌&&◌, and-false}
use mathlib.Core.List.{List}
use lib.Dec.{leb}
use lib.ListN.{length}
use borrow.Author.Tests.{leb-true, le-leb, lt-leb}
use Rattle.rule.specs.Counts.{DayInRange}
use Rattle.rule.specs.Reasons.{Answer, said, is, refused, refused-with, guard, reason_number, reason_of, afterwards}
use Rattle.rule.specs.declared.Reason.{Reason}
use Rattle.rule.proofs.Answers.{both_true, reason-back, one-to-one}
use Rattle.reading.specs.declared.Reading.{Reading}
use Rattle.reading.specs.declared.SearchError.{SearchError}
use Rattle.reading.specs.declared.SearchError.TheVariants.{Refused, TooShort}
use Rattle.reading.specs.Readings.{in_ranges, window_days, window_holds, fitting}
use Rattle.reading.specs.Search.{total, where_good, search_at, said_found, Searched}

-- a window: its last day is not before its first, and it has at most 27,759 days
pub window-true : (first last : ℕ) → (window_holds first last ≡ true) ↔ ((first ≤ last) × (window_days first last ≤ 27759))
window-true first last =
    both_true (leb first last) (leb (window_days first last) 27759) (leb-true first last, le-leb first last)
    (leb-true (window_days first last) 27759, le-leb (window_days first last) 27759)

-- what the tests of a search let through: both ends are days, the window is one, the known fields are in their ranges
pub record Passed (r : Reading) (first last : ℕ) : Type 0 where
  pub ends : DayInRange first × DayInRange last
  pub window : window_holds first last ≡ true
  pub fields : in_ranges r ≡ true

-- both ends are days
pub ends-true : (first last : ℕ) → ((leb first 14989859 && leb last 14989859) ≡ true) ↔ (DayInRange first × DayInRange last)
ends-true first last =
    both_true (leb first 14989859) (leb last 14989859) (leb-true first 14989859, le-leb first 14989859)
    (leb-true last 14989859, le-leb last 14989859)

-- the tests of a search, in their order
module _ {A : Type 0} (r : Reading) (first last : ℕ) (a : Answer A) where
  pub first-outside : 14989859 < first → where_good r first last a ≡ refused 6
  first-outside h = rw (lt-leb first 14989859 h)

  pub last-outside : 14989859 < last → where_good r first last a ≡ refused 6
  last-outside h = rw (lt-leb last 14989859 h, and-false (leb first 14989859))

  module _ (f : DayInRange first) (l : DayInRange last) where
    ends : (leb first 14989859 && leb last 14989859) ≡ true
    ends = (ends-true first last).1 (f, l)

    pub bad-window : window_holds first last ≡ false → where_good r first last a ≡ refused 13
    bad-window h = rw (ends, h)

    pub bad-field : window_holds first last ≡ true → in_ranges r ≡ false → where_good r first last a ≡ refused 14
    bad-field w h = rw (ends, w, h)

    pub all-good : window_holds first last ≡ true → in_ranges r ≡ true → where_good r first last a ≡ a
    all-good w h = rw (ends, w, h)

-- three tests that fail before one answer fail before any, and let any other through where they let one through
failing : {A B : Type 0} (e w i : Bool) (k : ℕ) (x : A) (a : Answer B) →
    refused k ≡ guard e 6 (guard w 13 (guard i 14 (is x))) → guard e 6 (guard w 13 (guard i 14 a)) ≡ refused k
failing true true true k x a h = absurd (let o : ◌≡◌ {A = ℕ} 0 1 = cc in omega arith)
failing {A} {B} true true false k x a h = ap refused (sym (let f : k ≡ 14 = let g : ◌≡◌ {A = Answer A} (refused k) (refused 14) = h in cc in f))
failing {A} {B} true false i k x a h = ap refused (sym (let f : k ≡ 13 = let g : ◌≡◌ {A = Answer A} (refused k) (refused 13) = h in cc in f))
failing {A} {B} false w i k x a h = ap refused (sym (let f : k ≡ 6 = let g : ◌≡◌ {A = Answer A} (refused k) (refused 6) = h in cc in f))

holding : {A : Type 0} (e w i : Bool) (x : A) → is x ≡ guard e 6 (guard w 13 (guard i 14 (is x))) → (e ≡ true) × (w ≡ true) × (i ≡ true)
holding true true true x h = (refl, refl, refl)
holding true true false x h = absurd (let o : ◌≡◌ {A = ℕ} 0 1 = cc in omega arith)
holding true false i x h = absurd (let o : ◌≡◌ {A = ℕ} 0 1 = cc in omega arith)
holding false w i x h = absurd (let o : ◌≡◌ {A = ℕ} 0 1 = cc in omega arith)

module _ (r : Reading) (first last : ℕ) where
  pub test-fails : {A : Type 0} (a : Answer A) (why : Reason) → said (Err why) ≡ where_good r first last (is (tt {0})) →
      where_good r first last a ≡ refused (reason_number why)
  test-fails a why h = failing (leb first 14989859 && leb last 14989859) (window_holds first last) (in_ranges r) (reason_number why) (tt {0}) a h

  -- the window is one in the range, and the known fields are in their ranges
  pub test-holds : said (Ok (tt {0})) ≡ where_good r first last (is (tt {0})) → Passed r first last
  test-holds h =
      let t = holding (leb first 14989859 && leb last 14989859) (window_holds first last) (in_ranges r) (tt {0}) h in
      record { ends = (ends-true first last).0 t.0; window = t.1; fields = t.2 }

-- a search whose tests fail
pub searched-good : (r : Reading) (first last room : ℕ) (why : Reason) → said (Err why) ≡ where_good r first last (is (tt {0})) →
    search_at r first last room ≡ refused (reason_number why)
unfolding search_at
searched-good r first last room why h = test-fails r first last _ why h

-- and one whose tests hold
module _ (r : Reading) (first last room : ℕ) (g : Passed r first last) where
  pub too_short : (n : ℕ) → n ≡ length (fitting r first (window_days first last)) → room < n → search_at r first last room ≡ refused-with 12 n
  unfolding search_at total
  too_short n e h = all-good r first last _ g.ends.0 g.ends.1 g.window g.fields ∙ rw (← e, lt-leb n room h)

  pub room-enough : (n : ℕ) → n ≡ length (fitting r first (window_days first last)) → n ≤ room → search_at r first last room ≡ is n
  unfolding search_at total
  room-enough n e h = all-good r first last _ g.ends.0 g.ends.1 g.window g.fields ∙ rw (← e, le-leb n room h)

-- the promise, from what is answered
pub made : {r : Reading} {first last : ℕ} {old : List ℕ} {x : Answer ℕ} (a : Result ℕ SearchError) {new : List ℕ} →
    search_at r first last (length old) ≡ x → said_found a ≡ x →
    new ≡ afterwards x (λ n. fitting r first (window_days first last)) old → Searched r first last old a new
made {r} {first} {last} {old} a e f g =
    record {
      answered = f ∙ sym e;
      lent = g ∙ ap (λ (y : Answer ℕ). afterwards y (λ n. fitting r first (window_days first last)) old) (sym e);
    }

-- a result is the only one that says what it says
module _ {A : Type 0} where
  back-to-found : Answer A → Result A SearchError
  back-to-found (is a) = Ok a
  back-to-found (refused k) = Err (Refused (reason_of k))
  back-to-found (refused-with k n) = Err (TooShort n)

  found-back : (a : Result A SearchError) → back-to-found (said_found a) ≡ a
  unfolding back-to-found
  found-back (Ok a) = refl
  found-back (Err (TooShort n)) = refl
  found-back (Err (Refused why)) = ap (λ k. Err (Refused k)) (reason-back why)

  pub found-once : (a b : Result A SearchError) → said_found a ≡ said_found b → a ≡ b
  found-once = one-to-one said_found back-to-found found-back
