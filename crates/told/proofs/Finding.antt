-- Laws of a search into a list with places enough for the longest window. Assumes nothing.
use Rattle.std.specs.Prelude.{Result, Ok}
use Rattle.reading.specs.declared.SearchError.{SearchError}
use Prim.Native.Nat.{ℕ, ◌≤◌, ◌<◌}
use native.Mathlib.Omega.{arith}
use mathlib.Core.Path.{◌≡◌, refl, ap, sym, ◌∙◌}
use mathlib.Core.Bool.{Bool, true, false, ◌&&◌}
use mathlib.Core.List.{List}
use lib.Dec.{leb}
use lib.ListN.{length, get_or, take, drop, length-append, get_or-append}
use borrow.Author.Tests.{le-leb}
use Rattle.rule.specs.Counts.{DayInRange}
use Rattle.rule.specs.Lists.{placed}
use Rattle.rule.specs.Reasons.{Answer, is, refused, refused-with, guard, guard-with, afterwards}
use Rattle.rule.proofs.Answers.{goes_on, given-not}
use Rattle.rule.proofs.Lists.{complement, at-place}
use Rattle.told.specs.Answers.{places}
use Rattle.told.proofs.Refusing.{NeverWith, never-is, never-refused}
use Rattle.sheet.proofs.Places.{front}
use Rattle.reading.specs.declared.Reading.{Reading}
use Rattle.reading.specs.Readings.{in_ranges, fits, window_days, window_holds, fitting}
use Rattle.reading.specs.Search.{total, where_good, search_at, said_found, Searched}
use Rattle.reading.specs.Paper.{IsWindow, GoodSearch}
use Rattle.reading.proofs.Answered.{window-true}
use Rattle.reading.proofs.Rows.{comes}

-- what comes behind the tests of a search and of an emendation: alike, given and never refused, where it is in a window
module _ {A : Type 0} (r : Reading) (first last : ℕ) where
  pub alike-behind : (a b : Answer A) → (IsWindow first last → a ≡ b) → where_good r first last a ≡ where_good r first last b
  alike-behind a b h = ap (guard (leb first 14989859 && leb last 14989859) 6) (go (window_holds first last) refl)
    where
      go : (t : Bool) → window_holds first last ≡ t → guard t 13 (guard (in_ranges r) 14 a) ≡ guard t 13 (guard (in_ranges r) 14 b)
      go false e = refl
      go true e = ap (guard (in_ranges r) 14) (h ((window-true first last).0 e))

  -- where x is said, and x is none of their reasons, it is said behind them
  behind : (a x : Answer A) → ((k : ℕ) → (k ≡ 12 → ⊥) → refused k ≡ x → ⊥) → where_good r first last a ≡ x → IsWindow first last × (a ≡ x)
  behind a x other e =
      let l = (goes_on (leb first 14989859 && leb last 14989859) 6 _ x (other 6 (λ f. omega (arith, f)))).0 e in
      let m = (goes_on (window_holds first last) 13 _ x (other 13 (λ f. omega (arith, f)))).0 l.1 in
      let n = (goes_on (in_ranges r) 14 _ x (other 14 (λ f. omega (arith, f)))).0 m.1 in
      ((window-true first last).0 m.0, n.1)

  pub never-behind : (a : Answer A) (x : A) → (IsWindow first last → a ≡ is x) → NeverWith (where_good r first last a)
  never-behind a x h j n e =
      let b = behind a (refused-with j n) (λ k o f. never-refused k j n f) e in
      never-is x j n (sym (h b.0) ∙ b.1)

  pub twelve-behind : (a : Answer A) (x : A) → (IsWindow first last → a ≡ is x) → where_good r first last a ≡ refused 12 → ⊥
  twelve-behind a x h e = let b = behind a (refused 12) (λ k o f. o (cc)) e in given-not a x 12 (h b.0) b.1

-- an answer that needs so many places, where there are as many
pub has_room : {A : Type 0} (x : A) (need n room : ℕ) → need ≤ room → guard-with (leb need room) 12 n (is x) ≡ is x
has_room x need n room h = rw (le-leb need room h)

-- as many days fit at most as the window has
total-few : (r : Reading) (first last : ℕ) → total r first last ≤ window_days first last
unfolding total fitting
total-few r first last = omega (arith, complement (fits r) first (window_days first last))

pub searched-few : (r : Reading) (first last : ℕ) → IsWindow first last → total r first last ≤ 27759
searched-few r first last w = omega (arith, w.1, total-few r first last)

-- so a search is answered with the total, whatever room there is above so many places
searched-is : (r : Reading) (first last room : ℕ) → places ≤ room → IsWindow first last →
    guard-with (leb (total r first last) room) 12 (total r first last) (is (total r first last)) ≡ is (total r first last)
searched-is r first last room h w =
    has_room (total r first last) (total r first last) (total r first last) room (omega (arith, searched-few r first last w))

-- more make no difference
pub room-enough : (r : Reading) (first last room : ℕ) → places ≤ room → search_at r first last room ≡ search_at r first last places
unfolding search_at
room-enough r first last room h =
    alike-behind r first last _ _ (λ w. searched-is r first last room h w ∙ sym (searched-is r first last places (omega arith) w))

-- and none is refused for want of a place
pub searched-never-with : (r : Reading) (first last : ℕ) → NeverWith (search_at r first last places)
unfolding search_at
searched-never-with r first last =
    never-behind r first last _ (total r first last) (searched-is r first last places (omega arith))

pub searched-not-twelve : (r : Reading) (first last : ℕ) → search_at r first last places ≡ refused 12 → ⊥
unfolding search_at
searched-not-twelve r first last = twelve-behind r first last _ (total r first last) (searched-is r first last places (omega arith))

-- the list after a search that is answered with n: its first n places are the days that fit, each a day in range
module _ {r : Reading} {first last : ℕ} {old new : List ℕ} {a : Result ℕ SearchError} (s : Searched r first last old a new) {n : ℕ} (e : a ≡ Ok n) where
  days : List ℕ
  days = fitting r first (window_days first last)

  said : search_at r first last (length old) ≡ is n
  said = sym s.answered ∙ ap said_found e

  known : GoodSearch r first last × (n ≡ total r first last) × (n ≤ length old)
  known = comes r first last (length old) (is n) (sym said)

  count : n ≡ length days
  unfolding total days
  count = known.1

  filled : new ≡ placed days old
  unfolding days
  filled = s.lent ∙ ap (λ (x : Answer ℕ). afterwards x (λ n. fitting r first (window_days first last)) old) said

  pub found-days : take n new ≡ fitting r first (window_days first last)
  unfolding days
  found-days = front days old n new filled count

  pub found-few : n ≤ 27759
  found-few = omega (arith, known.1, searched-few r first last known.0.window)

  pub found_inside : n ≤ length new
  found_inside = omega (arith, count, ap length filled, length-append days (drop (length days) old))

  pub found-in-range : (i : ℕ) → i < n → DayInRange (get_or new i 0)
  unfolding days fitting
  found-in-range i h =
      let l : i < length days = omega (arith, count) in
      let w = at-place (fits r) first (window_days first last) i l in
      omega (
        arith,
        ap (λ (xs : List ℕ). get_or xs i 0) filled,
        get_or-append days (drop (length days) old) 0 i l,
        w.here,
        w.inside,
        known.0.ends.1,
        known.0.window.0,
      )
