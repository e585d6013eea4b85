-- What an emendation answers at each return, over plain values. Assumes nothing.
use Rattle.std.specs.Prelude.{Result, Err}
use Prim.Native.Nat.{ℕ, ◌*◌, ◌/◌, ◌≤◌, ◌<◌}
use native.Mathlib.Omega.{arith}
use mathlib.Core.Path.{◌≡◌, ap, sym, ◌∙◌}
use mathlib.Core.List.{List}
use lib.ListN.{length, drop, length-append, length-drop}
use borrow.Author.Tests.{le-leb, lt-leb, ne_eqb}
use Rattle.rule.specs.Lists.{placed}
use Rattle.rule.specs.Reasons.{Answer, said, is, refused, refused-with, reason_number, afterwards}
use Rattle.rule.specs.declared.Reason.{Reason}
use Rattle.reading.specs.declared.Reading.{Reading}
use Rattle.reading.specs.Readings.{window_days, fitting}
use Rattle.reading.specs.Search.{total, where_good, said_found}
use Rattle.reading.proofs.Answered.{Passed, all-good, test-fails}
use Rattle.emending.specs.declared.Emended.{Emended}
use Rattle.emending.specs.declared.Emended.TheVariants.{Fits, Are}
use Rattle.reading.specs.declared.SearchError.{SearchError}
use Rattle.emending.specs.Faults.{emendations}
use Rattle.emending.specs.Emended.{emend_total, emend_at, filled_with, EmendsReading}
use Rattle.emending.proofs.Passing.{emended-four}

-- the promise, from what is answered
pub made : {r : Reading} {first last : ℕ} {old : List ℕ} {x : Answer Emended} (a : Result Emended SearchError) {new : List ℕ} →
    emend_at r first last (length old) ≡ x → said_found a ≡ x → new ≡ afterwards x (filled_with r first last) old → EmendsReading r first last old a new
made {r} {first} {last} {old} a e f g =
    record { answered = f ∙ sym e; lent = g ∙ ap (λ (y : Answer Emended). afterwards y (filled_with r first last) old) (sym e) }

module _ (r : Reading) (first last room : ℕ) where
  pub fails : (why : Reason) → said (Err why) ≡ where_good r first last (is (tt {0})) → emend_at r first last room ≡ refused (reason_number why)
  unfolding emend_at
  fails why h = test-fails r first last _ why h

  module _ (g : Passed r first last) where
    pub some_fit : (n : ℕ) → n ≡ length (fitting r first (window_days first last)) → 0 < n → emend_at r first last room ≡ is (Fits n)
    unfolding emend_at total
    some_fit n e h = all-good r first last _ g.ends.0 g.ends.1 g.window g.fields ∙ rw (← e, ne_eqb n 0 (λ z. omega arith))

    -- no day fits, and the emendations are k numbers
    module _ (z : 0 ≡ length (fitting r first (window_days first last))) (k : ℕ) (e : k ≡ length (emendations r first (window_days first last))) where
      pub as_many : k / 4 ≡ emend_total r first last
      unfolding emend_total
      as_many = omega (arith, e, emended-four r first (window_days first last))

      four-each : 4 * (k / 4) ≡ k
      four-each = omega (arith, e, emended-four r first (window_days first last))

      pub too_short : room < k → emend_at r first last room ≡ refused-with 12 (k / 4)
      unfolding emend_at total
      too_short h =
          all-good r first last _ g.ends.0 g.ends.1 g.window g.fields
          ∙ rw (← z, ← as_many, lt-leb (4 * (k / 4)) room (omega (arith, four-each)))

      pub enough : k ≤ room → emend_at r first last room ≡ is (Are (k / 4))
      unfolding emend_at total
      enough h =
          all-good r first last _ g.ends.0 g.ends.1 g.window g.fields
          ∙ rw (← z, ← as_many, le-leb (4 * (k / 4)) room (omega (arith, four-each)))

-- a list keeps its length
pub placed-length : (xs old : List ℕ) → length xs ≤ length old → length (placed xs old) ≡ length old
placed-length xs old h = omega (arith, length-append xs (drop (length xs) old), length-drop (length xs) old)
