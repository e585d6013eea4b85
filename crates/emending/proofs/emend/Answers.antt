-- `emending::emend` meets its contract: the tests' refusal, the days that fit, or the emendations. Assumes nothing.
use Rattle.std.specs.Prelude.{Ok, Err}
use native.Mathlib.Omega.{arith}
use Prim.Native.Nat.{◌+◌, ◌-◌, ◌/◌, ◌≤◌, ◌<◌}
use mathlib.Core.Path.{◌≡◌, refl, ap, ◌∙◌}
use lib.ListN.{length}
use Rattle.rule.specs.Lists.{placed}
use Rattle.reading.specs.Readings.{fitting}
use Rattle.std.proofs.lemmas.Result.{err_from_is_err_and}
use Rattle.reading.proofs.Answered.{Passed, window-true, test-holds}
use Rattle.emending.specs.declared.Emended.TheVariants.{Fits, Are}
use Rattle.reading.specs.declared.SearchError.TheVariants.{TooShort, Refused}
use Rattle.emending.specs.Faults.{emendations}
use Rattle.emending.proofs.Passing.{emended-four, emended-few}
use Rattle.emending.proofs.Answered.{made, fails, some_fit, too_short, enough}
use Rattle.emending.proofs.emend.Goals as goal
use Rattle.emending.proofs.emend.Goals.{In_ok-test_search, Else-fits-gt0, Joined-out-end, then-out-end+else-out-numbers, else-out-end}

pub returns-in_err-test_search : goal.returns-in_err-test_search
returns-in_err-test_search c =
    let p = err_from_is_err_and c.from_residual.result c.from_residual.ensures.1 in
    rw (p.1, p.2) (made (Err (Refused c.in_err-test_search.field-0.0)) (fails _ _ _ _ _ c.in_err-test_search.ensures) refl refl)

-- the tests hold
good : (c : In_ok-test_search) → let a = c.args in Passed a.r a.first a.last
good c = test-holds _ _ _ c.in_ok-test_search.ensures

-- the window has a day, and ends in the range
some : (c : In_ok-test_search) → let a = c.args in (a.first < a.last + 1) × (a.last + 1 ≤ 14989860)
some c =
    let a = c.args in
    omega (arith, (window-true a.first a.last).0 (good c).window, (good c).ends)

-- no day fits
none-fits : (c : Else-fits-gt0) → let a = c.args in 0 ≡ length (fitting a.r a.first (a.last + 1 - a.first))
none-fits c = omega (arith, c.count_window-fits.ensures, c.if-fits-gt0.false)

-- so few emendations that their numbers keep their values
few : (c : In_ok-test_search) → let a = c.args in length (emendations a.r a.first (a.last + 1 - a.first)) ≤ 59959440
few c =
    let a = c.args in
    let k = a.last + 1 - a.first in
    omega (arith, some c, emended-four a.r a.first k, emended-few a.r a.first k)

-- the list is as it was, and has room, counted or as long as four for each day
kept : (c : Joined-out-end) →
    let a = c.args in
    (a.first < a.last + 1) × (a.last + 1 ≤ 14989860) →
    (c.if-out-end.out ≡ a.out.now) × (length (emendations a.r a.first (a.last + 1 - a.first)) ≤ length a.out.now)
kept c s =
    let a = c.args in
    let k = a.last + 1 - a.first in
    elim c.if-out-end.branch [
      | then-out-end+else-out-numbers w ↦ (
        w.out-is ∙ w.emend_window-numbers.ensures.1,
        omega (arith, w.emend_window-numbers.ensures.0, w.if-out-numbers.false, ap length w.emend_window-numbers.ensures.1),
      )
      | else-out-end w ↦ (w.out-is, omega (arith, w.if-out-end.false, s, emended-four a.r a.first k, emended-few a.r a.first k))
    ]

pub returns-then-fits-gt0 : goal.returns-then-fits-gt0
returns-then-fits-gt0 c =
    let count = c.count_window-fits in
    made (Ok (Fits count.result))
    (some_fit _ _ _ _ (good (goal.at.returns-then-fits-gt0 c).In_ok-test_search) count.result count.ensures c.if-fits-gt0.true)
    refl refl

pub returns-then-out-numbers : goal.returns-then-out-numbers
returns-then-out-numbers c =
    let at = goal.at.returns-then-out-numbers c in
    let numbers = c.emend_window-numbers in
    made (Err (TooShort (numbers.result / 4)))
    (too_short _ _ _ _ (good at.In_ok-test_search) (none-fits at.Else-fits-gt0) numbers.result numbers.ensures.0 (omega arith))
    refl numbers.ensures.1

pub emend_window-requires : goal.emend_window-requires
emend_window-requires c =
    let at = goal.at.emend_window-requires c in
    let s = some at.In_ok-test_search in
    let k = kept at.Joined-out-end s in
    (s.0, s.1, λ w. omega (arith, k.1, ap length k.0))

pub returns : goal.returns
returns c =
    let a = c.args in
    let at = goal.at.returns c in
    let k = c.emend_window.result in
    let same = kept at.Joined-out-end (some at.In_ok-test_search) in
    made (Ok (Are (k / 4)))
    (enough _ _ _ _ (good at.In_ok-test_search) (none-fits at.Else-fits-gt0) k c.emend_window.ensures.0 (omega (arith, same.1, c.emend_window.ensures.0)))
    refl (c.emend_window.ensures.1 ∙ ap (placed (emendations a.r a.first (a.last + 1 - a.first))) same.0)

pub overflow_cast-result : goal.overflow_cast-result
overflow_cast-result c = omega (arith, c.emend_window-numbers.ensures.0, few (goal.at.overflow_cast-result c).In_ok-test_search)

pub overflow_cast-result-2 : goal.overflow_cast-result-2
overflow_cast-result-2 c = omega (arith, c.emend_window.ensures.0, few (goal.at.overflow_cast-result-2 c).In_ok-test_search)
