-- `reading::search` meets its contract: the tests' refusal, and then the total and the days. Assumes nothing.
use Rattle.std.specs.Prelude.{Ok, Err}
use native.Mathlib.Omega.{arith}
use Prim.Native.Nat.{◌+◌, ◌-◌, ◌≤◌, ◌<◌}
use mathlib.Core.Path.{refl}
use lib.ListN.{length}
use Rattle.reading.specs.declared.SearchError.TheVariants.{Refused, TooShort}
use Rattle.reading.specs.Readings.{fitting}
use Rattle.std.proofs.lemmas.Result.{err_from_is_err_and}
use Rattle.reading.proofs.Runs.{at-most-fitting}
use Rattle.reading.proofs.Answered.{Passed, window-true, test-holds, too_short, room-enough, made, searched-good}
use Rattle.reading.proofs.search.Goals as goal
use Rattle.reading.proofs.search.Goals.{In_ok-test_search, Joined-out-end, then-out-end+else-out-total, else-out-end}

pub returns-in_err-test_search : goal.returns-in_err-test_search
returns-in_err-test_search c =
    let p = err_from_is_err_and c.from_residual.result c.from_residual.ensures.1 in
    rw (p.1, p.2) (made (Err (Refused c.in_err-test_search.field-0.0)) (searched-good _ _ _ _ _ c.in_err-test_search.ensures) refl refl)

-- the tests hold
good : (c : In_ok-test_search) → let a = c.args in Passed a.r a.first a.last
good c = test-holds _ _ _ c.in_ok-test_search.ensures

-- the window has a day, and ends in the range
some : (c : In_ok-test_search) → let a = c.args in (a.first < a.last + 1) × (a.last + 1 ≤ 14989860)
some c =
    let a = c.args in
    omega (arith, (window-true a.first a.last).0 (good c).window, (good c).ends)

-- the list has room, counted or as long as the window
room : (c : Joined-out-end) → let a = c.args in length (fitting a.r a.first (a.last + 1 - a.first)) ≤ length a.out.now
room c =
    let a = c.args in
    elim c.if-out-end.branch [
      | then-out-end+else-out-total w ↦ omega (arith, w.count_window-total.ensures, w.if-out-total.false)
      | else-out-end w ↦ omega (arith, w.if-out-end.false, at-most-fitting a.r a.first (a.last + 1 - a.first))
    ]

pub returns-then-out-total : goal.returns-then-out-total
returns-then-out-total c =
    let count = c.count_window-total in
    made (Err (TooShort count.result))
    (too_short _ _ _ _ (good (goal.at.returns-then-out-total c).In_ok-test_search) count.result count.ensures (omega arith))
    refl refl

pub returns : goal.returns
returns c =
    let at = goal.at.returns c in
    let list = c.fill_fitting in
    made (Ok list.result)
    (room-enough _ _ _ _ (good at.In_ok-test_search) list.result list.ensures.0 (omega (arith, list.ensures.0, room at.Joined-out-end)))
    refl list.ensures.1

pub fill_fitting-requires : goal.fill_fitting-requires
fill_fitting-requires c =
    let at = goal.at.fill_fitting-requires c in
    omega (arith, some at.In_ok-test_search, room at.Joined-out-end)

pub overflow_cast-result : goal.overflow_cast-result
overflow_cast-result c =
    let a = c.args in
    omega (arith, some (goal.at.overflow_cast-result c).In_ok-test_search, at-most-fitting a.r a.first (a.last + 1 - a.first), c.fill_fitting.ensures.0)
