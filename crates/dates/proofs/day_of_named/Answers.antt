-- `dates::day_of_named` meets its contract: the month of the mid-term, or the month after it, if it is leap. Assumes nothing.
use native.Mathlib.Omega.{arith}
use mathlib.Core.Path.{◌≡◌, ap, ◌∙◌}
use mathlib.Core.Bool.{Bool}
use Prim.Native.Nat.{ℕ, ◌+◌, ◌-◌, ◌≤◌}
use Rattle.rule.specs.Rule.{month_start, small_remainder, month_length, month_of_day, mid_term_day, term_day}
use Rattle.rule.proofs.Months.{start-next}
use Rattle.dates.specs.Dates.{day_in_month, day_of_named}
use Rattle.dates.proofs.Days.{ordinary-asked, no-leap, leap-asked, named_end}
use Rattle.dates.proofs.day_of_named.Goals as goal
use Rattle.dates.proofs.day_of_named.Goals.{Joined-leap, then-leap+else-next-start, else-leap}

-- the month that is asked for, n, which starts on day s and had r left of it: what day q of it is, is the answer
record Asked (s r m : ℕ) (l : Bool) (q : ℕ) : Type 0 where
  pub n : ℕ
  pub starts : s ≡ month_start n
  pub leaves : r + small_remainder n ≡ 939
  pub early : s ≤ 14989860
  pub answer : day_in_month n q ≡ day_of_named m l q

pub returns-then-next-start : goal.returns-then-next-start
unfolding mid_term_day
returns-then-next-start c =
    let m : ℕ = c.args.m in
    let mid-day : c.term_of-term.result.day ≡ mid_term_day (m) = c.term_of-term.ensures.0 in
    let month : ℕ = month_of_day (mid_term_day (m)) in
    let is-month : c.stands-at.result.month ≡ month = c.stands-at.ensures.0 ∙ ap month_of_day (mid-day) in
    let start : c.term_of-term.result.day - c.stands-at.result.passed ≡ month_start (month) = omega (arith, ap month_start (is-month), c.stands-at.ensures.1) in
    let left : c.stands-at.result.left + small_remainder (month) ≡ 939 = omega (arith, ap small_remainder (is-month), c.stands-at.ensures.2) in
    let ends : let n = month in (month_start (n + 1) ≡ month_start n + month_length n) × (month_start (n + 2) ≡ month_start (n + 1) + month_length (n + 1)) × (month_start (n + 2) ≤ 14989860) =
    let n = month in (
      start-next n,
      ap month_start {y = n + 1 + 1} (omega arith) ∙ start-next (n + 1),
      named_end c.args.m 1 c.requires.0,
    ) in
    let length : c.length_of-start.result ≡ month_length (month) = c.length_of-start.ensures (month) (left) in
    let next : c.term_of-term.result.day - c.stands-at.result.passed + c.length_of-start.result ≡ month_start (month + 1) = omega (arith, start, length, ends) in
    let after : c.next_left-left.result + small_remainder (month + 1) ≡ 939 = c.next_left-left.ensures (month) (left) in
    let end : c.term_of-term.result.day - c.stands-at.result.passed + c.length_of-start.result + c.length_of.result ≡ month_start (month + 2) =
    let e = c.length_of.ensures (month + 1) (after) in
    omega (arith, next, e, ends) in
    let next-mid : c.term_of-next.result.day ≡ mid_term_day (m + 1) = c.term_of-next.ensures.0 in
    no-leap c.args.m c.args.day_of_month c.if-leap.true
    (omega (arith, next-mid, end))

-- the month that is asked for, where the branches join
asked : (c : Joined-leap) →
    let a = c.args in
    Asked c.if-leap.start c.if-leap.left a.m a.leap a.day_of_month
unfolding mid_term_day
asked c =
    let m : ℕ = c.args.m in
    let mid-day : c.term_of-term.result.day ≡ mid_term_day m = c.term_of-term.ensures.0 in
    let month : ℕ = month_of_day (mid_term_day m) in
    let is-month : c.stands-at.result.month ≡ month = c.stands-at.ensures.0 ∙ ap month_of_day mid-day in
    let start : c.term_of-term.result.day - c.stands-at.result.passed ≡ month_start month = omega (arith, ap month_start is-month, c.stands-at.ensures.1) in
    let left : c.stands-at.result.left + small_remainder month ≡ 939 = omega (arith, ap small_remainder is-month, c.stands-at.ensures.2) in
    let ends : (month_start (month + 1) ≡ month_start month + month_length month) × (month_start (month + 2) ≡ month_start (month + 1) + month_length (month + 1)) × (month_start (month + 2) ≤ 14989860) = (
      start-next month,
      ap month_start {y = month + 1 + 1} (omega arith) ∙ start-next (month + 1),
      named_end m 1 c.requires.0,
    ) in
    elim c.if-leap.branch [
      | then-leap+else-next-start w ↦
          let length : w.length_of-start.result ≡ month_length month = w.length_of-start.ensures month left in
          let next : c.term_of-term.result.day - c.stands-at.result.passed + w.length_of-start.result ≡ month_start (month + 1) = omega (arith, start, length, ends) in
          let after : w.next_left-left.result + small_remainder (month + 1) ≡ 939 = w.next_left-left.ensures month left in
          let e = w.length_of.ensures (month + 1) after in
          let end : c.term_of-term.result.day - c.stands-at.result.passed + w.length_of-start.result + w.length_of.result ≡ month_start (month + 2) = omega (arith, next, e, ends) in
          let next-mid : w.term_of-next.result.day ≡ mid_term_day (m + 1) = w.term_of-next.ensures.0 in
          record {
            n = month + 1;
            starts = w.start-is ∙ next;
            leaves = omega (arith, w.left-is, after);
            early = omega (arith, w.start-is, next, ends);
            answer = leap-asked m c.args.day_of_month w.if-leap.true (omega (arith, next-mid, end, w.if-next-start.false));
          }
      | else-leap w ↦
          record {
            n = month;
            starts = w.start-is ∙ start;
            leaves = omega (arith, w.left-is, left);
            early = omega (arith, w.start-is, start, ends);
            answer = ordinary-asked m c.args.day_of_month w.if-leap.false;
          }
    ]

pub returns : goal.returns
returns c =
    let a = asked (goal.at.returns c).Joined-leap in
    c.day_in.ensures a.n a.starts a.leaves ∙ a.answer

pub stands-at-requires : goal.stands-at-requires
unfolding mid_term_day term_day
stands-at-requires c = omega arith

pub overflow_add-start : goal.overflow_add-start
unfolding mid_term_day
overflow_add-start c =
    let m : ℕ = c.args.m in
    let mid-day : c.term_of-term.result.day ≡ mid_term_day (m) = c.term_of-term.ensures.0 in
    let month : ℕ = month_of_day (mid_term_day (m)) in
    let is-month : c.stands-at.result.month ≡ month = c.stands-at.ensures.0 ∙ ap month_of_day (mid-day) in
    let start : c.term_of-term.result.day - c.stands-at.result.passed ≡ month_start (month) = omega (arith, ap month_start (is-month), c.stands-at.ensures.1) in
    let left : c.stands-at.result.left + small_remainder (month) ≡ 939 = omega (arith, ap small_remainder (is-month), c.stands-at.ensures.2) in
    let ends : let n = month in (month_start (n + 1) ≡ month_start n + month_length n) × (month_start (n + 2) ≡ month_start (n + 1) + month_length (n + 1)) × (month_start (n + 2) ≤ 14989860) =
    let n = month in (
      start-next n,
      ap month_start {y = n + 1 + 1} (omega arith) ∙ start-next (n + 1),
      named_end c.args.m 1 c.requires.0,
    ) in
    let length : c.length_of-start.result ≡ month_length (month) = c.length_of-start.ensures (month) (left) in
    let next : c.term_of-term.result.day - c.stands-at.result.passed + c.length_of-start.result ≡ month_start (month + 1) = omega (arith, start, length, ends) in
    omega (arith, next, ends)

pub overflow_add-start-then-leap : goal.overflow_add-start-then-leap
unfolding mid_term_day
overflow_add-start-then-leap c =
    let m : ℕ = c.args.m in
    let mid-day : c.term_of-term.result.day ≡ mid_term_day (m) = c.term_of-term.ensures.0 in
    let month : ℕ = month_of_day (mid_term_day (m)) in
    let is-month : c.stands-at.result.month ≡ month = c.stands-at.ensures.0 ∙ ap month_of_day (mid-day) in
    let start : c.term_of-term.result.day - c.stands-at.result.passed ≡ month_start (month) = omega (arith, ap month_start (is-month), c.stands-at.ensures.1) in
    let left : c.stands-at.result.left + small_remainder (month) ≡ 939 = omega (arith, ap small_remainder (is-month), c.stands-at.ensures.2) in
    let ends : let n = month in (month_start (n + 1) ≡ month_start n + month_length n) × (month_start (n + 2) ≡ month_start (n + 1) + month_length (n + 1)) × (month_start (n + 2) ≤ 14989860) =
    let n = month in (
      start-next n,
      ap month_start {y = n + 1 + 1} (omega arith) ∙ start-next (n + 1),
      named_end c.args.m 1 c.requires.0,
    ) in
    let length : c.length_of-start.result ≡ month_length (month) = c.length_of-start.ensures (month) (left) in
    let next : c.term_of-term.result.day - c.stands-at.result.passed + c.length_of-start.result ≡ month_start (month + 1) = omega (arith, start, length, ends) in
    let after : c.next_left-left.result + small_remainder (month + 1) ≡ 939 = c.next_left-left.ensures (month) (left) in
    let end : c.term_of-term.result.day - c.stands-at.result.passed + c.length_of-start.result + c.length_of.result ≡ month_start (month + 2) =
    let e = c.length_of.ensures (month + 1) (after) in
    omega (arith, next, e, ends) in
    omega (arith, end, ends)

pub day_in-requires : goal.day_in-requires
day_in-requires c = ((asked c).early, c.requires.1)
