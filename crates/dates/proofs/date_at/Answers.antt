-- `dates::date_at` meets its contract: a date made of where the day stands in its month, and of the last mid-term before the month's end.
-- Assumes nothing.
use native.Mathlib.Omega.{arith}
use mathlib.Core.Path.{◌≡◌, refl, sym, subst}
use Prim.Native.Nat.{◌+◌, ◌-◌, ◌≤◌, ◌<◌}
use Rattle.rule.specs.Counts.{MonthInRange, day_name}
use Rattle.rule.specs.Rule.{month_length, mid_term_day}
use Rattle.rule.proofs.Months.{of-day-range}
use Rattle.rule.proofs.Terms.{mid-in-range}
use Rattle.dates.proofs.Days.{between, made}
use Rattle.dates.proofs.date_at.Goals as goal

pub place_of-place-requires : goal.place_of-place-requires
place_of-place-requires c =
    let length : c.length_of-length.result ≡ month_length c.stands-at.result.month = c.length_of-length.ensures c.stands-at.result.month c.stands-at.ensures.2 in
    let spans : let d = c.args.day in let p = c.stands-at.result.passed in let l = c.length_of-length.result in (p ≤ d) × (p < l) × (l ≤ 30) × (d - p + l ≤ 14989860) =
    let at = c.stands-at.ensures in
    between c.args.day _ _ _ at.0 at.1 (length) c.requires in
    let last : c.last_mid_term-last.result < 492480 = mid-in-range _ _ c.last_mid_term-last.ensures.0 (spans).3 in
    omega (arith, last)

pub returns : goal.returns
unfolding mid_term_day
returns c =
    let length : c.length_of-length.result ≡ month_length c.stands-at.result.month = c.length_of-length.ensures c.stands-at.result.month c.stands-at.ensures.2 in
    let mid-day : c.term_of-term.result.day ≡ mid_term_day c.last_mid_term-last.result = c.term_of-term.ensures.0 in
    let own_name : c.day_name_at.result ≡ day_name c.args.day = omega (arith, c.day_name_at.ensures) in
    made c.args.day _ _ _ c.stands-at.ensures.0 c.stands-at.ensures.1 (length) _ c.last_mid_term-last.ensures.0
    c.last_mid_term-last.ensures.1
    c.civil_year_and_number-its.ensures.0 refl (mid-day) c.civil_year_and_number-its.ensures.1 c.marked.ensures
    (own_name) c.year_name.ensures c.place_of-place.ensures c.is_eclipse.ensures

pub overflow_add-start : goal.overflow_add-start
overflow_add-start c =
    let length : c.length_of-length.result ≡ month_length c.stands-at.result.month = c.length_of-length.ensures c.stands-at.result.month c.stands-at.ensures.2 in
    let spans : let d = c.args.day in let p = c.stands-at.result.passed in let l = c.length_of-length.result in (p ≤ d) × (p < l) × (l ≤ 30) × (d - p + l ≤ 14989860) =
    let at = c.stands-at.ensures in
    between c.args.day _ _ _ at.0 at.1 (length) c.requires in
    omega (arith, spans)

pub last_mid_term-last-requires : goal.last_mid_term-last-requires
last_mid_term-last-requires c =
    let length : c.length_of-length.result ≡ month_length c.stands-at.result.month = c.length_of-length.ensures c.stands-at.result.month c.stands-at.ensures.2 in
    let spans : let d = c.args.day in let p = c.stands-at.result.passed in let l = c.length_of-length.result in (p ≤ d) × (p < l) × (l ≤ 30) × (d - p + l ≤ 14989860) =
    let at = c.stands-at.ensures in
    between c.args.day _ _ _ at.0 at.1 (length) c.requires in
    omega (arith, spans)

pub civil_year_and_number-its-requires : goal.civil_year_and_number-its-requires
civil_year_and_number-its-requires c =
    let length : c.length_of-length.result ≡ month_length c.stands-at.result.month = c.length_of-length.ensures c.stands-at.result.month c.stands-at.ensures.2 in
    let spans : let d = c.args.day in let p = c.stands-at.result.passed in let l = c.length_of-length.result in (p ≤ d) × (p < l) × (l ≤ 30) × (d - p + l ≤ 14989860) =
    let at = c.stands-at.ensures in
    between c.args.day _ _ _ at.0 at.1 (length) c.requires in
    let last : c.last_mid_term-last.result < 492480 = mid-in-range _ _ c.last_mid_term-last.ensures.0 (spans).3 in
    last

pub overflow_cast-last : goal.overflow_cast-last
overflow_cast-last c =
    let length : c.length_of-length.result ≡ month_length c.stands-at.result.month = c.length_of-length.ensures c.stands-at.result.month c.stands-at.ensures.2 in
    let spans : let d = c.args.day in let p = c.stands-at.result.passed in let l = c.length_of-length.result in (p ≤ d) × (p < l) × (l ≤ 30) × (d - p + l ≤ 14989860) =
    let at = c.stands-at.ensures in
    between c.args.day _ _ _ at.0 at.1 (length) c.requires in
    let last : c.last_mid_term-last.result < 492480 = mid-in-range _ _ c.last_mid_term-last.ensures.0 (spans).3 in
    omega (arith, last)

pub term_of-term-requires : goal.term_of-term-requires
term_of-term-requires c =
    let length : c.length_of-length.result ≡ month_length c.stands-at.result.month = c.length_of-length.ensures c.stands-at.result.month c.stands-at.ensures.2 in
    let spans : let d = c.args.day in let p = c.stands-at.result.passed in let l = c.length_of-length.result in (p ≤ d) × (p < l) × (l ≤ 30) × (d - p + l ≤ 14989860) =
    let at = c.stands-at.ensures in
    between c.args.day _ _ _ at.0 at.1 (length) c.requires in
    let last : c.last_mid_term-last.result < 492480 = mid-in-range _ _ c.last_mid_term-last.ensures.0 (spans).3 in
    omega (arith, last)

pub overflow_cast-result : goal.overflow_cast-result
overflow_cast-result c =
    let length : c.length_of-length.result ≡ month_length c.stands-at.result.month = c.length_of-length.ensures c.stands-at.result.month c.stands-at.ensures.2 in
    let spans : let d = c.args.day in let p = c.stands-at.result.passed in let l = c.length_of-length.result in (p ≤ d) × (p < l) × (l ≤ 30) × (d - p + l ≤ 14989860) =
    let at = c.stands-at.ensures in
    between c.args.day _ _ _ at.0 at.1 (length) c.requires in
    omega (arith, spans)

pub overflow_cast-result-2 : goal.overflow_cast-result-2
overflow_cast-result-2 c =
    let length : c.length_of-length.result ≡ month_length c.stands-at.result.month = c.length_of-length.ensures c.stands-at.result.month c.stands-at.ensures.2 in
    let spans : let d = c.args.day in let p = c.stands-at.result.passed in let l = c.length_of-length.result in (p ≤ d) × (p < l) × (l ≤ 30) × (d - p + l ≤ 14989860) =
    let at = c.stands-at.ensures in
    between c.args.day _ _ _ at.0 at.1 (length) c.requires in
    omega (arith, spans)

pub is_eclipse-requires : goal.is_eclipse-requires
is_eclipse-requires c =
    let in-range : MonthInRange c.stands-at.result.month =
    subst MonthInRange (sym c.stands-at.ensures.0) ((of-day-range c.args.day).0 c.requires) in
    in-range
