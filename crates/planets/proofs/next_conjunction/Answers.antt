-- `planets::next_conjunction` meets its contract: 19, then 6, then 20, and the least count. Assumes nothing.
use native.Mathlib.Omega.{arith}
use mathlib.Core.Path.{ap, ◌∙◌}
use Rattle.rule.specs.Reasons.{refused, reason_number, is}
use Rattle.rule.proofs.Answers.{handed_on}
use Rattle.planets.specs.Planets.{numbers_of}
use Rattle.planets.proofs.Made.{named, good, its-years, with_count, next-no-planet, next-no-day, small, next-none, next_one}
use Rattle.planets.proofs.next_conjunction.Goals as goal

pub returns-in_err-try_from : goal.returns-in_err-try_from
returns-in_err-try_from c =
    handed_on _ _ c.from_residual.ensures.1
    ∙ ap (λ w. refused (reason_number w)) c.in_err-try_from.ensures.1
    ∙ next-no-planet c.args.planet c.args.day c.in_err-try_from.ensures.0

pub returns-then-day-gt14989859 : goal.returns-then-day-gt14989859
returns-then-day-gt14989859 c =
    let at = c.in_ok-try_from in
    next-no-day c.args.planet (named _ at.ensures) (c.numbers-numbers.ensures ∙ ap numbers_of at.ensures) c.args.day c.if-day-gt14989859.true

pub next_count-k-requires : goal.next_count-k-requires
next_count-k-requires c =
    let at = c.in_ok-try_from in
    (its-years c.args.planet (named _ at.ensures) (c.numbers-numbers.ensures ∙ ap numbers_of at.ensures), c.if-day-gt14989859.false)

pub conjunction_day-requires : goal.conjunction_day-requires
conjunction_day-requires c =
    let at = c.in_ok-try_from in
    let there = named _ at.ensures in
    let its = c.numbers-numbers.ensures ∙ ap numbers_of at.ensures in
    ((good c.args.planet there its).some, omega (arith, small c.args.planet there its c.if-day-gt14989859.false c.next_count-k.ensures))

pub returns-then-conjunction_day-gt14989859 : goal.returns-then-conjunction_day-gt14989859
returns-then-conjunction_day-gt14989859 c =
    let at = c.in_ok-try_from in
    next-none c.args.planet (named _ at.ensures) (c.numbers-numbers.ensures ∙ ap numbers_of at.ensures) c.if-day-gt14989859.false c.next_count-k.ensures
    (omega (arith, c.conjunction_day.ensures, c.if-conjunction_day-gt14989859.true))

pub conjunction-requires : goal.conjunction-requires
conjunction-requires c =
    let at = c.in_ok-try_from in
    let there = named _ at.ensures in
    let its = c.numbers-numbers.ensures ∙ ap numbers_of at.ensures in (
      (good c.args.planet there its).some,
      small c.args.planet there its c.if-day-gt14989859.false c.next_count-k.ensures,
      omega (arith, c.conjunction_day.ensures, c.if-conjunction_day-gt14989859.false),
    )

pub overflow_cast-result : goal.overflow_cast-result
overflow_cast-result c =
    let at = c.in_ok-try_from in
    let least =
    small c.args.planet (named _ at.ensures) (c.numbers-numbers.ensures ∙ ap numbers_of at.ensures) c.if-day-gt14989859.false c.next_count-k.ensures in
    record { fits = omega (arith, least) }

pub returns : goal.returns
returns c =
    let at = c.in_ok-try_from in
    ap (λ x. is (with_count c.next_count-k.result x)) c.conjunction.ensures
    ∙ next_one c.args.planet (named _ at.ensures) (c.numbers-numbers.ensures ∙ ap numbers_of at.ensures) c.if-day-gt14989859.false c.next_count-k.ensures
    (omega (arith, c.conjunction_day.ensures, c.if-conjunction_day-gt14989859.false))
