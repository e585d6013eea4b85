-- `planets::kth_conjunction` meets its contract: 19, then 6, and a count beyond the days needs no product. Assumes nothing.
use native.Mathlib.Omega.{arith}
use mathlib.Core.Path.{ap, ◌∙◌}
use Rattle.rule.specs.Reasons.{refused, reason_number, is}
use Rattle.rule.proofs.Answers.{handed_on}
use Rattle.planets.specs.Planets.{numbers_of}
use Rattle.planets.proofs.Made.{named, no-planet, good, too-late, count-beyond, in-time}
use Rattle.planets.proofs.kth_conjunction.Goals as goal

pub returns-in_err-try_from : goal.returns-in_err-try_from
returns-in_err-try_from c =
    handed_on _ _ c.from_residual.ensures.1
    ∙ ap (λ w. refused (reason_number w)) c.in_err-try_from.ensures.1
    ∙ no-planet c.args.planet c.args.k c.in_err-try_from.ensures.0

pub returns-then-k-gt14989859 : goal.returns-then-k-gt14989859
returns-then-k-gt14989859 c =
    let at = c.in_ok-try_from in
    count-beyond c.args.planet (named _ at.ensures) (c.numbers-numbers.ensures ∙ ap numbers_of at.ensures) c.args.k c.if-k-gt14989859.true

pub conjunction_day-requires : goal.conjunction_day-requires
conjunction_day-requires c =
    let at = c.in_ok-try_from in
    ((good c.args.planet (named _ at.ensures) (c.numbers-numbers.ensures ∙ ap numbers_of at.ensures)).some, omega (arith, c.if-k-gt14989859.false))

pub returns-then-conjunction_day-gt14989859 : goal.returns-then-conjunction_day-gt14989859
returns-then-conjunction_day-gt14989859 c =
    let at = c.in_ok-try_from in
    too-late c.args.planet (named _ at.ensures) (c.numbers-numbers.ensures ∙ ap numbers_of at.ensures) c.args.k
    (omega (arith, c.conjunction_day.ensures, c.if-conjunction_day-gt14989859.true))

pub conjunction-requires : goal.conjunction-requires
conjunction-requires c =
    let at = c.in_ok-try_from in (
      (good c.args.planet (named _ at.ensures) (c.numbers-numbers.ensures ∙ ap numbers_of at.ensures)).some,
      c.if-k-gt14989859.false,
      omega (arith, c.conjunction_day.ensures, c.if-conjunction_day-gt14989859.false),
    )

pub returns : goal.returns
returns c =
    let at = c.in_ok-try_from in
    ap is c.conjunction.ensures
    ∙ in-time c.args.planet (named _ at.ensures) (c.numbers-numbers.ensures ∙ ap numbers_of at.ensures) c.args.k
    (omega (arith, c.conjunction_day.ensures, c.if-conjunction_day-gt14989859.false))
