-- `planets::reduced_pair` meets its contract: 19, and what the two long counts are reduced to. Assumes nothing.
use native.Mathlib.Omega.{arith}
use mathlib.Core.Path.{refl, ap, sym, subst, ◌∙◌}
use Rattle.rule.specs.Reasons.{refused, reason_number, within}
use Rattle.rule.proofs.Answers.{within-true, fails, handed_on}
use Rattle.planets.specs.Planets.{planet_figures, long_days, long_circle}
use Rattle.planets.specs.Divisors.{Reduced}
use Rattle.planets.specs.Promises.{Reduces}
use Rattle.planets.proofs.Five.{some-circle}
use Rattle.planets.proofs.Made.{named}
use Rattle.planets.proofs.reduced_pair.Goals as goal

pub returns-in_err-try_from : goal.returns-in_err-try_from
returns-in_err-try_from c =
    let p = c.args.planet in
    let none = c.in_err-try_from.ensures in
    subst (Reduces p) (sym (handed_on _ _ c.from_residual.ensures.1 ∙ ap (λ w. refused (reason_number w)) none.1))
    ((fails (within 1 5 p) (within-true 1 5 p)).0 none.0, refl)

pub reduced-requires : goal.reduced-requires
reduced-requires c =
    let p = c.args.planet in
    let at = c.in_ok-try_from in
    let circle = c.long_circle.ensures ∙ ap long_circle (c.figures-figures.ensures ∙ ap planet_figures at.ensures) in
    omega (arith, circle, some-circle p ((within-true 1 5 p).0 (named _ at.ensures)))

pub returns : goal.returns
returns c =
    let p = c.args.planet in
    let at = c.in_ok-try_from in
    let r = c.reduced.result in (
      (within-true 1 5 p).0 (named _ at.ensures),
      subst (λ f. Reduced (long_days f) (long_circle f) r) (c.figures-figures.ensures ∙ ap planet_figures at.ensures)
          (subst (λ a. Reduced a (long_circle c.figures-figures.result) r) c.long_days.ensures
          (subst (λ b. Reduced c.long_days.result b r) c.long_circle.ensures c.reduced.ensures)),
    )
