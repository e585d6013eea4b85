-- `answers::answer_pair` meets its contract: what `planets::reduced_pair` says, told. Assumes nothing.
use Rattle.std.proofs.Common.{ℕ, ◌≡◌, List, ◌++◌, rules, arith, ap, ◌∙◌}
use Rattle.std.specs.Prelude.{Result}
use Rattle.rule.specs.declared.Reason.{Reason}
use Rattle.rule.specs.Reasons.{said}
use Rattle.planets.specs.declared.Pair.{Pair}
use Rattle.planets.specs.Promises.{ReducedPair}
use Rattle.planets.proofs.Reducing.{as-printed}
use Rattle.told.specs.Answers.{told, pair_line, pair_text}
use Rattle.told.proofs.Telling.{pair-few}
use Rattle.answers.proofs.Writing.{tells}
use Rattle.answers.proofs.answer_pair.Goals as goal

pub write_pair-requires : goal.write_pair-requires
write_pair-requires g c =
    let few = pair-few c.args.planet c.reduced_pair.ensures c.in-Ok.is in (search rules, (few.0, few.1, omega arith))

-- the text of the pair, by what was said
says : (planet : ℕ) {r s : Result Pair Reason} → ReducedPair planet r → r ≡ s → told pair_line (said s) ≡ pair_text planet
unfolding pair_text
says planet {r} h e = tells pair_line said ((as-printed planet r).0 h) e

pub returns-in-Ok-clause-text : goal.returns-in-Ok-clause-text
returns-in-Ok-clause-text g c =
    c.write_pair.ensures.text ∙ ap (λ (l : List ℕ). c.args.text.now ++ l) (says c.args.planet c.reduced_pair.ensures c.in-Ok.is)

pub returns-in-Err-clause-text : goal.returns-in-Err-clause-text
returns-in-Err-clause-text g c =
    c.write_refusal.ensures.text ∙ ap (λ (l : List ℕ). c.args.text.now ++ l) (says c.args.planet c.reduced_pair.ensures c.in-Err.is)
