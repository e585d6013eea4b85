-- `answered::answer_reading` meets its contract: the reading that the list holds there is answered. Assumes nothing.
use Rattle.std.proofs.Common.{ℕ, List, ◌++◌, ap, ◌∙◌}
use Rattle.answered.specs.Answers.{answer_to_reading}
use Rattle.answered.proofs.Paper.{held_at}
use Rattle.answered.proofs.answer_reading.Goals as goal

pub returns-clause-text : goal.returns-clause-text
returns-clause-text g c =
    let a = c.args in
    λ xs h. c.write_answer.ensures.text ∙ ap (λ (v : List ℕ). a.text.now ++ answer_to_reading v) (c.eight_at.ensures ∙ held_at _ a.n xs h a.j c.requires.0)
