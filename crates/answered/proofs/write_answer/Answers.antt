-- `answered::write_answer` meets its contract. Assumes nothing.
use Rattle.std.proofs.Common.{refl, append_assoc, ◌∙◌}
use Rattle.answered.specs.Answers.{answer_to_reading}
use Rattle.answered.proofs.write_answer.Goals as goal

pub returns-clause-text : goal.returns-clause-text
unfolding answer_to_reading
returns-clause-text g c = c.answer_search.ensures.text ∙ rw (c.write_reading.ensures.text, c.from.ensures, append_assoc) refl
