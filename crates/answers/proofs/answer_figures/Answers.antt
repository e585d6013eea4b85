-- `answers::answer_figures` meets its contract: what `yearbook::figures_of` says, told in three lines. Assumes nothing.
use Rattle.std.proofs.Common.{append_assoc}
use Rattle.rule.specs.Reasons.{said}
use Rattle.yearbook.specs.Figures.{leap_figures, name_figures}
use Rattle.told.specs.Yearbook.{figures_lines, figures_text}
use Rattle.told.proofs.Yearbook.{lines-given}
use Rattle.answers.proofs.Writing.{tells}
use Rattle.answers.proofs.answer_figures.Goals as goal

pub returns-in-Ok-clause-text : goal.returns-in-Ok-clause-text
unfolding figures_text
returns-in-Ok-clause-text g c =
    let a = c.args in
    let e = c.in-Ok.is in
    let s = c.figures_of.ensures in
    rw (
      c.write_counts-in-Ok.ensures.text,
      c.write_counts.ensures.text,
      c.write_figures.ensures.text,
      ← tells (figures_lines (leap_figures a.first a.last) (name_figures a.first a.last)) said s.answered e,
      ← lines-given s e,
    ) (simp append_assoc)
