-- `sheet::check_section` meets its contract. Assumes nothing.
use Rattle.std.proofs.Common.{ℕ, List, ap, sym, ◌∙◌, arith}
use Rattle.rule.specs.Reasons.{is, and_then}
use Rattle.rule.proofs.Answers.{handed_on}
use Rattle.rule.proofs.Stores.{part-all}
use Rattle.sheet.specs.Sheet.{items_read}
use Rattle.sheet.proofs.Reading.{section-refused, section-counted}
use Rattle.sheet.proofs.check_section.Goals as goal

pub slice_bounds-check_items-count : goal.slice_bounds-check_items-count
slice_bounds-check_items-count g c =
    let k = g.K.InSection.section c.args.k in (section-counted k c.args.s.now c.in_ok-n.n (sym (c.in_ok-n.ensures k (omega (arith, c.most.ensures))))).0

pub slice_bounds-check_items-start : goal.slice_bounds-check_items-start
slice_bounds-check_items-start g c =
    let k = g.K.InSection.section c.args.k in (section-counted k c.args.s.now c.in_ok-n.n (sym (c.in_ok-n.ensures k (omega (arith, c.most.ensures))))).0

pub returns-in_err-n : goal.returns-in_err-n
returns-in_err-n g c =
    let k = g.K.InSection.section c.args.k in
    handed_on _ _ c.from_residual.ensures.1 ∙ sym (section-refused k c.args.s.now _ _ (sym (c.in_err-n.ensures k (omega (arith, c.most.ensures)))))

pub returns : goal.returns
returns g c =
    let k = g.K.InSection.section c.args.k in
    let s = c.args.s.now in
    let n = c.in_ok-n.n in
    c.check_items.ensures
    ∙ ap (λ (u : List ℕ). and_then (items_read k n u) (λ xs. is n)) (part-all 2 s)
    ∙ sym (section-counted k s n (sym (c.in_ok-n.ensures k (omega (arith, c.most.ensures))))).1
