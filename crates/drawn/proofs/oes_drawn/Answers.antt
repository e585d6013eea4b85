-- `drawn::oes_drawn` meets its contract. Assumes nothing.
use Rattle.std.proofs.Common.{take, ap, ◌∙◌, sym}
use Rattle.std.proofs.lemmas.List.{length-replicate, length-take-le, take_all}
use Rattle.drawer.specs.Drawer.{said_filled}
use Rattle.drawn.specs.Drawn.{sum_from, drawn_with}
use Rattle.drawn.proofs.Sums.{within, as-drawn, sum-none, sum-next}
use Rattle.drawn.proofs.oes_drawn.Goals as goal

pub slice_bounds-records-end : goal.slice_bounds-records-end
slice_bounds-records-end c =
    within _ _ (length-replicate 4096 c.blank-records.result) _ _ c.fill_dates-answer.ensures c.to_fill.result c.to_fill.ensures c.fill_dates-answer.auto.out

pub slice_bounds-record-items-end : goal.slice_bounds-record-items-end
slice_bounds-record-items-end c =
    sym (length-take-le c.to_fill.result c.fill_dates-answer.new.out
    (within _ _ (length-replicate 4096 c.blank-records.result) _ _ c.fill_dates-answer.ensures c.to_fill.result c.to_fill.ensures c.fill_dates-answer.auto.out))

pub loop-record-init : goal.loop-record-init
loop-record-init c = sum-none (take c.to_fill.result c.fill_dates-answer.new.out)

pub loop-record-preserved : goal.loop-record-preserved
loop-record-preserved c =
    c.added-sum.ensures ∙ sum-next (take c.to_fill.result c.fill_dates-answer.new.out) c.loop-record.record-index _ _ c.loop-record.invariant c.loop-record-test.true

pub returns : goal.returns
returns c =
    let filled = take c.to_fill.result c.fill_dates-answer.new.out in
    c.told.ensures
    ∙ ap
    (drawn_with (said_filled c.fill_dates-answer.result))
    (c.loop-record.invariant ∙ ap (sum_from 0) (take_all c.loop-record.record-index filled c.loop-record-test.false)
    ∙ ap (λ k. sum_from 0 (take k c.fill_dates-answer.new.out)) c.to_fill.ensures)
    ∙ as-drawn _ _ (length-replicate 4096 c.blank-records.result) _ _ c.fill_dates-answer.ensures
