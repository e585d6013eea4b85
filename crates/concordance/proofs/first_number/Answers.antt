-- `concordance::first_number` meets its contract. Assumes nothing.
use Rattle.std.proofs.Common.{sym, ◌∙◌}
use Rattle.concordance.proofs.Scanning.{no_run, numbered, not-numbered, number-inside}
use Rattle.concordance.proofs.first_number.Goals as goal

pub returns-in_err-n : goal.returns-in_err-n
returns-in_err-n c = rw (c.from_residual.ensures) (no_run _ c.in_err-n.ensures)

pub slice_bounds-leads_well-end : goal.slice_bounds-leads_well-end
slice_bounds-leads_well-end c = number-inside _ _ c.in_ok-n.ensures

pub returns-then-leads_well : goal.returns-then-leads_well
returns-then-leads_well c = numbered _ _ c.in_ok-n.ensures (sym c.leads_well.ensures ∙ c.if-leads_well.true)

pub returns : goal.returns
returns c = not-numbered _ _ c.in_ok-n.ensures (sym c.leads_well.ensures ∙ c.if-leads_well.false)
