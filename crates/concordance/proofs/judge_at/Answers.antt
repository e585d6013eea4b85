-- `concordance::judge_at` meets its contract. Assumes nothing.
use Rattle.concordance.proofs.Steps.{line-in}
use Rattle.concordance.proofs.judge_at.Goals as goal

pub slice_bounds-judge_line-end : goal.slice_bounds-judge_line-end
slice_bounds-judge_line-end c = line-in c.args.text.now c.args.place _ c.requires c.line_end-to.ensures
