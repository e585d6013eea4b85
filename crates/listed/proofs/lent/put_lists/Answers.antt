-- `listed::lent::put_lists` meets its contract: three runs, one after the other. Assumes nothing.
use native.Mathlib.Omega.{arith}
use Rattle.fields.proofs.Puts.{wide, then}
use Rattle.sheet.specs.Faults.{GoodEach}
use Rattle.penned.specs.Lines.{listing_of}
use Rattle.listed.proofs.lent.put_lists.Goals as goal

pub returns : goal.returns
unfolding GoodEach listing_of
returns c =
    let g = c.requires.0 in
    wide (omega (arith, g.0.0, g.1.0.0, g.1.1.0.0))
    (then c.put_years-after_years.ensures (then c.put_month_items-after_months.ensures c.put_day_items.ensures))
