-- `listed::lent::put_years` meets its contract. The invariant: the texts of the items passed are put. Assumes nothing.
use Rattle.penned.specs.Lines.{year_block}
use Rattle.listed.proofs.Puts.{ItemsPut}
use Rattle.listed.proofs.lent.put_years.Given as goal

abbrev pub invariant-loop-year : goal.invariant-loop-year
invariant-loop-year l = ItemsPut 674 year_block l.years l.initial.out l.at l.out l.to l.year-index
