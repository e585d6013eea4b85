-- `listed::lent::put_month_items` meets its contract. The invariant: the texts of the items passed are put. Assumes nothing.
use Rattle.penned.specs.Lines.{month_item}
use Rattle.listed.proofs.Puts.{ItemsPut}
use Rattle.listed.proofs.lent.put_month_items.Given as goal

abbrev pub invariant-loop-month : goal.invariant-loop-month
invariant-loop-month l = ItemsPut 54 month_item l.months l.initial.out l.at l.out l.to l.month-index
