-- `listed::lent::put_day_items` meets its contract. The invariant: the texts of the items passed are put. Assumes nothing.
use Rattle.penned.specs.Lines.{day_item}
use Rattle.listed.proofs.Puts.{ItemsPut}
use Rattle.listed.proofs.lent.put_day_items.Given as goal

abbrev pub invariant-loop-day : goal.invariant-loop-day
invariant-loop-day l = ItemsPut 61 day_item l.days l.initial.out l.at l.out l.to l.day-index
