-- `facts::solstice_year_at` meets its contract: the parts, each as the rule has it. Assumes nothing.
use Rattle.facts.proofs.Made.{bu-range, solstice-year-made}
use Rattle.facts.proofs.solstice_year_at.Goals as goal

pub returns : goal.returns
returns c =
    let place = c.place_of-p.ensures in
    solstice-year-made c.args.year place.0 place.1 place.2 c.head_name.ensures
    c.solstice_first_month.ensures c.leap_remainder.ensures c.months_in_solstice_year.ensures

pub head_name-requires : goal.head_name-requires
head_name-requires c = bu-range c.args.year c.place_of-p.result.bu c.place_of-p.ensures.1
