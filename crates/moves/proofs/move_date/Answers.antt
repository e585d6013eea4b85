-- `moves::move_date` meets its contract: the day of the date, and the way from it. Assumes nothing.
use Rattle.std.proofs.Common.{rules, ◌≡◌, ap, sym, ◌∙◌}
use mir.Syntax.{w64}
use mir.ValLaws.{to_z-of_z}
use Rattle.rule.specs.Counts.{DayInRange}
use Rattle.dates.proofs.Laws.{found-date}
use Rattle.moves.specs.Moves.{way_of}
use Rattle.moves.specs.declared.Way.TheVariants.{On, Back}
use Rattle.moves.proofs.Landing.{moved-refused, arrives}
use Rattle.moves.proofs.move_date.Goals as goal
use Rattle.moves.proofs.move_date.Goals.{In_ok-day, After-way_of}

-- the date's own reason, handed on
pub returns-in_err-day : goal.returns-in_err-day
returns-in_err-day c = search (rules, moved-refused)

-- the date has a day, which is in range
in-range : (c : In_ok-day) → DayInRange c.in_ok-day.day
in-range c =
    let s = c.args in
    (found-date s.year s.number s.leap s.day_of_month c.in_ok-day.day (sym c.in_ok-day.ensures)).0

-- the number's way, read through its bits
way : (c : After-way_of) → c.way_of.result ≡ way_of c.args.days
way c = c.way_of.ensures ∙ ap way_of (to_z-of_z w64 c.args.days c.ranges.days)

pub returns-in-On : goal.returns-in-On
returns-in-On c =
    let a = c.args in
    let at = goal.at.returns-in-On c in
    c.on.ensures
    ∙ arrives a.year a.number a.leap a.day_of_month a.days c.in_ok-day.day (On c.in-On.n) (sym c.in_ok-day.ensures) (sym (way at.After-way_of) ∙ c.in-On.is)

pub returns-in-Back : goal.returns-in-Back
returns-in-Back c =
    let a = c.args in
    let at = goal.at.returns-in-Back c in
    c.back.ensures
    ∙ arrives a.year a.number a.leap a.day_of_month a.days c.in_ok-day.day (Back c.in-Back.n) (sym c.in_ok-day.ensures) (sym (way at.After-way_of) ∙ c.in-Back.is)

pub on-requires : goal.on-requires
on-requires c = in-range (goal.at.on-requires c).In_ok-day

pub back-requires : goal.back-requires
back-requires c = in-range (goal.at.back-requires c).In_ok-day
