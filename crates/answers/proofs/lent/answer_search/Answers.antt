-- `answers::lent::answer_search` meets its contract: what `reading::search` says, told, and the lines of the days. Assumes nothing.
use Rattle.std.specs.Prelude.{Result, Err}
use Rattle.std.proofs.Common.{ℕ, ◌*◌, ◌≤◌, ◌<◌, ◌≡◌, List, ◌++◌, length, arith, ap, sym, subst, ◌∙◌}
use Rattle.std.proofs.lemmas.List.{length-take-le, get_or-take}
use Rattle.rule.specs.Counts.{DayInRange}
use Rattle.reading.specs.declared.SearchError.{SearchError}
use Rattle.reading.specs.declared.Reading.{Reading}
use Rattle.reading.specs.Readings.{window_days, fitting}
use Rattle.reading.specs.Search.{search_at, said_found}
use Rattle.fields.specs.Fields.{each}
use Rattle.fields.proofs.Puts.{put-kept, wide, then, put_as}
use Rattle.told.specs.Answers.{told, day_line, found_line, places, search_text}
use Rattle.told.proofs.Finding.{room-enough, found-days, found-few, found_inside, found-in-range}
use Rattle.answers.proofs.Writing.{tells}
use Rattle.answers.proofs.lent.answer_search.Goals as goal

-- the text of so many found days
abbrev lines_of : Reading → ℕ → ℕ → ℕ → List ℕ
lines_of r first last n = found_line n ++ each day_line (fitting r first (window_days first last))

-- the text of the search, by what it said
says : (r : Reading) (first last : ℕ) (days : List ℕ) {x y : Result ℕ SearchError} → places ≤ length days → said_found x ≡ search_at r first last (length days) →
    x ≡ y →
    told (lines_of r first last) (said_found y) ≡ search_text r first last
unfolding search_text
says r first last days h e g = tells (lines_of r first last) said_found (e ∙ room-enough r first last (length days) h) g

pub slice_bounds-put_days-end : goal.slice_bounds-put_days-end
slice_bounds-put_days-end c = found_inside c.search.ensures c.in-Ok.is

pub slice_bounds-put_days-end-in-Ok : goal.slice_bounds-put_days-end-in-Ok
slice_bounds-put_days-end-in-Ok c = sym (length-take-le c.in-Ok.n c.search.new.out (found_inside c.search.ensures c.in-Ok.is))

pub put_days-requires : goal.put_days-requires
put_days-requires c =
    let s = c.search.ensures in
    let e = c.in-Ok.is in
    let n = length-take-le c.in-Ok.n c.search.new.out (found_inside s e) in (
      λ i h. let l : i < c.in-Ok.n = omega (arith, n, h) in subst DayInRange (sym (get_or-take c.in-Ok.n c.search.new.out i 0 l)) (found-in-range s e i l),
      omega (arith, n, ap (λ (k : ℕ). 118 * k) n, found-few s e, put-kept c.put_total-to.ensures, c.put_total-to.ensures.few, c.requires.1),
    )

pub returns-in-Ok : goal.returns-in-Ok
unfolding found_line
returns-in-Ok c =
    let a = c.args in
    let s = c.search.ensures in
    let e = c.in-Ok.is in
    put_as (ap (λ (l : List ℕ). found_line c.in-Ok.n ++ each day_line l) (found-days s e) ∙ says a.r a.first a.last a.days.now c.requires.0 s.answered e)
    (wide (omega (arith, length-take-le c.in-Ok.n c.search.new.out (found_inside s e), found-few s e)) (then c.put_total-to.ensures c.put_days.ensures))

pub returns-in-Err-TooShort : goal.returns-in-Err-TooShort
returns-in-Err-TooShort c =
    let a = c.args in
    put_as (says a.r a.first a.last a.days.now c.requires.0 c.search.ensures.answered (c.in-Err-TooShort.is ∙ ap Err c.in-Err-TooShort.field-0-is))
    (wide (omega arith) c.put_refusal.ensures)

pub returns-in-Err-Refused : goal.returns-in-Err-Refused
returns-in-Err-Refused c =
    let a = c.args in
    put_as (says a.r a.first a.last a.days.now c.requires.0 c.search.ensures.answered (c.in-Err-Refused.is ∙ ap Err c.in-Err-Refused.field-0-is))
    (wide (omega arith) c.put_refusal-in-Err-Refused.ensures)
