-- `answers::answer_search` meets its contract: what `reading::search` says, told, and the lines of the days. Assumes nothing.
use Rattle.std.specs.Prelude.{Result, Err}
use Rattle.std.proofs.Common.{ℕ, ◌*◌, ◌≤◌, ◌<◌, ◌≡◌, List, ◌++◌, length, rules, arith, ap, sym, subst, append_assoc, ◌∙◌}
use Rattle.std.proofs.lemmas.List.{length-take-le, get_or-take}
use Rattle.rule.specs.Counts.{DayInRange}
use Rattle.reading.specs.declared.SearchError.{SearchError}
use Rattle.reading.specs.declared.Reading.{Reading}
use Rattle.reading.specs.Readings.{window_days, fitting}
use Rattle.reading.specs.Search.{search_at, said_found}
use Rattle.fields.specs.Fields.{each}
use Rattle.told.specs.Answers.{told, day_line, found_line, places, search_text}
use Rattle.told.proofs.Finding.{room-enough, found-days, found-few, found_inside, found-in-range}
use Rattle.answers.proofs.Writing.{tells}
use Rattle.answers.proofs.answer_search.Goals as goal

-- the text of so many found days
abbrev lines_of : Reading → ℕ → ℕ → ℕ → List ℕ
lines_of r first last n = found_line n ++ each day_line (fitting r first (window_days first last))

pub slice_bounds-write_days-end : goal.slice_bounds-write_days-end
slice_bounds-write_days-end g c = found_inside c.search.ensures c.in-Ok.is

pub slice_bounds-write_days-end-in-Ok : goal.slice_bounds-write_days-end-in-Ok
slice_bounds-write_days-end-in-Ok g c = sym (length-take-le c.in-Ok.n c.search.new.out (found_inside c.search.ensures c.in-Ok.is))

pub write_days-requires : goal.write_days-requires
write_days-requires g c =
    let s = c.search.ensures in
    let e = c.in-Ok.is in
    let n = length-take-le c.in-Ok.n c.search.new.out (found_inside s e) in (
      search rules,
      (
        λ i h. let l : i < c.in-Ok.n = omega (arith, n, h) in subst DayInRange (sym (get_or-take c.in-Ok.n c.search.new.out i 0 l)) (found-in-range s e i l),
        omega (arith, n, ap (λ (k : ℕ). 118 * k) n, found-few s e, c.write_total.ensures.few, c.requires.1),
      ),
    )

-- the text of the search, by what it said
says : (r : Reading) (first last : ℕ) (days : List ℕ) {x y : Result ℕ SearchError} → places ≤ length days → said_found x ≡ search_at r first last (length days) →
    x ≡ y →
    told (lines_of r first last) (said_found y) ≡ search_text r first last
unfolding search_text
says r first last days h e g = tells (lines_of r first last) said_found (e ∙ room-enough r first last (length days) h) g

pub returns-in-Ok-clause-text : goal.returns-in-Ok-clause-text
unfolding found_line
returns-in-Ok-clause-text g c =
    let a = c.args in
    let s = c.search.ensures in
    let e = c.in-Ok.is in
    rw (c.write_days.ensures.text, c.write_total.ensures.text, ← says a.r a.first a.last a.days.now c.requires.0 s.answered e, found-days s e)
    (simp append_assoc)

pub returns-in-Ok-clause-few : goal.returns-in-Ok-clause-few
returns-in-Ok-clause-few g c =
    let s = c.search.ensures in
    let e = c.in-Ok.is in
    omega (arith, length-take-le c.in-Ok.n c.search.new.out (found_inside s e), found-few s e)

pub returns-in-Err-TooShort-clause-text : goal.returns-in-Err-TooShort-clause-text
returns-in-Err-TooShort-clause-text g c =
    let a = c.args in
    c.write_refusal.ensures.text
    ∙ ap (λ (l : List ℕ). a.text.now ++ l)
    (says a.r a.first a.last a.days.now c.requires.0 c.search.ensures.answered (c.in-Err-TooShort.is ∙ ap Err c.in-Err-TooShort.field-0-is))

pub returns-in-Err-Refused-clause-text : goal.returns-in-Err-Refused-clause-text
returns-in-Err-Refused-clause-text g c =
    let a = c.args in
    c.write_refusal-in-Err-Refused.ensures.text
    ∙ ap (λ (l : List ℕ). a.text.now ++ l)
    (says a.r a.first a.last a.days.now c.requires.0 c.search.ensures.answered (c.in-Err-Refused.is ∙ ap Err c.in-Err-Refused.field-0-is))
