-- `newsheet::ReadingsInSection::test` meets its contract. Assumes nothing.
use Rattle.std.proofs.Common.{◌≡◌, ap, ◌∙◌}
use Rattle.rule.specs.Reasons.{Answer, is, guard, said}
use Rattle.reading.specs.declared.Reading.{Reading}
use Rattle.reading.specs.Search.{where_good}
use Rattle.newsheet.specs.New.{eight_numbers, tested, is_given, reason_in}
use Rattle.newsheet.proofs.Eights.{told-again}
use Rattle.newsheet.proofs.ReadingsInSection.test.Goals as goal

pub returns : goal.returns
unfolding tested
returns c =
    let e = c.eight_in-e.result in
    let told : said c.test_search.result ≡ tested (eight_numbers e) = c.test_search.ensures ∙ ap (λ (r : Reading). where_good r e.first e.last (is (tt {0}))) c.from.ensures in
    told-again c.test_search.result
    ∙ ap (λ (a : Answer (Unit {0})). guard (is_given a) (reason_in a) (is (tt {0}))) (told ∙ ap tested c.eight_in-e.ensures)
