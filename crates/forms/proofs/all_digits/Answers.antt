-- `forms::all_digits` meets its contract: what `.all` says of the bytes. Assumes nothing.
use Rattle.std.proofs.Common.{rules, tests, ◌∙◌}
use Rattle.std.proofs.lemmas.Iterator.{YieldsList-from_slice}
use Rattle.std.proofs.lemmas.Iterator.Search.{all_from_yields_List}
use Rattle.rule.specs.Reasons.{within}
use Rattle.forms.proofs.Scanning.{all_digits-is}
use Rattle.forms.proofs.all_digits.Goals as goal

pub returns : goal.returns
returns c =
    all_from_yields_List (within 48 57) _ _ _ c.all.ensures.ran (YieldsList-from_slice c.args.s.now cc) (λ x b q k. search (rules, tests))
    ∙ all_digits-is c.args.s.now
