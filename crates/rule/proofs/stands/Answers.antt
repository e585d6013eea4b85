-- `rule::stands` meets its contract: what the parts beyond the whole months say. Assumes nothing.
use Rattle.rule.proofs.Months.{gone-counted, gone-passed, gone-left}
use Rattle.rule.proofs.stands.Goals as goal

pub returns : goal.returns
returns c =
    let d = c.args.day in
    let e = c.gone_by-gone.ensures in
    (gone-counted d _ _ e.0 e.1, gone-passed d _ _ e.0 e.1, gone-left d _ _ e.0 e.1)
