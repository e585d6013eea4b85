-- `forms::same` meets its contract: what `==` says of two slices. Assumes nothing.
use Rattle.std.proofs.Common.{◌∙◌}
use Rattle.forms.proofs.Scanning.{same-is}
use Rattle.forms.proofs.same.Goals as goal

pub returns : goal.returns
returns c = c.eq.ensures ∙ same-is c.args.p.now c.args.s.now
