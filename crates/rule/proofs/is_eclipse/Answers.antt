-- `rule::is_eclipse` meets its contract: the rest in parts of an eclipse. Assumes nothing.
use Rattle.rule.proofs.Eclipses.{eclipse-in-parts}
use Rattle.rule.proofs.is_eclipse.Goals as goal

pub returns : goal.returns
returns c = eclipse-in-parts c.args.n c.requires
