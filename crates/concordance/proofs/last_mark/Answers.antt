-- `concordance::last_mark` meets its contract. Assumes nothing.
use Rattle.concordance.proofs.Parting.{last_none, last-absent, last-there, last-other}
use Rattle.concordance.proofs.last_mark.Goals as goal

pub returns-then-s-ne1 : goal.returns-then-s-ne1
returns-then-s-ne1 c = last_none c.args.s.now c.if-s-ne1.true

pub returns-then-s-eq45 : goal.returns-then-s-eq45
returns-then-s-eq45 c = last-absent c.args.s.now c.if-s-ne1.false c.if-s-eq45.true

pub returns-then-s-eq69 : goal.returns-then-s-eq69
returns-then-s-eq69 c = last-there c.args.s.now c.if-s-ne1.false c.if-s-eq69.true

pub returns : goal.returns
returns c = last-other c.args.s.now c.if-s-ne1.false c.if-s-eq45.false c.if-s-eq69.false
