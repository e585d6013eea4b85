-- `concordance::first_mark` meets its contract. Assumes nothing.
use Rattle.concordance.proofs.Parting.{mark-short, mark-longer, mark-absent, mark-there, mark-other}
use Rattle.concordance.proofs.first_mark.Goals as goal

pub returns-then-s-lt2 : goal.returns-then-s-lt2
returns-then-s-lt2 c = mark-short c.args.s.now c.if-s-lt2.true

pub returns-then-s-ne32 : goal.returns-then-s-ne32
returns-then-s-ne32 c = mark-longer c.args.s.now c.if-s-lt2.false c.if-s-ne32.true

pub returns-then-s-eq45 : goal.returns-then-s-eq45
returns-then-s-eq45 c = mark-absent c.args.s.now c.if-s-lt2.false c.if-s-ne32.false c.if-s-eq45.true

pub returns-then-s-eq76 : goal.returns-then-s-eq76
returns-then-s-eq76 c =
    mark-there c.args.s.now c.if-s-lt2.false
    c.if-s-ne32.false c.if-s-eq76.true

pub returns : goal.returns
returns c =
    mark-other c.args.s.now c.if-s-lt2.false
    c.if-s-ne32.false c.if-s-eq45.false c.if-s-eq76.false
