-- `concordance::first_differing` meets its contract. Assumes nothing.
use Rattle.concordance.proofs.Parting.{differ-2, differ-3, differ-4, differ-5, differ-6, differ-none, marks-differ, marks-same}
use Rattle.concordance.proofs.first_differing.Goals as goal

pub returns-then-p-q : goal.returns-then-p-q
returns-then-p-q c = differ-2 c.args.p c.args.q c.if-p-q.true

pub returns-then-p-q-2 : goal.returns-then-p-q-2
returns-then-p-q-2 c = differ-3 c.args.p c.args.q c.if-p-q.false (marks-differ _ _ c.if-p-q-2.true)

pub returns-then-p-q-3 : goal.returns-then-p-q-3
returns-then-p-q-3 c = differ-4 c.args.p c.args.q c.if-p-q.false (marks-same _ _ c.if-p-q-2.false) c.if-p-q-3.true

pub returns-then-p-q-4 : goal.returns-then-p-q-4
returns-then-p-q-4 c =
    differ-5 c.args.p c.args.q c.if-p-q.false (marks-same _ _ c.if-p-q-2.false) c.if-p-q-3.false c.if-p-q-4.true

pub returns-then-p-q-5 : goal.returns-then-p-q-5
returns-then-p-q-5 c =
    differ-6 c.args.p c.args.q c.if-p-q.false (marks-same _ _ c.if-p-q-2.false) c.if-p-q-3.false c.if-p-q-4.false
    (marks-differ _ _ c.if-p-q-5.true)

pub returns : goal.returns
returns c =
    differ-none c.args.p c.args.q c.if-p-q.false (marks-same _ _ c.if-p-q-2.false) c.if-p-q-3.false c.if-p-q-4.false
    (marks-same _ _ c.if-p-q-5.false)
