-- `concordance::fill` meets its contract. Assumes nothing.
use Rattle.std.proofs.Common.{refl, arith, length-set}
use Rattle.concordance.proofs.Filling.{fill_none, fill-place, fill-next, fill_done}
use Rattle.concordance.proofs.fill.Goals as goal

pub loop-i-init : goal.loop-i-init
loop-i-init c = (fill_none c.args.text.now c.args.out.now, refl)

pub judge_at-j-requires : goal.judge_at-j-requires
judge_at-j-requires c =
    let l = c.loop-i in
    omega (arith, fill-place c.args.text.now c.args.out.now l.out l.place l.i l.invariant.0 (omega (arith, c.requires.0, c.loop-i-test.true)))

pub loop-i-preserved : goal.loop-i-preserved
loop-i-preserved c =
    let l = c.loop-i in (
      fill-next c.args.text.now c.args.out.now l.out l.place l.i l.invariant.0 (omega (arith, c.requires.0, c.loop-i-test.true))
          (omega (arith, c.requires.0, c.requires.1)) c.judge_at-j.result c.verdict_number.result c.judge_at-j.ensures c.verdict_number.ensures,
      simp length-set l.invariant.1,
    )

pub returns : goal.returns
returns c =
    let l = c.loop-i in
    fill_done c.args.text.now c.args.out.now l.out l.place l.i l.invariant.0 (omega (arith, c.requires.0, c.loop-i-test.false))
