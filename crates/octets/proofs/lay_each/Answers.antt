-- `octets::lay_each` meets its contract. Assumes nothing.
use Rattle.std.proofs.Common.{ℕ, ◌+◌, ◌*◌, ap₂, ◌∙◌}
use Rattle.std.proofs.lemmas.List.Edits.{sets}
use Rattle.octets.proofs.Filling.{laying-next, laying-done}
use Rattle.octets.proofs.lay_each.Goals as goal

pub loop-i-preserved : goal.loop-i-preserved
loop-i-preserved g c =
    let put = λ (w : ℕ) (x : g.row.T.Denot). sets c.loop-i.out (c.args.at + w * c.loop-i.i) (g.T.InBytes.laid x) in
    laying-next g.met.T.InBytes.as_wide c.loop-i.invariant c.loop-i-test.true c.index-xs-i.result _
    (c.lay.ensures ∙ ap₂ put c.WIDTH.ensures c.index-xs-i.is)

pub returns : goal.returns
returns g c = laying-done g.met.T.InBytes.as_wide c.loop-i.invariant c.loop-i-test.false
