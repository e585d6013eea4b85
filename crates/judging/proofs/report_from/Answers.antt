-- `judging::report_from` meets its contract: what was taken is reported. Assumes nothing.
use Rattle.std.proofs.Common.{List, ℕ, ◌≡◌, ◌∙◌, ◌++◌, ap, subst, take}
use Rattle.std.specs.Prelude.{OnOk}
use Rattle.std.specs.Io.KnownBytes.{Appends}
use Rattle.listed.proofs.Paper.{taken-itself}
use Rattle.judging.specs.Report.{report}
use Rattle.judging.proofs.report_from.Goals as goal

pub returns : goal.returns
returns g c =
    let p = c.read_full-n.ensures in
    let s = take c.read_full-n.result c.read_full-n.new.bytes in
    let bytes : c.as_slice.result.now ≡ report s =
    c.as_slice.ensures ∙ (c.report_taken.ensures s (taken-itself _ c.read_full-n.result p.bound)).0 ∙ ap (λ (t : List ℕ). t ++ report s) c.new-text.ensures in (
      s,
      p.consumes,
      subst (λ l. OnOk c.write_all.result (Appends (g.W.Write.contents c.args.to.now) (g.W.Write.contents c.write_all.new.self) l)) bytes c.write_all.ensures.bytes,
    )
