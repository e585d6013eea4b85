-- `converted::old_from` meets its contract: what is answered lies in its room, and is handed on. Assumes nothing.
use Rattle.std.proofs.Common.{arith, take}
use Rattle.std.proofs.lemmas.Result.{on_ok_weaker}
use Rattle.std.specs.Prelude.{MatchResult}
use Rattle.std.specs.Io.KnownBytes.{Appends}
use Rattle.rule.specs.Reasons.{reason_number}
use Rattle.penned.specs.Lines.{refused_line}
use Rattle.listed.proofs.Paper.{taken-itself}
use Rattle.newsheet.specs.New.{to_old}
use Rattle.converted.specs.Paper.{old_most}
use Rattle.converted.proofs.Paper.{inside, given}
use Rattle.converted.proofs.old_from.Goals as goal

pub hand_on-requires : goal.hand_on-requires
hand_on-requires g c =
    let p = c.old_taken-answer.ensures _ (taken-itself _ c.read_full-n.result (omega arith)) in inside _ _ _ _ p.answer p.buffer

pub returns : goal.returns
returns g c =
    let n = c.read_full-n in
    let a = c.old_taken-answer in
    let s = take n.result n.new.bytes in
    let p = a.ensures s (taken-itself _ n.result n.ensures.bound) in
    let W = g.W.Write.contents in
    let E = g.E.Write.contents in (
      s,
      n.ensures.consumes,
      on_ok_weaker c.hand_on.result
          (λ (h : MatchResult a.result (λ m. Appends (W c.args.to.now) (W c.hand_on.new.to) (take m a.new.out))
          (λ why. Appends (E c.args.errors.now) (E c.hand_on.new.errors) (refused_line (reason_number why)))).
          given (to_old s old_most) _ _ _ _ _ _ _ p.answer p.buffer h) c.hand_on.ensures,
    )
