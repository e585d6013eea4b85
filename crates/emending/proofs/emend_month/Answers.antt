-- `emending::emend_month` meets its contract: the month's own fault once, and then its days. Assumes nothing.
use Prim.Native.Nat.{ℕ, ◌+◌, ◌-◌}
use native.Mathlib.Omega.{arith}
use mathlib.Core.Path.{◌≡◌, refl, ap, sym, ◌∙◌}
use mathlib.Core.Bool.{cond}
use mathlib.Core.List.{List}
use lib.ListN.{length}
use lib.Seq.{sets}
use Rattle.rule.specs.Rule.{month_start}
use Rattle.emending.specs.Faults.{days_out, emendations}
use Rattle.emending.proofs.Gathering.{put-none}
use Rattle.emending.proofs.Passing.{month-out, month-none}
use Rattle.emending.proofs.emend_month.Goals as goal

pub emend_days-requires : goal.emend_days-requires
emend_days-requires c =
    let own-days : let a = c.args in days_out a.r c.month_fault-shared.result (month_start a.part.month) a.part.from (a.part.to - a.part.from) ≡ emendations a.r a.part.from (a.part.to - a.part.from) =
    month-out c.args.part.of_month c.args.r c.month_fault-shared.ensures refl in
    let p = c.requires in
    (omega (arith, p.0), λ w. omega (arith, ap length (own-days), p.1 w))

pub returns-then-is_more : goal.returns-then-is_more
returns-then-is_more c =
    let a = c.args in
    let none = month-none c.args.part.of_month a.r c.month_fault-shared.ensures (sym c.is_more.ensures ∙ c.if-is_more.true) in (
      omega (arith, ap length none),
      put-none a.out.now a.at a.write ∙ sym (ap (λ (l : List ℕ). cond a.write (sets a.out.now a.at l) a.out.now) none),
    )

pub returns : goal.returns
returns c =
    let own-days : let a = c.args in days_out a.r c.month_fault-shared.result (month_start a.part.month) a.part.from (a.part.to - a.part.from) ≡ emendations a.r a.part.from (a.part.to - a.part.from) =
    month-out c.args.part.of_month c.args.r c.month_fault-shared.ensures refl in
    let a = c.args in (
      c.emend_days.ensures.0 ∙ ap (λ (l : List ℕ). a.at + length l) (own-days),
      c.emend_days.ensures.1 ∙ ap (λ (l : List ℕ). cond a.write (sets a.out.now a.at l) a.out.now) (own-days),
    )
