-- `sheet::check_items` meets its contract. The invariant: what is left gives the same answer. Assumes nothing.
use Rattle.std.proofs.Common.{ℕ, ◌+◌, ◌-◌, ◌≡◌, List, leb, length, true, false, ap, sym, ◌∙◌, arith}
use Rattle.rule.specs.Reasons.{is, and_then}
use Rattle.rule.proofs.Answers.{handed_on}
use Rattle.rule.proofs.Stores.{part-all}
use Rattle.sheet.specs.Sheet.{items_read}
use Rattle.sheet.proofs.Reading.{item-cut, item_out, item-good, no_item}
use Rattle.sheet.proofs.check_items.Goals as goal

pub returns-then-not-is_whole : goal.returns-then-not-is_whole
returns-then-not-is_whole g c =
    let k = g.K.InSection.section c.args.k in
    let loop = c.loop in
    let n = c.args.n in
    let whole : leb k.width (length loop.t.now) ≡ false = ap (λ (w : ℕ). leb w (length loop.t.now)) (sym c.width-width.ensures) ∙ sym c.is_whole.ensures ∙ c.if-not-is_whole.true in
    sym (item-cut k (n - loop.counter) (n - (loop.counter + 1)) (omega (arith, c.loop-test.true)) loop.t.now n whole) ∙ loop.invariant

pub returns-in_err-test : goal.returns-in_err-test
returns-in_err-test g c =
    let k = g.K.InSection.section c.args.k in
    let loop = c.loop in
    let n = c.args.n in
    let whole : leb k.width (length loop.t.now) ≡ true = ap (λ (w : ℕ). leb w (length loop.t.now)) (sym c.width-width.ensures) ∙ sym c.is_whole.ensures ∙ c.if-not-is_whole.false in
    handed_on _ _ c.from_residual.ensures.1
    ∙ sym (item_out k (n - loop.counter) (n - (loop.counter + 1)) (omega (arith, c.loop-test.true)) loop.t.now n whole _ (sym c.in_err-test.ensures))
    ∙ loop.invariant

pub loop-preserved : goal.loop-preserved
loop-preserved g c =
    let k = g.K.InSection.section c.args.k in
    let loop = c.loop in
    let n = c.args.n in
    let whole : leb k.width (length loop.t.now) ≡ true = ap (λ (w : ℕ). leb w (length loop.t.now)) (sym c.width-width.ensures) ∙ sym c.is_whole.ensures ∙ c.if-not-is_whole.false in
    rw (c.width-width.ensures)
    (ap (λ (u : List ℕ). and_then (items_read k (n - (loop.counter + 1)) u) (λ xs. is n)) (part-all k.width loop.t.now)
    ∙ sym (item-good k (n - loop.counter) (n - (loop.counter + 1)) (omega (arith, c.loop-test.true)) loop.t.now n whole (sym c.in_ok-test.ensures))
    ∙ loop.invariant)

pub returns : goal.returns
returns g c =
    let k = g.K.InSection.section c.args.k in
    let loop = c.loop in
    let n = c.args.n in
    sym (no_item k (n - loop.counter) (omega (arith, c.loop-test.false)) loop.t.now n) ∙ loop.invariant
