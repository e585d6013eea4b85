-- `sheet::check_list` meets its contract. The invariant: what is left gives the same answer. Assumes nothing.
use Rattle.std.proofs.Common.{◌≡◌, ◌<◌, ap, sym, ◌∙◌, length, map, arith, get_or, true, false}
use Rattle.std.proofs.lemmas.List.{get_or-map, length-map}
use Rattle.rule.specs.Reasons.{within}
use Rattle.sheet.specs.Sheet.{ranged}
use Rattle.sheet.proofs.Writing.{list-long, list-short, item-bad, item_on, items-end}
use Rattle.sheet.proofs.check_list.Goals as goal

pub returns-then-k-xs : goal.returns-then-k-xs
returns-then-k-xs g c =
    let xs = map g.T.InBytes.value c.args.xs.now in
    sym (list-long (ranged c.args.k) xs (length c.args.xs.now) (omega (arith, length-map c.args.xs.now g.T.InBytes.value, c.if-k-xs.true)))

pub loop-x-init : goal.loop-x-init
loop-x-init g c =
    let xs = map g.T.InBytes.value c.args.xs.now in
    sym (list-short (ranged c.args.k) xs (length c.args.xs.now) (omega (arith, length-map c.args.xs.now g.T.InBytes.value, c.if-k-xs.false)))

pub returns-then-not-holds : goal.returns-then-not-holds
returns-then-not-holds g c =
    let value = g.T.InBytes.value in
    let k = c.args.k in
    let ys = c.args.xs.now in
    let loop = c.loop-x in
    let there : loop.x-index < length (map value ys) = omega (arith, length-map ys value, c.loop-x-test.true) in
    let number : get_or (map value ys) loop.x-index 0 ≡ c.value.result =
    get_or-map value ys loop.x-index c.x-item.result 0 c.loop-x-test.true ∙ ap value (sym c.x-item.is) ∙ sym c.value.ensures in
    let out : within k.least k.most (get_or (map value ys) loop.x-index 0) ≡ false = ap (within k.least k.most) number ∙ sym c.holds.ensures ∙ c.if-not-holds.true in
    sym (item-bad (ranged k) (map value ys) (length ys) loop.x-index there out) ∙ loop.invariant

pub loop-x-preserved : goal.loop-x-preserved
loop-x-preserved g c =
    let value = g.T.InBytes.value in
    let k = c.args.k in
    let ys = c.args.xs.now in
    let loop = c.loop-x in
    let there : loop.x-index < length (map value ys) = omega (arith, length-map ys value, c.loop-x-test.true) in
    let number : get_or (map value ys) loop.x-index 0 ≡ c.value.result =
    get_or-map value ys loop.x-index c.x-item.result 0 c.loop-x-test.true ∙ ap value (sym c.x-item.is) ∙ sym c.value.ensures in
    let inside : within k.least k.most (get_or (map value ys) loop.x-index 0) ≡ true = ap (within k.least k.most) number ∙ sym c.holds.ensures ∙ c.if-not-holds.false in
    sym (item_on (ranged k) (map value ys) (length ys) loop.x-index there inside) ∙ loop.invariant

pub returns : goal.returns
returns g c =
    let xs = map g.T.InBytes.value c.args.xs.now in
    let loop = c.loop-x in
    sym (items-end (ranged c.args.k) xs (length c.args.xs.now) loop.x-index (omega (arith, length-map c.args.xs.now g.T.InBytes.value, c.loop-x-test.false)))
    ∙ loop.invariant
