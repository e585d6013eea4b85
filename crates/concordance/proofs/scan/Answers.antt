-- `concordance::scan` meets its contract: so many digits are read and worth the value. Assumes nothing.
use Rattle.std.proofs.Common.{ℕ, ◌≡◌, ◌+◌, ◌*◌, ◌<◌, ◌≤◌, true, get_or, arith}
use Rattle.rule.specs.Reasons.{within}
use Rattle.rule.proofs.Answers.{within-true}
use Rattle.concordance.proofs.Scanning.{scan-fits, scan-over, scan-many, scan-other, scan-next, field-over, field-none}
use Rattle.std.specs.Prelude.{Some}
use Rattle.concordance.specs.Parts.{Scanned}
use mathlib.Core.Path.{sym, subst, ◌∙◌}
use Rattle.concordance.proofs.scan.Goals as goal

pub returns-then-b-eq32 : goal.returns-then-b-eq32
returns-then-b-eq32 c =
    let l = c.loop-end in
    let s = c.args.s.now in
    scan-over s l.value l.end l.invariant (field-over s l.end c.loop-end-test.true c.if-b-eq32.true)

pub returns-then-end-ge9 : goal.returns-then-end-ge9
returns-then-end-ge9 c =
    let l = c.loop-end in
    scan-many c.args.s.now l.value l.end l.invariant c.loop-end-test.true
    c.if-b-eq32.false c.if-end-ge9.true

pub returns-then-not-is_digit : goal.returns-then-not-is_digit
returns-then-not-is_digit c =
    let l = c.loop-end in
    scan-other c.args.s.now l.value l.end l.invariant
    c.loop-end-test.true
    c.if-b-eq32.false (sym c.is_digit.ensures ∙ c.if-not-is_digit.true)

pub overflow_mul-value : goal.overflow_mul-value
overflow_mul-value c =
    let fits : 10 * c.loop-end.value + 9 < 4294967296 =
    let l = c.loop-end in
    scan-fits c.args.s.now l.value l.end l.invariant c.if-end-ge9.false in
    record { fits = omega (arith, fits) }

pub overflow_add-value : goal.overflow_add-value
overflow_add-value c =
    let digit : within 48 57 (get_or c.args.s.now c.loop-end.end 0) ≡ true = sym c.is_digit.ensures ∙ c.if-not-is_digit.false in
    let high : get_or c.args.s.now c.loop-end.end 0 ≤ 57 = ((within-true 48 57 _).0 (digit)).1 in
    let fits : 10 * c.loop-end.value + 9 < 4294967296 =
    let l = c.loop-end in
    scan-fits c.args.s.now l.value l.end l.invariant c.if-end-ge9.false in
    record { fits = omega (arith, fits, high) }

pub loop-end-preserved : goal.loop-end-preserved
loop-end-preserved c =
    let digit : within 48 57 (get_or c.args.s.now c.loop-end.end 0) ≡ true = sym c.is_digit.ensures ∙ c.if-not-is_digit.false in
    let l = c.loop-end in
    scan-next c.args.s.now l.value l.end l.invariant
    c.loop-end-test.true
    c.if-b-eq32.false c.if-end-ge9.false (digit)

pub returns : goal.returns
returns c =
    let l = c.loop-end in
    let s = c.args.s.now in
    subst (λ (k : ℕ). Scanned s (Some (record { value = l.value; end = k }))) {x = l.end} (omega (arith, c.loop-end-test.false))
    (scan-over s l.value l.end l.invariant (field-none s l.end c.loop-end-test.false))
