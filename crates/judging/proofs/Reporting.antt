-- The lines of verdicts one by one. Assumes nothing.
use Prim.Native.Nat.{ℕ, suc, ◌+◌, ◌<◌}
use native.Mathlib.Omega.{arith}
use mathlib.Core.Path.{◌≡◌, ap, sym, ◌∙◌}
use mathlib.Core.List.{List, [], ◌∷◌, ◌++◌, append-nil, append_assoc}
use lib.ListN.{length, get_or, take}
use lib.Seq.{length-take-le}
use Rattle.fields.proofs.Putting.{front-next}
use Rattle.judging.specs.Report.{verdict_line, verdict_lines}

-- one verdict more at the end
lines-last : (k : ℕ) (vs : List ℕ) (v : ℕ) → verdict_lines k (vs ++ (v ∷ [])) ≡ verdict_lines k vs ++ verdict_line (k + length vs) v
unfolding verdict_lines
lines-last k [] v = append-nil (verdict_line k v) ∙ ap (λ (i : ℕ). verdict_line i v) (omega arith)
lines-last k (u ∷ vs) v =
    ap (λ (l : List ℕ). verdict_line k u ++ l) (lines-last (suc k) vs v ∙ ap (λ (i : ℕ). verdict_lines (suc k) vs ++ verdict_line i v) {x = suc k + length vs} {y = k + suc (length vs)} (omega arith))
    ∙ sym (append_assoc (verdict_line k u) (verdict_lines (suc k) vs) (verdict_line (k + suc (length vs)) v))

pub lines_next : (vs : List ℕ) (i : ℕ) → i < length vs → verdict_lines 1 (take (i + 1) vs) ≡ verdict_lines 1 (take i vs) ++ verdict_line (i + 1) (get_or vs i 0)
lines_next vs i h =
    ap (verdict_lines 1) (front-next vs i h)
    ∙ (lines-last 1 (take i vs) (get_or vs i 0)
    ∙ ap (λ (k : ℕ). verdict_lines 1 (take i vs) ++ verdict_line k (get_or vs i 0)) {x = 1 + length (take i vs)} {y = i + 1} (omega (arith, length-take-le i vs (omega (arith, h)))))
