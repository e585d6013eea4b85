-- The line at a place, and a reader's step from it. Assumes nothing.
use Rattle.std.specs.Prelude.{Ok, Err, Some, None}
use Rattle.std.proofs.Common.{◌≡◌, ℕ, ◌+◌, ◌%◌, ◌<◌, ◌≤◌, List, length, drop, refl, arith, length-drop, le-ltb, lt-ltb, le-leb}
use borrow.Author.Tests.{lt-leb}
use Rattle.rule.specs.declared.Reason.TheVariants.{TextTooLong}
use Rattle.concordance.specs.Text.{line_length}
use Rattle.concordance.specs.Verdicts.{step_of}
use Rattle.concordance.specs.declared.Judged.{Judged}
use Rattle.concordance.specs.declared.Step.{Step}
use Rattle.concordance.proofs.Lines.{len-le}
use Rattle.concordance.proofs.Filling.{told}

module _ (s : List ℕ) (p : ℕ) where
  pub line-in : (to : ℕ) → p ≤ length s → to ≡ p + line_length (drop p s) → to ≤ length s
  line-in to h e = omega (arith, len-le (drop p s), length-drop p s)

module _ (s : List ℕ) (p i : ℕ) where
  pub step-long : 65536 < length s → ◌≡◌ {A = Step} (record { said = Err TextTooLong; place = p; line = i }) (step_of s p i)
  unfolding step_of
  step-long h = rw (lt-leb (length s) 65536 h) refl

  pub step_line : (j : Judged) (n : ℕ) → length s ≤ 65536 → p < length s → j ≡ told s p → n ≡ (i + 1) % 4294967296 →
      ◌≡◌ {A = Step} (record { said = Ok (Some j.verdict); place = j.next; line = n }) (step_of s p i)
  unfolding step_of
  step_line j n h k e f = rw (le-leb (length s) 65536 h, lt-ltb p (length s) k, f, e) refl

  pub step-none : length s ≤ 65536 → length s ≤ p → ◌≡◌ {A = Step} (record { said = Ok None; place = p; line = i }) (step_of s p i)
  unfolding step_of
  step-none h k = rw (le-leb (length s) 65536 h, le-ltb p (length s) k) refl
