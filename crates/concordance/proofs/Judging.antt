-- The answers of the call for a whole text. Assumes nothing.
use Rattle.std.specs.Prelude.{Ok, Err}
use Rattle.std.proofs.Common.{◌≡◌, ℕ, ◌<◌, ◌≤◌, List, length, sym, refl, ap, ◌∙◌, arith, le-leb}
use borrow.Author.Tests.{lt-leb}
use Rattle.rule.specs.Lists.{placed}
use Rattle.rule.specs.Reasons.{is, refused}
use Rattle.rule.specs.declared.Reason.TheVariants.{TextTooLong, LentTooShort}
use Rattle.penned.proofs.Refusing.{printed-refused, printed-as}
use Rattle.concordance.specs.Text.{lines_of}
use Rattle.concordance.specs.Verdicts.{verdicts_of}
use Rattle.concordance.specs.Promises.{verdicts_into, JudgeText}
use Rattle.concordance.proofs.Filling.{verdicts-length}

module _ (s o : List ℕ) where
  is-long : 65536 < length s → verdicts_into s (length o) ≡ refused 18
  unfolding verdicts_into
  is-long h = rw (lt-leb (length s) 65536 h) refl

  pub text-long : 65536 < length s → JudgeText s o (Err TextTooLong) o
  text-long h = printed-refused o TextTooLong (is-long h)

  module _ (n : ℕ) (h : length s ≤ 65536) (e : n ≡ length (lines_of s)) where
    is-short : length o < n → verdicts_into s (length o) ≡ refused 12
    unfolding verdicts_into
    is-short l = rw (le-leb (length s) 65536 h, lt-leb (length (verdicts_of s)) (length o) (omega (arith, verdicts-length s, e, l))) refl

    pub text-short : length o < n → JudgeText s o (Err LentTooShort) o
    text-short l = printed-refused o LentTooShort (is-short l)

    is-judged : n ≤ length o → verdicts_into s (length o) ≡ is (verdicts_of s)
    unfolding verdicts_into
    is-judged l = rw (le-leb (length s) 65536 h, le-leb (length (verdicts_of s)) (length o) (omega (arith, verdicts-length s, e, l))) refl

    pub text-judged : (o' : List ℕ) → n ≤ length o → o' ≡ placed (verdicts_of s) o → JudgeText s o (Ok n) o'
    text-judged o' l f = printed-as (sym (is-judged l)) (record { answer = ap is (e ∙ sym (verdicts-length s)); buffer = f })
