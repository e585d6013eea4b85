-- What a turn of the loop does, over plain values: the reader after i lines, and what its step says. Assumes nothing.
use Rattle.std.specs.Prelude.{Result}
use Rattle.rule.specs.declared.Reason.{Reason}
use Rattle.rule.specs.Reasons.{said}
use Prim.Native.Nat.{ℕ, ◌+◌, ◌<◌, ◌≤◌}
use native.Mathlib.Omega.{arith}
use mathlib.Core.Path.{◌≡◌, refl, ap, ◌∙◌}
use mathlib.Core.List.{List, []}
use lib.ListN.{length, get_or}
use denote.Ref.{Bor}
use Rattle.rule.specs.Lists.{placed}
use Rattle.concordance.specs.Text.{lines_of, place_of}
use Rattle.concordance.specs.Verdicts.{LineTold, number_on, verdicts_of}
use Rattle.concordance.specs.Promises.{JudgeText}
use Rattle.concordance.proofs.Places.{line-is}
use Rattle.offered.specs.Flat.{flat_length}
use Rattle.offered.specs.Promises.{CJudgeText}
use Rattle.reader.specs.Readers.{opened, NextLine}
use Rattle.reader.specs.declared.Reader.{Reader}
use Rattle.reader.proofs.Paper.{on-any-line, any-before-end}
use Rattle.paged.specs.Paged.{said_number}
use Rattle.drawer.proofs.Mid.{mid, mid-ends}

module _ (text : Bor (List ℕ)) where
  abbrev pub rd : ℕ → Reader
  rd i = record { text = text; place = place_of text.now i; line = i }

  pub rd-zero : opened text ≡ rd 0
  unfolding place_of
  rd-zero = refl

  module _ (short : length text.now ≤ 65536) (i : ℕ) (l : i < length (lines_of text.now)) (h : Reader) (v : LineTold) (st : NextLine (rd i) h v) where
    pub rd_next : h ≡ rd (i + 1)
    rd_next = (on-any-line text short i l h v st).1

    pub said-next : said_number v ≡ number_on (get_or (lines_of text.now) i [])
    said-next = ap said_number (on-any-line text short i l h v st).0 ∙ ap number_on (line-is text.now i (any-before-end text.now i l))

pub all_said : (s ys : List ℕ) (n : ℕ) → n ≡ length (lines_of s) → n ≤ length ys → mid number_on (lines_of s) ys n ≡ placed (verdicts_of s) ys
unfolding verdicts_of
all_said s ys n e h =
    ap (mid number_on (lines_of s) ys) e ∙ mid-ends number_on (lines_of s) ys (omega (arith, e, h))

-- an answer of the call, laid flat
pub for-c : (s : List ℕ) {o o' : List ℕ} {h : Result ℕ Reason} → JudgeText s o h o' → CJudgeText s o (flat_length (said h)) o'
for-c s p = record { answer = ap flat_length p.answer; buffer = p.buffer }
