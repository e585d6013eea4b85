-- The statements of specs/Paper, proved, each under its own name. Assumes nothing.
use Rattle.std.specs.Prelude.{Result, Ok, Err, cond}
use Prim.Native.Nat.{ℕ, ◌+◌, ◌≤◌, ◌<◌}
use native.Mathlib.Omega.{arith}
use native.Mathlib.Decide.{dec_lt}
use mathlib.Core.Path.{◌≡◌, refl, ap, sym, ◌∙◌, subst}
use mathlib.Core.Logic.{◌⊎◌, inl, inr}
use mathlib.Core.List.{List, [], ◌∷◌, ◌++◌, map}
use lib.ListN.{length, take}
use lib.Seq.{take_all, length-take-le}
use borrow.Author.Tests.{le-leb, lt-leb}
use Rattle.std.proofs.lemmas.List.Sums.{sum_by-cons}
use Rattle.rule.specs.Reasons.{within}
use Rattle.rule.specs.declared.Reason.{Reason}
use Rattle.rule.specs.declared.Reason.TheVariants.{TextTooLong, LentTooShort}
use Rattle.fields.specs.Fields.{word, followed}
use Rattle.penned.specs.Paper.{in_lines}
use Rattle.listed.specs.Paper.{TakenInto}
use Rattle.concordance.specs.Text.{lines_of}
use Rattle.concordance.specs.Verdicts.{number_on, verdicts_of}
use Rattle.concordance.specs.Promises.{JudgeText}
use Rattle.concordance.proofs.Cases.{judging}
use Rattle.concordance.proofs.Filling.{verdicts-length}
use Rattle.concordance.proofs.Places.{lines-le}
use Rattle.concordance.proofs.Saying.{says}
use Rattle.concordance.proofs.Paper.{filled, many, not-long, reasons-of-judging, refusal-judges-nothing}
use Rattle.sheet.proofs.Places.{front}
use Rattle.judging.specs.Report.{verdict_line, verdict_lines, how_many, total_line, refusal_line, report}
use Rattle.judging.specs.Paper as Paper

pub example-reported : Paper.ExampleReported
unfolding judging in_lines followed verdict_line verdict_lines total_line report
example-reported = refl

pub empty-reported : Paper.EmptyReported
unfolding judging in_lines followed verdict_line verdict_lines total_line report
empty-reported = refl

refused-line : refusal_line TextTooLong ≡ in_lines (word "REFUSED 18 text too long" ∷ [])
unfolding judging in_lines followed refusal_line
refused-line = refl

-- a text that is too long
long-report : (s : List ℕ) → 65536 < length s → report s ≡ refusal_line TextTooLong
unfolding report
long-report s h = rw (lt-leb (length s) 65536 h) refl

pub long-refused : Paper.LongRefused
long-refused s h = long-report s (omega (arith, h)) ∙ refused-line

-- every verdict is of one of the three kinds
one-kind : (v : ℕ) → v ≤ 7 → cond (within 0 0 v) 1 0 + cond (within 1 6 v) 1 0 + cond (within 7 7 v) 1 0 ≡ 1
one-kind v h = go (dec_lt 0 v) (dec_lt 6 v)
  where
    go : Dec (0 < v) → Dec (6 < v) → cond (within 0 0 v) 1 0 + cond (within 1 6 v) 1 0 + cond (within 7 7 v) 1 0 ≡ 1
    go (no a) b = let e : v ≡ 0 = omega (arith, a) in rw (e) refl
    go (yes a) (yes b) = let e : v ≡ 7 = omega (arith, b, h) in rw (e) refl
    go (yes a) (no b) =
        rw (le-leb 0 v (omega arith), lt-leb v 0 (omega (arith, a)), le-leb 1 v (omega (arith, a)), le-leb v 6 (omega (arith, b)), lt-leb 7 v (omega (arith, b))) refl

three-kinds : (ls : List (List ℕ)) → how_many 0 0 (map number_on ls) + how_many 1 6 (map number_on ls) + how_many 7 7 (map number_on ls) ≡ length ls
three-kinds [] = refl
three-kinds (l ∷ ls) =
    let e = three-kinds ls in
    let v = number_on l in
    let vs = map number_on ls in
    let more = λ (least most : ℕ). sum_by-cons (λ (n : ℕ). cond (within least most n) 1 0) v vs in
    omega (arith, e, one-kind v (says l).most, more 0 0, more 1 6, more 7 7)

pub totals-make-up-the-lines : Paper.TotalsMakeUpTheLines
unfolding verdicts_of
totals-make-up-the-lines s = three-kinds (lines_of s)

-- so many bytes are enough: one more than the longest text shows that it is too long
pub front-is-enough : Paper.FrontIsEnough
front-is-enough s = go (dec_lt Paper.text_held (length s))
  where
    go : Dec (Paper.text_held < length s) → report (take Paper.text_held s) ≡ report s
    go (no g) = ap report (take_all Paper.text_held s (omega (arith, g)))
    go (yes l) = long-report (take Paper.text_held s) (omega (arith, length-take-le Paper.text_held s (omega (arith, l)))) ∙ sym (long-report s (omega (arith, l)))

-- the report of what a room of so many bytes has taken is that of the whole input
pub taken-report : (room : List ℕ) (n : ℕ) (s : List ℕ) → Paper.text_held ≡ length room → TakenInto room n s → report (take n room) ≡ report s
taken-report room n s h e = ap report (e ∙ ap (λ (k : ℕ). take k s) (sym h)) ∙ front-is-enough s

-- the two reports, by what the call answers
module _ (s : List ℕ) {o o' : List ℕ} {r : Result ℕ Reason} (p : JudgeText s o r o') (room : 65536 ≤ length o) where
  pub refused-report : {why : Reason} → r ≡ Err why → refusal_line why ≡ report s
  refused-report {why} e = go ((reasons-of-judging s o).only why o' q)
    where
      q : JudgeText s o (Err why) o'
      q = subst (λ (a : Result ℕ Reason). JudgeText s o a o') e p

      same : JudgeText s o (Err why) o
      same = subst (λ (l : List ℕ). JudgeText s o (Err why) l) (refusal-judges-nothing s o o' why q) q

      of : (b : Reason) → why ≡ b → JudgeText s o (Err b) o
      of b i = subst (λ (x : Reason). JudgeText s o (Err x) o) i same

      go : (why ≡ TextTooLong) ⊎ (why ≡ LentTooShort) → refusal_line why ≡ report s
      go (inl i) = ap refusal_line i ∙ sym (long-report s (omega (arith, (reasons-of-judging s o).absent.0 (of TextTooLong i))))
      go (inr i) =
          let (h, short) = (reasons-of-judging s o).short.0 (of LentTooShort i) in
          absurd (short (omega (arith, h, room, verdicts-length s, lines-le s)))

  module _ {n : ℕ} (e : r ≡ Ok n) where
    q : JudgeText s o (Ok n) o'
    q = subst (λ (a : Result ℕ Reason). JudgeText s o a o') e p

    so-many : n ≡ length (verdicts_of s)
    so-many = many s o o' n q ∙ sym (verdicts-length s)

    verdicts-there : take n o' ≡ verdicts_of s
    verdicts-there = front (verdicts_of s) o n o' (filled s o o' n q) so-many

    pub given-report : verdict_lines 1 (take n o') ++ total_line (take n o') ≡ report s
    unfolding report
    given-report =
        ap (λ (vs : List ℕ). verdict_lines 1 vs ++ total_line vs) verdicts-there
        ∙ sym (rw (le-leb (length s) 65536 (not-long s o o' n q)) refl)
