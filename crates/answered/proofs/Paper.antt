-- The statements of specs/Paper, proved under their own names, and what follows for a room and a list. Assumes nothing.
use Prim.Native.Nat.{ℕ, suc, ◌*◌, ◌<◌}
use native.Mathlib.Omega.{arith}
use mathlib.Core.Path.{◌≡◌, refl, ap, sym, ◌∙◌, subst}
use mathlib.Core.Bool.{cond}
use mathlib.Core.List.{List, [], ◌++◌, append-nil}
use lib.ListN.{length, get_or, take, drop, take-append-drop}
use borrow.Author.Tests.{ne_eqb}
use Rattle.rule.specs.Reasons.{Answer, is, and_then}
use Rattle.sheet.specs.Sheet.{ListsFor}
use Rattle.fields.specs.Fields.{word, decimal, digits, followed, each}
use Rattle.listed.proofs.Fronts.{sections-taken}
use Rattle.listed.specs.Paper.{TakenInto}
use Rattle.newsheet.specs.New.{eight_of, eights, new_sections, Four, four_named, read_new}
use Rattle.newsheet.proofs.Eights.{eights-slice}
use Rattle.answered.specs.Answers.{reading_line, answer_to_reading, head_text, readings_after, answers_text}
use Rattle.answered.specs.Paper as Paper
use Rattle.answered.specs.Paper.{HoldsReadings, HeadWritten}

-- so many bytes are read as the whole
taken : (s : List ℕ) → read_new (take Paper.answers_held s) ≡ read_new s
unfolding read_new
taken s = ap (λ (a : Answer (ListsFor new_sections)). and_then a (λ l. is (four_named l))) (sections-taken new_sections Paper.answers_held (omega arith) s)

pub front-is-enough : Paper.FrontIsEnough
unfolding answers_text
front-is-enough s = ap (λ (a : Answer Four). head_text a ++ each (λ x. answer_to_reading (eight_of x)) (readings_after a)) (taken s)

pub answers-literally : Paper.AnswersLiterally
unfolding answers_text each
answers-literally =
    record {
      refused-sheet = λ s k h. rw (h) (append-nil _);
      good-sheet = λ s l h. rw (h);
    }

pub reading-line-literally : Paper.ReadingLineLiterally
unfolding reading_line followed decimal digits
reading-line-literally =
    record {
      unread = refl;
      known = λ k. ap (λ b. cond b (word "?") (decimal (suc k))) (ne_eqb (suc k) 0 (λ e. omega (arith, e)));
      mark-unread = refl;
      ordinary = refl;
      leap = refl;
      line = refl;
    }

-- a room of so many bytes: what was taken of an input has the head of the whole
pub taken-head : (room : List ℕ) (n : ℕ) (s list text text' : List ℕ) (k : ℕ) → Paper.answers_held ≡ length room → TakenInto room n s →
    HeadWritten (take n room) list text text' k → HeadWritten s list text text' k
taken-head room n s list text text' k l e p =
    let f : read_new (take n room) ≡ read_new s = ap read_new (e ∙ ap (λ (m : ℕ). take m s) (sym l)) ∙ taken s in
    record {
      head = p.head ∙ ap (λ (a : Answer Four). text ++ head_text a) f;
      room = p.room;
      few = p.few;
      readings = subst (HoldsReadings list k) (ap readings_after f) p.readings;
    }

-- nothing held
pub none-held : (list : List ℕ) → HoldsReadings list 0 []
unfolding eights
none-held list = record { many = refl; numbers = refl }

-- reading j of those that a list holds
pub held_at : (list : List ℕ) (n : ℕ) (xs : List ℕ) → HoldsReadings list n xs → (j : ℕ) → j < n → take 8 (drop (8 * j) list) ≡ eight_of (get_or xs j 0)
held_at list n xs h j l =
    let e : list ≡ eights xs ++ drop (8 * n) list = sym (take-append-drop (8 * n) list) ∙ ap (λ (t : List ℕ). t ++ drop (8 * n) list) h.numbers in
    ap (λ (t : List ℕ). take 8 (drop (8 * j) t)) e ∙ eights-slice xs (drop (8 * n) list) j (omega (arith, l, h.many))
