-- The statements of specs/Paper, proved, each under its own name. Assumes nothing.
use Rattle.std.specs.Prelude.{Result, Ok}
use Rattle.rule.specs.declared.Reason.{Reason}
use Rattle.std.proofs.Common.{◌≡◌, ℕ, zero, suc, ◌<◌, ◌≤◌, leb, List, [], ◌∷◌, ◌++◌, length, get_or, sym, refl, ap, ◌∙◌, subst, arith, leb-true}
use Rattle.rule.specs.Lists.{placed}
use Rattle.rule.specs.Reasons.{Answer, is, and_then, into_room, afterwards}
use Rattle.rule.specs.declared.Reason.TheVariants.{TextTooLong}
use Rattle.rule.proofs.Answers.{at_most, holds-all}
use Rattle.penned.specs.Promises.{Printed}
use Rattle.penned.proofs.Paper.{text-given, text_in-front, of-text, printed-kept, printed-once, with_newline, not-refused}
use Rattle.concordance.specs.Text.{lines_of}
use Rattle.concordance.specs.Verdicts.{number_on, verdicts_of}
use Rattle.concordance.specs.Promises.{verdicts_into}
use Rattle.concordance.specs.Paper.{Says, Given, nines}
use Rattle.concordance.specs.Paper as Paper
use Rattle.concordance.proofs.Filling.{verdicts-length, verdict-at}
use Rattle.concordance.proofs.Splitting.{without-newlines, made_of, only-lines}
use Rattle.concordance.proofs.Saying.{says, line-right}
use Rattle.concordance.proofs.Cases as cases

pub lines_split : Paper.LinesSplit
unfolding lines_of
lines_split =
    record {
      whole = λ s. (without-newlines s, made_of s);
      only = only-lines;
      empty-text = refl;
      newline-last = refl;
      no-newline-last = refl;
      empty-line = refl;
    }

in-front : (xs ys : List ℕ) (i d : ℕ) → i < length xs → get_or (xs ++ ys) i 0 ≡ get_or xs i d
in-front [] ys i d l = absurd (omega (arith, l))
in-front (x ∷ xs) ys zero d l = refl
in-front (x ∷ xs) ys (suc i) d l = in-front xs ys i d (omega (arith, l))

-- what an answered call leaves
module _ (s o o' : List ℕ) (n : ℕ) (g : Given s o n o') where
  given : verdicts_into s (length o) ≡ is (verdicts_of s)
  unfolding verdicts_into
  given = text-given (leb (length s) 65536) 18 (verdicts_of s) o g

  pub not-long : length s ≤ 65536
  unfolding verdicts_into
  not-long = leb-true (length s) 65536 ((holds-all (leb (length s) 65536) 18 (into_room (length o) (verdicts_of s)) (verdicts_of s)).0 given).0

  pub many : n ≡ length (lines_of s)
  many =
      let e : ◌≡◌ {A = Answer ℕ} (is n) (is (length (verdicts_of s))) = g.answer ∙ ap (λ (a : Answer (List ℕ)). and_then a (λ b. is (length b))) given in
      let f : n ≡ length (verdicts_of s) = cc in
      f ∙ verdicts-length s

  pub filled : o' ≡ placed (verdicts_of s) o
  filled = g.buffer ∙ ap (λ (a : Answer (List ℕ)). afterwards a (λ b. b) o) given

  pub at-line : (i : ℕ) → i < n → get_or o' i 0 ≡ number_on (get_or (lines_of s) i [])
  at-line i l = ap (λ (x : List ℕ). get_or x i 0) filled ∙ (in-front (verdicts_of s) _ i (number_on []) (omega (arith, l, many, verdicts-length s)) ∙ verdict-at s i)

pub each-line-judged : Paper.EachLineJudged
each-line-judged =
    record {
      lines = many;
      verdicts = λ s o o' n g i l. subst (Says (get_or (lines_of s) i [])) (sym (at-line s o o' n g i l)) (says (get_or (lines_of s) i []));
    }

pub every-month-right : Paper.EveryMonthRight
every-month-right =
    record {
      right = λ s o o' n g i m l h e. at-line s o o' n g i l ∙ (ap number_on e ∙ line-right m h);
      printed = with_newline;
    }

pub reasons-of-judging : Paper.ReasonsOfJudging
unfolding verdicts_into
reasons-of-judging s o = of-text (leb (length s) 65536) TextTooLong (omega arith) (verdicts_of s) o (at_most (length s) 65536)

pub refusal-judges-nothing : Paper.RefusalJudgesNothing
refusal-judges-nothing s o o' why p = printed-kept (verdicts_into s (length o)) o o' why p

pub rest-unjudged : Paper.RestUnjudged
unfolding verdicts_into
rest-unjudged s o o' n g = text_in-front (leb (length s) 65536) 18 (verdicts_of s) o o' n g

pub unique-verdicts : Paper.UniqueVerdicts
unique-verdicts s o x y o₁ o₂ p q = printed-once (verdicts_into s (length o)) o x y o₁ o₂ p q

-- at a named text: the list, and how many verdicts there are
list-is : {a : Answer (List ℕ)} {xs o' : List ℕ} {r : Result ℕ Reason} → a ≡ is xs → Printed a nines r o' → o' ≡ placed xs nines
list-is e p = p.buffer ∙ ap (λ (a : Answer (List ℕ)). afterwards a (λ b. b) nines) e

many-are : {a : Answer (List ℕ)} {xs o' : List ℕ} → a ≡ is xs → (n : ℕ) → Printed a nines (Ok n) o' → n ≡ length xs
many-are {xs = xs} e n p =
    let q : ◌≡◌ {A = Answer ℕ} (is n) (is (length xs)) = p.answer ∙ ap (λ (a : Answer (List ℕ)). and_then a (λ b. is (length b))) e in
    let f : n ≡ length xs = cc in
    f

-- the one verdict
alone-is : {a : Answer (List ℕ)} {x : ℕ} → a ≡ is (x ∷ []) → (v : ℕ) → Printed a nines (Ok 1) (placed (v ∷ []) nines) → v ≡ x
alone-is e v p = ap (λ (o : List ℕ). get_or o 0 0) (list-is e p)

not-alone : {a : Answer (List ℕ)} {x : ℕ} → a ≡ is (x ∷ []) → (v : ℕ) → (v ≡ x → ⊥) → Printed a nines (Ok 1) (placed (v ∷ []) nines) → ⊥
not-alone e v n p = n (alone-is e v p)

unread : {a : Answer (List ℕ)} → a ≡ is (7 ∷ []) → (v : ℕ) → v < 7 → Printed a nines (Ok 1) (placed (v ∷ []) nines) → ⊥
unread e v l p = omega (arith, l, alone-is e v p)

pub wrong-verdicts : Paper.WrongVerdicts
wrong-verdicts =
    record {
      refuses = λ why o p. not-refused cases.big-pair p;
      unwritten = λ a p. let q : ◌≡◌ {A = ℕ} 9 0 = ap (λ (o : List ℕ). get_or o 0 0) (list-is cases.big-pair p) in omega (arith, q);
      all_right = not-alone cases.short-month 0 (λ i. omega (arith, i));
      first-only = λ o p. omega (arith, many-are cases.two-lines 1 p);
      rest-skipped = λ a p. let q : ◌≡◌ {A = ℕ} 9 7 = ap (λ (o : List ℕ). get_or o 1 0) (list-is cases.two-lines p) in omega (arith, q);
      first-copied = λ a p. let q : ◌≡◌ {A = ℕ} 0 7 = ap (λ (o : List ℕ). get_or o 1 0) (list-is cases.two-lines p) in omega (arith, q);
      last-wrong = not-alone cases.two-wrong 6 (λ i. omega (arith, i));
      counted-from-0 = not-alone cases.two-wrong 3 (λ i. omega (arith, i));
      leading-zero = unread cases.leading-zero;
      carriage-return = unread cases.carriage-return;
      tab = unread cases.tab;
      word-before = unread cases.word-before;
      space-after = unread cases.space-after;
      two-spaces = unread cases.two-spaces;
      ten-digits = unread cases.ten-digits;
      nine-digits = not-alone cases.nine-digits 7 (λ i. omega (arith, i));
      nought = not-alone cases.nought 7 (λ i. omega (arith, i));
      out_of_range = λ v l p. l (alone-is cases.out_of_range v p);
      second-of-two-big = λ v l p. omega (arith, l, alone-is cases.big-pair v p);
      newline-opens = λ o p. omega (arith, many-are cases.newline-last 2 p);
      empty-line-skipped = λ o p. omega (arith, many-are cases.empty-line 1 p);
      empty-text-judged = λ o p. omega (arith, many-are cases.empty-text 1 p);
    }
