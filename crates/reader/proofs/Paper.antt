-- The statements of specs/Paper, proved, each under its own name. Assumes nothing.
use Rattle.std.specs.Prelude.{Ok, Err, Some, None}
use Prim.Native.Nat.{ℕ, zero, suc, ◌+◌, ◌-◌, ◌%◌, ◌≤◌, ◌<◌}
use native.Mathlib.Omega.{arith}
use native.Mathlib.Numerals.{add-one}
use native.Mathlib.Decide.{dec_le}
use mathlib.Core.Path.{◌≡◌, refl, ap, sym, ◌∙◌, subst}
use mathlib.Core.List.{List}
use lib.ListN.{length}
use denote.Ref.{Bor}
use Rattle.rule.specs.declared.Reason.{Reason}
use Rattle.rule.specs.declared.Reason.TheVariants.{TextTooLong}
use Rattle.concordance.specs.declared.Verdict.TheVariants.{Right, Wrong, Unreadable}
use Rattle.concordance.specs.declared.Verdict.{Verdict}
use Rattle.concordance.specs.declared.LineField.TheVariants.{MonthCount, Number, LeapMark, FirstName, Length, EclipseMark}
use Rattle.concordance.specs.declared.Step.{Step}
use Rattle.concordance.specs.Text.{lines_of, line_length, place_of, advance}
use Rattle.concordance.specs.Verdicts.{LineTold, field_counted, verdict_number, verdict_of, number_on, line_at, step_of}
use Rattle.rule.proofs.Answers.{one-to-one}
use mathlib.Core.Bool.{cond}
use lib.Dec.{eqb}
use Rattle.concordance.specs.Promises.{JudgeText}
use Rattle.concordance.proofs.Saying.{in-six}
use Rattle.concordance.proofs.Cases.{judging}
use Rattle.concordance.proofs.Filling.{told}
use Rattle.concordance.proofs.Places.{more_yes, more_no, lines-le, line-is}
use Rattle.concordance.proofs.Steps.{step-long, step_line, step-none}
use Rattle.concordance.proofs.Paper.{not-long, many, at-line}
use Rattle.reader.specs.declared.Reader.{Reader}
use Rattle.reader.specs.Readers.{opened, step_from, NextLine}
use Rattle.reader.specs.Paper.{Steps}
use Rattle.reader.specs.Paper as Paper

-- two readers with the same fields are one
one_reader : (b c : Reader) → b.text ≡ c.text → b.place ≡ c.place → b.line ≡ c.line → b ≡ c
one_reader b c t p l = λ j. record { text = t j; place = p j; line = l j }

pub unique-step : Paper.UniqueStep
unique-step a b c v w s u = (s.said ∙ sym u.said, one_reader b c (s.text ∙ sym u.text) (s.place ∙ sym u.place) (s.line ∙ sym u.line))

-- what a step says and where it leads, from what the step of its text and place is
module _ {a b : Reader} {v : LineTold} (h : NextLine a b v) (t : Step) (e : t ≡ step_from a) where
  says-that : v ≡ t.said
  says-that = h.said ∙ ap (λ (u : Step). u.said) (sym e)

  leads : b ≡ record { text = a.text; place = t.place; line = t.line }
  leads = one_reader b (record { text = a.text; place = t.place; line = t.line }) h.text (h.place ∙ ap (λ (u : Step). u.place) (sym e)) (h.line ∙ ap (λ (u : Step). u.line) (sym e))

pub reader-refuses : Paper.ReaderRefuses
reader-refuses =
    record {
      long = λ a b v h n. let e = step-long a.text.now a.place a.line (omega (arith, n)) in (says-that h _ e, leads h _ e);
      only = λ a b v why h l i. other a b v why h l i (dec_le (length a.text.now) a.place);
      no_other = λ a b why h. the_one a b why h (dec_le (length a.text.now) 65536);
    }
  where
    other :
        (a b : Reader) (v : LineTold) (why : Reason) → NextLine a b v → length a.text.now ≤ 65536 → v ≡ Err why →
        Dec (length a.text.now ≤ a.place) → ⊥
    other a b v why h l i (yes k) =
        let e : Err why ≡ Ok None = sym i ∙ says-that h _ (step-none a.text.now a.place a.line l k) in
        let o : ◌≡◌ {A = ℕ} 0 1 = cc in omega arith
    other a b v why h l i (no k) =
        let e : Err why ≡ Ok (Some (verdict_of (line_at a.text.now a.place))) =
        sym i ∙ says-that h _ (step_line a.text.now a.place a.line (told a.text.now a.place) _ l (omega (arith, k)) refl refl) in
        let o : ◌≡◌ {A = ℕ} 0 1 = cc in omega arith

    the_one : (a b : Reader) (why : Reason) → NextLine a b (Err why) → Dec (length a.text.now ≤ 65536) → why ≡ TextTooLong
    the_one a b why h (yes l) = absurd (other a b (Err why) why h l refl (dec_le (length a.text.now) a.place))
    the_one a b why h (no l) =
        let e : Err why ≡ Err TextTooLong = says-that h _ (step-long a.text.now a.place a.line (omega (arith, l))) in
        let w : why ≡ TextTooLong = cc in w

pub wrong-in-six : Paper.WrongInSix
wrong-in-six a b field h = in-six field

-- the verdict of a number
abbrev verdict_of_number : ℕ → Verdict
verdict_of_number k = cond (eqb k 0) Right (cond (eqb k 7) Unreadable (Wrong (field_counted k)))

pub one-verdict-a-number : Paper.OneVerdictANumber
one-verdict-a-number = one-to-one verdict_number verdict_of_number back
  where
    back : (v : Verdict) → verdict_of_number (verdict_number v) ≡ v
    back Right = refl
    back Unreadable = refl
    back (Wrong MonthCount) = refl
    back (Wrong Number) = refl
    back (Wrong LeapMark) = refl
    back (Wrong FirstName) = refl
    back (Wrong Length) = refl
    back (Wrong EclipseMark) = refl

-- a step of a started reader on line i
pub any-before-end : (s : List ℕ) (i : ℕ) → i < length (lines_of s) → place_of s i < length s
any-before-end s i l = go (dec_le (length s) (place_of s i))
  where
    go : Dec (length s ≤ place_of s i) → place_of s i < length s
    go (yes k) = absurd (omega (arith, l, more_no s i k))
    go (no k) = omega (arith, k)

pub on-any-line : (t : Bor (List ℕ)) → length t.now ≤ 65536 → (i : ℕ) → i < length (lines_of t.now) → (b : Reader) (v : LineTold) →
    NextLine (record { text = t; place = place_of t.now i; line = i }) b v →
    (v ≡ Ok (Some (verdict_of (line_at t.now (place_of t.now i))))) × (b ≡ record { text = t; place = place_of t.now (i + 1); line = i + 1 })
unfolding place_of
on-any-line t short i l b v w =
    let s = t.now in
    let fits : i + 1 ≡ (i + 1) % 4294967296 = omega (arith, l, lines-le s, short) in
    let e = step_line s (place_of s i) i (told s (place_of s i)) (i + 1) short (any-before-end s i l) refl fits in
    (says-that w _ e, leads w _ e ∙ ap (λ (p : ℕ). record { text = t; place = p; line = i + 1 }) (ap (place_of s) {x = suc i} {y = i + 1} (sym (add-one i))))

module _ (t : Bor (List ℕ)) (reader : ℕ → Reader) (says : ℕ → LineTold) (h : Steps t reader says) (o out : List ℕ) (n : ℕ) (g : JudgeText t.now o (Ok n) out) where
  abbrev s : List ℕ
  s = t.now

  -- the reader before step i
  abbrev rd : ℕ → Reader
  rd i = record { text = t; place = place_of s i; line = i }

  short : length s ≤ 65536
  short = not-long s o out n g

  lines : n ≡ length (lines_of s)
  lines = many s o out n g

  before-end : (i : ℕ) → i < n → place_of s i < length s
  before-end i l = any-before-end s i (omega (arith, l, lines))

  at-end : length s ≤ place_of s n
  at-end = go (dec_le (length s) (place_of s n))
    where
      go : Dec (length s ≤ place_of s n) → length s ≤ place_of s n
      go (yes k) = k
      go (no k) = absurd (omega (arith, lines, more_yes s n (omega (arith, k))))

  -- a step on a line, and one where none is left
  on_line : (i : ℕ) → i < n → (b : Reader) (v : LineTold) → NextLine (rd i) b v → (v ≡ Ok (Some (verdict_of (line_at s (place_of s i))))) × (b ≡ rd (i + 1))
  on_line i l b v w = on-any-line t short i (omega (arith, l, lines)) b v w

  none_left : (b : Reader) (v : LineTold) → NextLine (rd n) b v → (v ≡ Ok None) × (b ≡ rd n)
  none_left b v w = let e = step-none s (place_of s n) n short at-end in (says-that w _ e, leads w _ e)

  stands : (i : ℕ) → i ≤ n → reader i ≡ rd i
  unfolding place_of
  stands zero l = h.start
  stands (suc i) l =
      let w : NextLine (rd i) (reader (i + 1)) (says i) = subst (λ (a : Reader). NextLine a (reader (i + 1)) (says i)) (stands i (omega (arith, l))) (h.step i) in
      ap reader {x = suc i} {y = i + 1} (sym (add-one i)) ∙ ((on_line i (omega (arith, l)) (reader (i + 1)) (says i) w).1 ∙ ap rd {x = i + 1} {y = suc i} (add-one i))

  stands-there : (k : ℕ) → reader (n + k) ≡ rd n
  stands-there zero = ap reader {x = n + 0} {y = n} (omega arith) ∙ stands n (omega arith)
  stands-there (suc k) =
      let w : NextLine (rd n) (reader (n + k + 1)) (says (n + k)) = subst (λ (a : Reader). NextLine a (reader (n + k + 1)) (says (n + k))) (stands-there k) (h.step (n + k)) in
      ap reader {x = n + suc k} {y = n + k + 1} (omega arith) ∙ (none_left (reader (n + k + 1)) (says (n + k)) w).1

  stands_on : (i : ℕ) → n ≤ i → reader i ≡ rd n
  stands_on i l = ap reader {x = i} {y = n + (i - n)} (omega (arith, l)) ∙ stands-there (i - n)

  -- a step from there on
  past : (i : ℕ) → n ≤ i → (says i ≡ Ok None) × (reader (i + 1) ≡ rd n)
  past i l = none_left (reader (i + 1)) (says i) (subst (λ (a : Reader). NextLine a (reader (i + 1)) (says i)) (stands_on i l) (h.step i))

  as-the-call : Paper.AsTheCall t n out reader says
  as-the-call =
      record {
        verdicts = λ i l. (
          verdict_of (line_at s (place_of s i)),
          (on_line i l (reader (i + 1)) (says i) (subst (λ (a : Reader). NextLine a (reader (i + 1)) (says i)) (stands i (omega (arith, l))) (h.step i))).0,
          ap number_on (line-is s i (before-end i l)) ∙ sym (at-line s o out n g i l),
        );
        numbers = λ i l. ap (λ (r : Reader). r.line) (stands i l);
        places = λ i l. ap (λ (r : Reader). r.place) (stands i l);
        lines = λ i l. ap (λ (r : Reader). line_at s r.place) (stands i (omega (arith, l))) ∙ line-is s i (before-end i l);
        to_the_end = omega (arith, at-end, ap (λ (r : Reader). r.place) (stands n (omega arith)));
        over = λ i l. (past i l).0;
        stays = λ i l. (past i l).1 ∙ sym (stands_on i l);
      }

pub reader-is-the-call : Paper.ReaderIsTheCall
reader-is-the-call t reader says h o out n g = as-the-call t reader says h o out n g

-- the first step at the named text
first_step : step_of Paper.two_lines 0 0 ≡ record { said = Ok (Some Right); place = 16; line = 1 }
unfolding judging step_of line_length advance
first_step = refl

at_named : (t : Bor (List ℕ)) → t.now ≡ Paper.two_lines → step_from (opened t) ≡ record { said = Ok (Some Right); place = 16; line = 1 }
at_named t e = ap (λ (x : List ℕ). step_of x 0 0) e ∙ first_step

module _ (t : Bor (List ℕ)) (e : t.now ≡ Paper.two_lines) {b : Reader} {v : LineTold} (h : NextLine (opened t) b v) where
  goes : b.place ≡ 16
  goes = h.place ∙ ap (λ (u : Step). u.place) (at_named t e)

  counts : b.line ≡ 1
  counts = h.line ∙ ap (λ (u : Step). u.line) (at_named t e)

  tells : v ≡ Ok (Some Right)
  tells = h.said ∙ ap (λ (u : Step). u.said) (at_named t e)

pub wrong-steps : Paper.WrongSteps
wrong-steps =
    record {
      stays = λ t e b v h l. omega (arith, l, goes t e h);
      too_far = λ t e b v h l. omega (arith, l, goes t e h);
      unnumbered = λ t e b v h l. omega (arith, l, counts t e h);
      ends = λ t e b h. let q : Ok None ≡ Ok (Some Right) = tells t e h in let o : ◌≡◌ {A = ℕ} 0 1 = cc in omega arith;
      refuses = λ t e b why h. let q : Err why ≡ Ok (Some Right) = tells t e h in let o : ◌≡◌ {A = ℕ} 0 1 = cc in omega arith;
      unreadable = λ t e b h. let q : Ok (Some Unreadable) ≡ Ok (Some Right) = tells t e h in let o : ◌≡◌ {A = ℕ} 0 1 = cc in omega arith;
      struck-out = λ t e b field h. let q : Ok (Some (Wrong field)) ≡ Ok (Some Right) = tells t e h in let o : ◌≡◌ {A = ℕ} 0 1 = cc in omega arith;
    }
