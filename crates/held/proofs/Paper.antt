-- The statements of specs/Paper, proved under their own names, and what follows for an answer. Assumes nothing.
use Prim.Native.Nat.{ℕ, suc, ◌≤◌}
use native.Mathlib.Omega.{arith}
use native.Mathlib.Decide.{dec_le}
use mathlib.Core.Path.{◌≡◌, refl, ap, ap₂, sym, ◌∙◌}
use mathlib.Core.Bool.{Bool, true, false, ◌&&◌}
use mathlib.Core.List.{List, [], ◌∷◌, ◌++◌, append-nil, append_assoc}
use lib.ListN.{length, take, length-append, length-take}
use lib.Seq.{take_all}
use lib.Dec.{leb}
use borrow.Author.Tests.{ne_eqb, le-leb, lt-leb}
use Rattle.fields.specs.Fields.{word, digits, decimal, followed}
use Rattle.queries.specs.Queries.{unreadable, answer_to}
use Rattle.asked.specs.Asked.{hashed}
use Rattle.told.specs.Answers.{refused_text, words_numbered}
use Rattle.queries.proofs.Cases.{next-day-too-large}
use Rattle.queries.proofs.Paper.{front-is-enough, note-as-it-stands, too_long}
use Rattle.held.specs.Held.{line_after, line_after_all, is_note, echoed, reply, said_at, said_at_end, said_to, Becomes, Answers}
use Rattle.held.specs.Paper as Paper
use Rattle.held.proofs.Holding.{how-many, lines-append}

-- a line's first byte is no newline, and neither is any of the rest
module _ (b : ℕ) (s : List ℕ) (h : Paper.OneLine (b ∷ s)) where
  no-newline : b ≡ 10 → ⊥
  no-newline e = h 0 (omega arith) e

  rest-of-line : Paper.OneLine s
  rest-of-line i k e = h (suc i) (omega arith) e

  longer : (l : List ℕ) → line_after l b ≡ l ++ (b ∷ [])
  unfolding line_after
  longer l = rw (ne_eqb b 10 no-newline)

  nothing_said : (e : Bool) (l : List ℕ) → said_at e l b ≡ []
  unfolding said_at
  nothing_said e l = rw (ne_eqb b 10 no-newline)

all-since : (l s : List ℕ) → Paper.OneLine s → line_after_all l s ≡ l ++ s
unfolding line_after_all
all-since l [] h = sym (append-nil l)
all-since l (b ∷ s) h =
    ap (λ (m : List ℕ). line_after_all m s) (longer b s h l)
    ∙ all-since (l ++ (b ∷ [])) s (rest-of-line b s h)
    ∙ append_assoc l (b ∷ []) s

after-newline : (l s : List ℕ) → line_after_all l (10 ∷ s) ≡ line_after_all [] s
unfolding line_after_all line_after
after-newline l s = refl

pub since-last-newline : Paper.SinceLastNewline
since-last-newline =
    record {
      some = λ l p s h. lines-append l p (10 ∷ s) ∙ after-newline (line_after_all l p) s ∙ all-since [] s h;
      none = all-since;
    }

-- a line that goes on behind what came of it
module _ (e : Bool) where
  said-to-line : (l s t : List ℕ) → Paper.OneLine s → said_to e l (s ++ t) ≡ said_to e (l ++ s) t
  unfolding said_to
  said-to-line l [] t h = ap (λ (m : List ℕ). said_to e m t) (sym (append-nil l))
  said-to-line l (b ∷ s) t h =
      ap (λ (m : List ℕ). m ++ said_to e (line_after l b) (s ++ t)) (nothing_said b s h e l)
      ∙ ap (λ (m : List ℕ). said_to e m (s ++ t)) (longer b s h l)
      ∙ said-to-line (l ++ (b ∷ [])) s t (rest-of-line b s h)
      ∙ ap (λ (m : List ℕ). said_to e m t) (append_assoc l (b ∷ []) s)

  at-newline : (l s : List ℕ) → said_to e l (10 ∷ s) ≡ reply e l ++ said_to e [] s
  unfolding said_to said_at line_after
  at-newline l s = refl

  at-end : (b : ℕ) (l : List ℕ) → said_to e (b ∷ l) [] ≡ reply e (b ∷ l)
  unfolding said_to said_at_end
  at-end b l = refl

  none_said : said_to e [] [] ≡ []
  unfolding said_to said_at_end
  none_said = refl

  pub line-by-line : Paper.LineByLine e
  line-by-line =
      record {
        line = λ l s h. said-to-line [] l (10 ∷ s) h ∙ at-newline l s;
        final = λ b l h. ap (said_to e []) (sym (append-nil (b ∷ l))) ∙ said-to-line [] (b ∷ l) [] h ∙ at-end b l;
        nothing = none_said;
      }

-- whether a line is a note, by its first 201 bytes
note-alike : (l : List ℕ) → is_note (take 201 l) ≡ is_note l
unfolding is_note
note-alike l = go (dec_le (length l) 200)
  where
    go : Dec (length l ≤ 200) → is_note (take 201 l) ≡ is_note l
    go (yes h) = ap is_note (take_all 201 l (omega (arith, h)))
    go (no h) = rw (lt-leb (length l) 200 (omega (arith, h)), lt-leb (length (take 201 l)) 200 (omega (arith, h, length-take 201 l))) refl

echo-alike : (l : List ℕ) → echoed (take 201 l) ≡ echoed l
unfolding echoed
echo-alike l = rw (note-alike l, take_all 201 (take 201 l) (omega (arith, length-take 201 l))) refl

pub held-is-enough : Paper.HeldIsEnough
unfolding reply
held-is-enough true room n l h = ap (λ (t : List ℕ). echoed t ++ answer_to t) h ∙ ap₂ (λ (s t : List ℕ). s ++ t) (echo-alike l) (front-is-enough l)
held-is-enough false room n l h = ap answer_to h ∙ front-is-enough l

-- what is said to what is held, and the text is that
pub held-answered : {text : List ℕ} (e : Bool) (room : List ℕ) (n : ℕ) → text ≡ reply e (take n room) → Answers (reply e) room n text
held-answered e room n h = record { said = λ l g. h ∙ held-is-enough e room n l g }

-- echo, literally
no_note : (l : List ℕ) → (length l ≤ 200 → (t : List ℕ) → l ≡ 35 ∷ t → ⊥) → is_note l ≡ false
unfolding is_note hashed
no_note l h = go (dec_le (length l) 200) l refl
  where
    go : Dec (length l ≤ 200) → (m : List ℕ) → l ≡ m → (leb (length l) 200 && hashed l) ≡ false
    go (no i) m e = rw (lt-leb (length l) 200 (omega (arith, i))) refl
    go (yes i) [] e = rw (e) refl
    go (yes i) (b ∷ t) e = rw (le-leb (length l) 200 i, e) (ne_eqb b 35 (λ j. h i t (e ∙ ap (λ (x : ℕ). x ∷ t) j)))

line_first : (l : List ℕ) → (length l ≤ 200 → (t : List ℕ) → l ≡ 35 ∷ t → ⊥) → reply true l ≡ take 201 l ++ (10 ∷ answer_to l)
unfolding reply echoed
line_first l h = rw (no_note l h) (append_assoc (take 201 l) (10 ∷ []) (answer_to l))

note-once : (t : List ℕ) → length (35 ∷ t) ≤ 200 → reply true (35 ∷ t) ≡ (35 ∷ t) ++ (10 ∷ [])
unfolding reply echoed is_note hashed
note-once t h = rw (le-leb (length (35 ∷ t)) 200 h) (note-as-it-stands t h)

without : (l : List ℕ) → reply false l ≡ answer_to l
unfolding reply
without l = refl

pub echo-literally : Paper.EchoLiterally
echo-literally = record { without = without; line_first = line_first; note-once = note-once }

pub one-holding : Paper.OneHolding
one-holding a b m n l ha hb hm hn e f = (omega (arith, how-many a m l ha hm e, how-many b n l hb hn f), e ∙ sym f)

byte-lost : (room room' : List ℕ) → Becomes (λ l. line_after l 65) room 0 (0 ∷ room') 1 → ⊥
unfolding line_after
byte-lost room room' p =
    let e : ◌≡◌ {A = List ℕ} (0 ∷ []) (65 ∷ []) = p.holds [] refl in
    let o : ◌≡◌ {A = ℕ} 0 65 = cc in
    omega arith

two-hundred : (room room' : List ℕ) → length room ≡ 201 → Becomes (λ l. line_after l 65) room 200 room' 200 → ⊥
unfolding line_after
two-hundred room room' h p =
    let l = take 200 room in
    let e = p.holds l (sym (take_all 201 l (omega (arith, length-take 200 room)))) in
    omega (arith, ap length e, length-take 200 room, length-take 200 room', length-take 201 (l ++ (65 ∷ [])), length-append l (65 ∷ []))

never-ending : (room : List ℕ) → Becomes (λ l. line_after l 10) (65 ∷ room) 1 (65 ∷ room) 1 → ⊥
unfolding line_after
never-ending room p =
    let e : ◌≡◌ {A = List ℕ} (65 ∷ []) [] = p.holds (65 ∷ []) refl in
    let o : ◌≡◌ {A = ℕ} 0 1 = cc in
    omega arith

unanswered : (room : List ℕ) → length room ≡ 201 → Answers (λ l. said_at false l 10) room 201 [] → ⊥
unfolding said_at reply unreadable followed
unanswered room h p =
    let e : ◌≡◌ {A = List ℕ} [] (word "UNREADABLE" ++ (10 ∷ [])) = p.said room refl ∙ too_long room (omega arith) in
    let o : ◌≡◌ {A = ℕ} 0 11 = ap length e in
    omega arith

note-twice : (room rest : List ℕ) → Answers (λ l. said_at true l 10) (35 ∷ room) 1 (35 ∷ 10 ∷ 35 ∷ 10 ∷ rest) → ⊥
unfolding said_at
note-twice room rest p =
    let e : ◌≡◌ {A = List ℕ} (35 ∷ 10 ∷ 35 ∷ 10 ∷ rest) (35 ∷ 10 ∷ []) = p.said (35 ∷ []) refl ∙ note-once [] (omega arith) in
    omega (arith, ap length e)

not-echoed : (room rest : List ℕ) → Answers (λ l. said_at true l 10) (65 ∷ room) 1 (85 ∷ rest) → ⊥
unfolding said_at
not-echoed room rest p =
    let e : ◌≡◌ {A = List ℕ} (85 ∷ rest) (65 ∷ 10 ∷ answer_to (65 ∷ [])) = p.said (65 ∷ []) refl ∙ line_first (65 ∷ []) (λ i t j. other t j) in
    let o : ◌≡◌ {A = ℕ} 85 65 = cc in
    omega arith
  where
    other : (t : List ℕ) → 65 ∷ [] ≡ 35 ∷ t → ⊥
    other t j = let o : ◌≡◌ {A = ℕ} 65 35 = cc in omega arith

-- what is said to a line whose day is out of range
day-too-large : (text : List ℕ) → Answers (λ l. said_at false l 10) (word "NEXT 1 99999999999") 18 text → take 9 text ≡ word "REFUSED 6"
unfolding said_at reply refused_text words_numbered followed digits decimal
day-too-large text p = ap (take 9) (p.said (word "NEXT 1 99999999999") refl ∙ next-day-too-large)

numbers-exchanged : (rest : List ℕ) → Answers (λ l. said_at false l 10) (word "NEXT 1 99999999999") 18 (word "REFUSED 1" ++ rest) → ⊥
numbers-exchanged rest p =
    let e : ◌≡◌ {A = List ℕ} (word "REFUSED 1") (word "REFUSED 6") = day-too-large (word "REFUSED 1" ++ rest) p in
    let o : ◌≡◌ {A = ℕ} 49 54 = cc in
    omega arith

all-unreadable : (rest : List ℕ) → Answers (λ l. said_at false l 10) (word "NEXT 1 99999999999") 18 (word "UNREADABL" ++ rest) → ⊥
all-unreadable rest p =
    let e : ◌≡◌ {A = List ℕ} (word "UNREADABL") (word "REFUSED 6") = day-too-large (word "UNREADABL" ++ rest) p in
    let o : ◌≡◌ {A = ℕ} 85 82 = cc in
    omega arith

pub wrong-holdings : Paper.WrongHoldings
wrong-holdings =
    record {
      byte-lost = byte-lost;
      two-hundred = two-hundred;
      never-ending = never-ending;
      unanswered = unanswered;
      numbers-exchanged = numbers-exchanged;
      all-unreadable = all-unreadable;
      note-twice = note-twice;
      not-echoed = not-echoed;
    }
