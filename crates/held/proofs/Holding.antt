-- Laws of what is held of a line, byte by byte. Assumes nothing.
use Prim.Native.Nat.{ℕ, ◌+◌, ◌≤◌, ◌<◌, min}
use native.Mathlib.Numerals.{add-one}
use native.Mathlib.Omega.{arith}
use mathlib.Core.Path.{◌≡◌, refl, ap, sym, ◌∙◌}
use mathlib.Core.Bool.{Bool}
use mathlib.Core.List.{List, [], ◌∷◌, ◌++◌}
use lib.ListN.{length, get_or, take, set, length-append, length-take}
use lib.Seq.{take_all, take-suc-set, take-append-le}
use borrow.Author.Tests.{eq-eqb, ne_eqb}
use Rattle.fields.proofs.Putting.{front-next}
use Rattle.held.specs.Held.{line_after, line_after_all, reply, said_at, said_at_end, Holds, Becomes, Answers}

-- as many bytes are held as there are of the line, 201 at most
pub how-many : (room : List ℕ) (n : ℕ) (l : List ℕ) → length room ≡ 201 → n ≤ 201 → Holds room n l → n ≡ min 201 (length l)
how-many room n l h k e = omega (arith, ap length e, length-take n room, length-take 201 l)

module _ (b n : ℕ) (room : List ℕ) (h : length room ≡ 201) where
  -- x stored behind what is held
  pub stored : (x : ℕ) → x ≡ b → n < 201 → Becomes (λ l. l ++ (b ∷ [])) room n (set room n x) (n + 1)
  stored x e k =
      record {
        few = omega arith;
        holds = λ l g.
            let m = how-many room n l h (omega arith) g in
            ap (λ (i : ℕ). take i (set room n x)) (add-one n)
            ∙ take-suc-set room n x (omega arith)
            ∙ ap (λ (y : ℕ). take n room ++ (y ∷ [])) e
            ∙ ap (λ (s : List ℕ). s ++ (b ∷ [])) (g ∙ take_all 201 l (omega arith))
            ∙ sym (take_all 201 (l ++ (b ∷ [])) (omega (arith, length-append l (b ∷ []))));
      }

  -- no room for it
  pub full : n ≤ 201 → 201 ≤ n → Becomes (λ l. l ++ (b ∷ [])) room n room n
  full j k =
      record {
        few = j;
        holds = λ l g.
            let m = how-many room n l h j g in
            g ∙ sym (take-append-le 201 l (b ∷ []) (omega arith));
      }

module _ (b : ℕ) where
  -- a newline
  pub line-ended : (room room' : List ℕ) (n r : ℕ) → r ≡ 0 → b ≡ 10 → Becomes (λ l. line_after l b) room n room' r
  unfolding line_after
  line-ended room room' n r h e = record { few = omega arith; holds = λ l g. rw (eq-eqb b 10 e, h) }

  pub line-answered : (e : Bool) {room text : List ℕ} {n : ℕ} → b ≡ 10 → Answers (reply e) room n text → Answers (λ l. said_at e l b) room n text
  unfolding said_at
  line-answered e h a = record { said = λ l g. rw (eq-eqb b 10 h) (a.said l g) }

  -- any other byte
  pub line-longer : {room room' : List ℕ} {n r : ℕ} → (b ≡ 10 → ⊥) → Becomes (λ l. l ++ (b ∷ [])) room n room' r → Becomes (λ l. line_after l b) room n room' r
  unfolding line_after
  line-longer e a = record { few = a.few; holds = λ l g. rw (ne_eqb b 10 e) (a.holds l g) }

  pub none-answered : (e : Bool) (room : List ℕ) (n : ℕ) {text : List ℕ} → text ≡ [] → (b ≡ 10 → ⊥) → Answers (λ l. said_at e l b) room n text
  unfolding said_at
  none-answered e room n i h = record { said = λ l g. rw (ne_eqb b 10 h) i }

-- the bytes of an input, one after the other
pub lines-append : (l s t : List ℕ) → line_after_all l (s ++ t) ≡ line_after_all (line_after_all l s) t
unfolding line_after_all
lines-append l [] t = refl
lines-append l (b ∷ s) t = lines-append (line_after l b) s t

line-next : (l s : List ℕ) (i : ℕ) → i < length s → line_after_all l (take (i + 1) s) ≡ line_after (line_after_all l (take i s)) (get_or s i 0)
unfolding line_after_all
line-next l s i h = ap (line_after_all l) (front-next s i h) ∙ lines-append l (take i s) (get_or s i 0 ∷ [])

module _ (s room : List ℕ) (n : ℕ) where
  pub no_byte : n ≤ 201 → Becomes (λ l. line_after_all l (take 0 s)) room n room n
  unfolding line_after_all
  no_byte h = record { few = h; holds = λ l g. g }

  pub next-byte : {room' room'' : List ℕ} {m r i : ℕ} → i < length s → Becomes (λ l. line_after_all l (take i s)) room n room' m →
      Becomes (λ l. line_after l (get_or s i 0)) room' m room'' r → Becomes (λ l. line_after_all l (take (i + 1) s)) room n room'' r
  next-byte {i = i} h a b =
      record { few = b.few; holds = λ l g. b.holds _ (a.holds l g) ∙ ap (take 201) (sym (line-next l s i h)) }

  pub all-bytes : {room' : List ℕ} {m i : ℕ} → length s ≤ i → Becomes (λ l. line_after_all l (take i s)) room n room' m → Becomes (λ l. line_after_all l s) room n room' m
  all-bytes {i = i} h a =
      record { few = a.few; holds = λ l g. a.holds l g ∙ ap (λ (t : List ℕ). take 201 (line_after_all l t)) (take_all i s h) }

-- the end of the input
module _ (x : Bool) (room : List ℕ) (n : ℕ) (h : length room ≡ 201) (k : n ≤ 201) where
  none-held : {text : List ℕ} → text ≡ [] → n ≤ 0 → (l : List ℕ) → Holds room n l → text ≡ said_at_end x l
  unfolding said_at_end
  none-held t e [] g = t
  none-held t e (b ∷ l) g = absurd (omega (arith, how-many room n (b ∷ l) h k g))

  some-held : {text : List ℕ} → 0 < n → Answers (reply x) room n text → (l : List ℕ) → Holds room n l → text ≡ said_at_end x l
  unfolding said_at_end
  some-held e a [] g = absurd (omega (arith, how-many room n [] h k g))
  some-held e a (b ∷ l) g = a.said (b ∷ l) g

  pub no_line : {text : List ℕ} → text ≡ [] → n ≤ 0 → Answers (said_at_end x) room n text
  no_line t e = record { said = none-held t e }

  pub final-line : {text : List ℕ} → 0 < n → Answers (reply x) room n text → Answers (said_at_end x) room n text
  final-line e a = record { said = some-held e a }
