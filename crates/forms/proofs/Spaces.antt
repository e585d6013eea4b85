-- Laws of fields without spaces: the line of them has them as its fields, and every line is the line of its fields. Assumes nothing.
use Rattle.std.specs.Prelude.{Some, None}
use Prim.Native.Nat.{ℕ, suc, ◌≤◌}
use native.Mathlib.Omega.{arith}
use mathlib.Core.Path.{◌≡◌, refl, ap, ap₂, sym, ◌∙◌}
use mathlib.Core.Bool.{Bool, true, false, not, ◌&&◌}
use mathlib.Core.List.{List, [], ◌∷◌, ◌++◌}
use lib.Dec.{eqb}
use lib.IntN.{pos, negsuc}
use lib.ListN.{length}
use borrow.Author.Tests.{eqb-true, eqb-false, ne_eqb, not-true}
use Rattle.reading.specs.declared.Field.TheVariants.{Known, Unread}
use Rattle.fields.specs.Fields.{decimal, followed, joined}
use Rattle.fields.specs.Paper.{AreDigits, none, one_more, IsDecimal, nought, not-nought}
use Rattle.fields.proofs.Paper.{decimal-reads-back}
use Rattle.forms.specs.Forms.{in_front_of, fields_in}
use Rattle.forms.specs.Paper.{NoSpace, no_byte, byte_more, NoSpaces, no_text, text-more}
use Rattle.forms.specs.Texts.{Text, bytes, n, m, s, f, g, text_of, texts_of, line}
use Rattle.forms.proofs.Fields.{fields-more}
use Rattle.forms.proofs.Saying.{both}

-- a line is the line of its fields
fields-some : (t : List ℕ) → 1 ≤ length (fields_in t)
unfolding fields_in
fields-some [] = omega arith
fields-some (b ∷ t) = go (eqb b 32) (fields_in t)
  where
    go : (x : Bool) (fs : List (List ℕ)) → 1 ≤ length (in_front_of x b fs)
    go true fs = omega arith
    go false [] = omega arith
    go false (x ∷ fs) = omega arith

joined-front : (x : List ℕ) (fs : List (List ℕ)) (b : ℕ) → joined ((b ∷ x) ∷ fs) ≡ b ∷ joined (x ∷ fs)
unfolding followed
joined-front x [] b = refl
joined-front x (y ∷ fs) b = refl

pub fields-joined : (t : List ℕ) → joined (fields_in t) ≡ t
unfolding fields_in followed
fields-joined [] = refl
fields-joined (b ∷ t) = go (eqb b 32) refl (fields_in t) (fields-joined t) (fields-some t)
  where
    go : (x : Bool) → eqb b 32 ≡ x → (fs : List (List ℕ)) → joined fs ≡ t → 1 ≤ length fs → joined (in_front_of x b fs) ≡ b ∷ t
    go x e [] h l = absurd (omega arith)
    go true e (y ∷ fs) h l = ap₂ (λ (c : ℕ) (r : List ℕ). c ∷ r) (sym (eqb-true b 32 e)) h
    go false e (y ∷ fs) h l = joined-front y fs b ∙ ap (λ (r : List ℕ). b ∷ r) h

-- in none of its fields is a space
without-front : (b : ℕ) (e : Bool) → eqb b 32 ≡ e → (fs : List (List ℕ)) → NoSpaces fs → NoSpaces (in_front_of e b fs)
without-front b true e fs h = text-more no_byte h
without-front b false e [] h = text-more (byte_more {b = b} (eqb-false b 32 e) no_byte) no_text
without-front b false e (x ∷ xs) (text-more h k) = text-more (byte_more {b = b} (eqb-false b 32 e) h) k

pub without-spaces : (t : List ℕ) → NoSpaces (fields_in t)
unfolding fields_in
without-spaces [] = text-more no_byte no_text
without-spaces (b ∷ t) = without-front b (eqb b 32) refl (fields_in t) (without-spaces t)

alone : {f : List ℕ} → NoSpace f → fields_in f ≡ f ∷ []
unfolding fields_in
alone no_byte = refl
alone (byte_more {b} {t} h r) = fields-more b t (ne_eqb b 32 h) t [] (alone r)

before-space : (u : List ℕ) {f : List ℕ} → NoSpace f → fields_in (f ++ (32 ∷ u)) ≡ f ∷ fields_in u
unfolding fields_in
before-space u no_byte = refl
before-space u (byte_more {b} {t} h r) = fields-more b (t ++ (32 ∷ u)) (ne_eqb b 32 h) t (fields_in u) (before-space u r)

pub joined-fields : (f : List ℕ) (fs : List (List ℕ)) → NoSpaces (f ∷ fs) → fields_in (joined (f ∷ fs)) ≡ f ∷ fs
unfolding followed
joined-fields x [] (text-more h k) = alone h
joined-fields x (y ∷ ys) (text-more h k) = before-space (joined (y ∷ ys)) h ∙ ap (λ (l : List (List ℕ)). x ∷ l) (joined-fields y ys k)

digits-no-space : {t : List ℕ} → AreDigits t → NoSpace t
digits-no-space none = no_byte
digits-no-space (one_more {d} l h r) = byte_more {b = d} (λ e. omega (arith, e, l)) (digits-no-space r)

pub decimal-no-space : (k : ℕ) → NoSpace (decimal k)
decimal-no-space k = go (decimal-reads-back k).0
  where
    go : {t : List ℕ} → IsDecimal t → NoSpace t
    go nought = byte_more {b = 48} (λ e. omega (arith, e)) no_byte
    go (not-nought {d} l h r) = byte_more {b = d} (λ e. omega (arith, e, l)) (digits-no-space r)

-- words without a space, tested
unfoldable pub spaceless : List ℕ → Bool
spaceless [] = true
spaceless (b ∷ t) = not (eqb b 32) && spaceless t

no-space : (t : List ℕ) → spaceless t ≡ true → NoSpace t
unfolding spaceless
no-space [] e = no_byte
no-space (b ∷ t) e =
    let (a, r) = both (not (eqb b 32)) (spaceless t) e in
    byte_more (eqb-false b 32 (not-true (eqb b 32) a)) (no-space t r)

-- the words among texts are without a space
unfoldable pub words : List Text → Bool
words [] = true
words (bytes x ∷ ts) = spaceless x && words ts
words (n k ∷ ts) = words ts
words (m l ∷ ts) = words ts
words (s z ∷ ts) = words ts
words (f x ∷ ts) = words ts
words (g x ∷ ts) = words ts

pub sign : (b : ℕ) → (b ≡ 32 → ⊥) → NoSpace (b ∷ [])
sign b h = byte_more {b = b} h no_byte

text-no-space : (t : Text) (ts : List Text) → words (t ∷ ts) ≡ true → NoSpace (text_of t)
unfolding words
text-no-space (bytes x) ts e = no-space x (both (spaceless x) (words ts) e).0
text-no-space (n k) ts e = decimal-no-space k
text-no-space (m true) ts e = sign 76 (λ i. omega (arith, i))
text-no-space (m false) ts e = sign 45 (λ i. omega (arith, i))
text-no-space (s (pos k)) ts e = decimal-no-space k
text-no-space (s (negsuc k)) ts e = byte_more {b = 45} (λ i. omega (arith, i)) (decimal-no-space (suc k))
text-no-space (f (Known k)) ts e = decimal-no-space k
text-no-space (f Unread) ts e = sign 63 (λ i. omega (arith, i))
text-no-space (g (Some true)) ts e = sign 76 (λ i. omega (arith, i))
text-no-space (g (Some false)) ts e = sign 45 (λ i. omega (arith, i))
text-no-space (g None) ts e = sign 63 (λ i. omega (arith, i))

later : (t : Text) (ts : List Text) → words (t ∷ ts) ≡ true → words ts ≡ true
unfolding words
later (bytes x) ts e = (both (spaceless x) (words ts) e).1
later (n k) ts e = e
later (m l) ts e = e
later (s z) ts e = e
later (f x) ts e = e
later (g x) ts e = e

-- the fields of a line of texts are the texts
pub fields-of-line : (t : Text) (ts : List Text) → words (t ∷ ts) ≡ true → fields_in (line (t ∷ ts)) ≡ texts_of (t ∷ ts)
unfolding line texts_of followed
fields-of-line t [] e = alone (text-no-space t [] e)
fields-of-line t (u ∷ us) e =
    before-space (followed (text_of u) (texts_of us)) (text-no-space t (u ∷ us) e)
    ∙ ap (λ (l : List (List ℕ)). text_of t ∷ l) (fields-of-line u us (later t (u ∷ us) e))
