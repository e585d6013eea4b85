-- Laws of forms and texts: a field that a form admits is the text of what it is read as, and every text is read as what it says.
-- Assumes nothing.
use Rattle.std.specs.Prelude.{Some, None}
use Prim.Native.Nat.{ℕ, zero, suc, ◌≤◌}
use native.Mathlib.Omega.{arith}
use native.Mathlib.Decide.{dec_le}
use mathlib.Core.Path.{◌≡◌, refl, ap, ap₂, sym, ◌∙◌, subst}
use mathlib.Core.Bool.{Bool, true, false, not, cond, ◌&&◌, ◌||◌}
use mathlib.Core.List.{List, [], ◌∷◌}
use lib.Dec.{eqb, leb}
use lib.IntN.{ℤ, pos, negsuc}
use borrow.Author.Tests.{leb-true, eqb-true, eqb-false, le-leb, ne_eqb, not-true}
use Rattle.rule.specs.Reasons.{within}
use Rattle.reading.specs.declared.Field.{Field}
use Rattle.reading.specs.declared.Field.TheVariants.{Known, Unread}
use Rattle.fields.specs.Fields.{word, digits, decimal, leap_text}
use Rattle.fields.specs.Paper.{value_from, AreDigits, none, one_more, IsDecimal, nought, not-nought}
use Rattle.fields.proofs.Paper.{decimal-reads-back, one-decimal, decimal-tells}
use Rattle.forms.specs.Forms.{Mark, field_at, same, all_digits, leads, is_decimal, is_back, is_mark, letter, admits, like, back, is_minus, move_of, slip_field_of, slip_mark_of}
use Rattle.forms.specs.Texts.{Text, bytes, n, m, s, f, g, signed_text, field_text, mark_read_text, text_of, texts_of}

pub both : (a b : Bool) → (a && b) ≡ true → (a ≡ true) × (b ≡ true)
both true b e = (refl, e)
both false b e = absurd (let o : ◌≡◌ {A = ℕ} 0 1 = cc in omega arith)

-- digits, as a test and as the paper's texts
are-digits : (t : List ℕ) → all_digits t ≡ true → AreDigits t
unfolding all_digits
are-digits [] e = none
are-digits (b ∷ t) e =
    let (d, r) = both (within 48 57 b) (all_digits t) e in
    let (l, h) = both (leb 48 b) (leb b 57) d in
    one_more (leb-true 48 b l) (leb-true b 57 h) (are-digits t r)

in-digits : (b : ℕ) → 48 ≤ b → b ≤ 57 → within 48 57 b ≡ true
in-digits b l h = rw (le-leb 48 b l, le-leb b 57 h) refl

digits-all : {t : List ℕ} → AreDigits t → all_digits t ≡ true
unfolding all_digits
digits-all none = refl
digits-all (one_more {d} l h r) = rw (in-digits d l h) (digits-all r)

first-digit : (b : ℕ) (t : List ℕ) → 48 ≤ b → b ≤ 57 → AreDigits t → leads (b ∷ t) ≡ true → IsDecimal (b ∷ t)
first-digit b [] l h r e = go (dec_le b 48)
  where
    go : Dec (b ≤ 48) → IsDecimal (b ∷ [])
    go (yes i) = subst (λ (d : ℕ). IsDecimal (d ∷ [])) {x = 48} {y = b} (omega (arith, l, i)) nought
    go (no i) = not-nought {d = b} (omega (arith, i)) h r
first-digit b (c ∷ t) l h r e = not-nought {d = b} (omega (arith, l, eqb-false b 48 (not-true (eqb b 48) e))) h r

pub is-decimal : (t : List ℕ) → is_decimal t ≡ true → IsDecimal t
unfolding is_decimal
is-decimal [] e = absurd (let o : ◌≡◌ {A = ℕ} 0 1 = cc in omega arith)
is-decimal (b ∷ t) e = go (both (leads (b ∷ t)) (all_digits (b ∷ t)) e).0 (are-digits (b ∷ t) (both (leads (b ∷ t)) (all_digits (b ∷ t)) e).1)
  where
    go : leads (b ∷ t) ≡ true → AreDigits (b ∷ t) → IsDecimal (b ∷ t)
    go i (one_more l h r) = first-digit b t l h r i

leads-well : (d : ℕ) (t : List ℕ) → 49 ≤ d → leads (d ∷ t) ≡ true
leads-well d [] l = refl
leads-well d (c ∷ t) l = rw (ne_eqb d 48 (λ e. omega (arith, e, l))) refl

pub decimal-is : {t : List ℕ} → IsDecimal t → is_decimal t ≡ true
unfolding is_decimal all_digits
decimal-is nought = refl
decimal-is (not-nought {d} {ds} l h r) = rw (leads-well d ds l, in-digits d (omega (arith, l)) h) (digits-all r)

pub exact : (p t : List ℕ) → same p t ≡ true → t ≡ p
unfolding same
exact [] [] e = refl
exact [] (k ∷ t) e = absurd (let o : ◌≡◌ {A = ℕ} 0 1 = cc in omega arith)
exact (q ∷ p) [] e = absurd (let o : ◌≡◌ {A = ℕ} 0 1 = cc in omega arith)
exact (q ∷ p) (k ∷ t) e =
    let (a, r) = both (eqb q k) (same p t) e in
    ap₂ (λ (i : ℕ) (l : List ℕ). i ∷ l) (sym (eqb-true q k a)) (exact p t r)

-- one of two tests
or-false : (a : Bool) → (a || false) ≡ true → a ≡ true
or-false true h = refl
or-false false h = h

pub either : {P : Type 0} (a b : Bool) → (a ≡ true → P) → (b ≡ true → P) → (a || b) ≡ true → P
either true b h i e = h refl
either false b h i e = i e

-- READ AS: what a field is, where a form's field admits it
abbrev pub itself : ℕ → ℕ
itself k = k

unfoldable pub read_as : List ℕ → List ℕ → Text
read_as p t =
    cond (eqb (letter p) 110) (n (value_from 0 t))
    (cond (eqb (letter p) 109) (m (same (word "L") t))
    (cond (eqb (letter p) 115) (s (move_of itself t))
    (cond (eqb (letter p) 102) (f (slip_field_of itself t))
    (cond (eqb (letter p) 103) (g (slip_mark_of t))
    (bytes p)))))

pub number-text : (t : List ℕ) → is_decimal t ≡ true → t ≡ decimal (value_from 0 t)
number-text t e = one-decimal t (is-decimal t e)

pub mark-text : (t : List ℕ) → is_mark t ≡ true → t ≡ leap_text (same (word "L") t)
unfolding is_mark same
mark-text t = either (same (word "-") t) (same (word "L") t)
    (λ e. let i : t ≡ word "-" = exact (word "-") t e in rw (i) refl)
    (λ e. let i : t ≡ word "L" = exact (word "L") t e in rw (i) refl)

no_minus : {t : List ℕ} → IsDecimal t → is_minus t ≡ false
no_minus nought = refl
no_minus (not-nought {d} l h r) = ne_eqb d 45 (λ e. omega (arith, e, l))

minus : (v : ℕ) → (v ≡ 0 → ⊥) → 45 ∷ decimal v ≡ signed_text (back v)
minus zero h = absurd (h refl)
minus (suc v) h = refl

back-text : (t : List ℕ) → is_back t ≡ true → t ≡ signed_text (move_of itself t)
unfolding is_back move_of digits decimal same
back-text [] e = absurd (let o : ◌≡◌ {A = ℕ} 0 1 = cc in omega arith)
back-text (b ∷ t) e =
    let (x, d) = both (eqb b 45 && not (same (word "0") t)) (is_decimal t) e in
    let (i, z) = both (eqb b 45) (not (same (word "0") t)) x in
    let h : t ≡ decimal (value_from 0 t) = number-text t d in
    rw (eqb-true b 45 i)
    (ap (λ (l : List ℕ). 45 ∷ l) h ∙ minus (value_from 0 t) (λ v. other t (h ∙ ap decimal v) (not-true (same (word "0") t) z)))
  where
    other : (t : List ℕ) → t ≡ word "0" → same (word "0") t ≡ false → ⊥
    other t h z = let y : same (word "0") (word "0") ≡ false = subst (λ (l : List ℕ). same (word "0") l ≡ false) h z in let o : ◌≡◌ {A = ℕ} 0 1 = cc in omega arith

pub move-text : (t : List ℕ) → (is_decimal t || is_back t) ≡ true → t ≡ signed_text (move_of itself t)
unfolding move_of
move-text t = either (is_decimal t) (is_back t) (λ e. rw (no_minus (is-decimal t e)) (number-text t e)) (back-text t)

pub field-text : (t : List ℕ) → (is_decimal t || same (word "?") t) ≡ true → t ≡ field_text (slip_field_of itself t)
unfolding slip_field_of
field-text t e = go (same (word "?") t) refl e
  where
    go : (x : Bool) → same (word "?") t ≡ x → (is_decimal t || x) ≡ true → t ≡ field_text (cond x Unread (Known (value_from 0 t)))
    go true i h = exact (word "?") t i
    go false i h = number-text t (or-false (is_decimal t) h)

pub slip-mark-text : (t : List ℕ) → (is_mark t || same (word "?") t) ≡ true → t ≡ mark_read_text (slip_mark_of t)
unfolding slip_mark_of
slip-mark-text t e = go (same (word "?") t) refl e
  where
    go : (x : Bool) → same (word "?") t ≡ x → (is_mark t || x) ≡ true → t ≡ mark_read_text (cond x None (Some (same (word "L") t)))
    go true i h = exact (word "?") t i
    go false i h = mark-text t (or-false (is_mark t) h)

-- by the form's letter
fork : (P : Text → Type 0) (x : Bool) {a b : Bool} {y z : Text} → (a ≡ true → P y) → (b ≡ true → P z) → cond x a b ≡ true → P (cond x y z)
fork P true h i e = h e
fork P false h i e = i e

admitted : (p t : List ℕ) → admits p t ≡ true → t ≡ text_of (read_as p t)
unfolding admits read_as
admitted p t =
    fork P (eqb (letter p) 110) (number-text t)
    (fork P (eqb (letter p) 109) (mark-text t)
    (fork P (eqb (letter p) 115) (move-text t)
    (fork P (eqb (letter p) 102) (field-text t)
    (fork P (eqb (letter p) 103) (slip-mark-text t)
    (exact p t)))))
  where
    P : Text → Type 0
    P u = t ≡ text_of u

-- what the fields of a line are, from place k on, where a form admits them
unfoldable pub read_all : List (List ℕ) → ℕ → List (List ℕ) → List Text
read_all [] k fs = []
read_all (p ∷ ps) k fs = read_as p (field_at fs k) ∷ read_all ps (suc k) fs

shifted : (ps : List (List ℕ)) (k : ℕ) (t : List ℕ) (fs : List (List ℕ)) → read_all ps (suc k) (t ∷ fs) ≡ read_all ps k fs
unfolding read_all field_at
shifted [] k t fs = refl
shifted (p ∷ ps) k t fs = ap (λ (l : List Text). read_as p (field_at fs k) ∷ l) (shifted ps (suc k) t fs)

pub all-admitted : (ps fs : List (List ℕ)) → like ps fs ≡ true → fs ≡ texts_of (read_all ps 0 fs)
unfolding like read_all field_at texts_of
all-admitted [] [] e = refl
all-admitted [] (t ∷ fs) e = absurd (let o : ◌≡◌ {A = ℕ} 0 1 = cc in omega arith)
all-admitted (p ∷ ps) [] e = absurd (let o : ◌≡◌ {A = ℕ} 0 1 = cc in omega arith)
all-admitted (p ∷ ps) (t ∷ fs) e =
    let (a, r) = both (admits p t) (like ps fs) e in
    ap₂ (λ (u : List ℕ) (us : List (List ℕ)). u ∷ us) (admitted p t a) (all-admitted ps fs r ∙ ap texts_of (sym (shifted ps 0 t fs)))

-- WRITTEN: each text is admitted, and read as what it says
pub number_is : (k : ℕ) → is_decimal (decimal k) ≡ true
number_is k = decimal-is (decimal-reads-back k).0

pub number-says : (k : ℕ) → value_from 0 (decimal k) ≡ k
number-says k = (decimal-reads-back k).1

pub mark-is : (l : Bool) → is_mark (leap_text l) ≡ true
unfolding is_mark same
mark-is true = refl
mark-is false = refl

pub mark-says : (l : Bool) → same (word "L") (leap_text l) ≡ l
unfolding same
mark-says true = refl
mark-says false = refl

not-nought-alone : (k : ℕ) → same (word "0") (decimal (suc k)) ≡ false
unfolding digits decimal
not-nought-alone k = go (same (word "0") (decimal (suc k))) refl
  where
    go : (x : Bool) → same (word "0") (decimal (suc k)) ≡ x → x ≡ false
    go true e = absurd (let z : suc k ≡ 0 = decimal-tells (suc k) 0 (exact (word "0") (decimal (suc k)) e) in omega (arith, z))
    go false e = refl

or-true : (a : Bool) → (a || true) ≡ true
or-true true = refl
or-true false = refl

pub move-is : (z : ℤ) → (is_decimal (signed_text z) || is_back (signed_text z)) ≡ true
unfolding is_back
move-is (pos k) = rw (number_is k) refl
move-is (negsuc k) = rw (not-nought-alone k, number_is (suc k)) (or-true (is_decimal (45 ∷ decimal (suc k))))

pub move-says : (z : ℤ) → move_of itself (signed_text z) ≡ z
unfolding move_of
move-says (pos k) = rw (no_minus (decimal-reads-back k).0) (ap pos (number-says k))
move-says (negsuc k) = ap back (number-says (suc k))

no_sign : (k : ℕ) → same (word "?") (decimal k) ≡ false
unfolding digits decimal is_decimal all_digits
no_sign k = go (same (word "?") (decimal k)) refl
  where
    go : (x : Bool) → same (word "?") (decimal k) ≡ x → x ≡ false
    go true e = sym (number_is k) ∙ ap is_decimal (exact (word "?") (decimal k) e)
    go false e = refl

pub field_is : (x : Field) → (is_decimal (field_text x) || same (word "?") (field_text x)) ≡ true
unfolding same
field_is (Known k) = rw (number_is k) refl
field_is Unread = or-true (is_decimal (word "?"))

pub field-says : (x : Field) → slip_field_of itself (field_text x) ≡ x
unfolding slip_field_of same
field-says (Known k) = rw (no_sign k) (ap Known (number-says k))
field-says Unread = refl

pub slip-mark-is : (x : Mark) → (is_mark (mark_read_text x) || same (word "?") (mark_read_text x)) ≡ true
unfolding same
slip-mark-is (Some l) = rw (mark-is l) refl
slip-mark-is None = or-true (is_mark (word "?"))

pub slip-mark-says : (x : Mark) → slip_mark_of (mark_read_text x) ≡ x
unfolding slip_mark_of same
slip-mark-says (Some true) = refl
slip-mark-says (Some false) = refl
slip-mark-says None = refl
