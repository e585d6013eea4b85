-- Whether a line can be read, and what the verdict on it says, literally. Assumes nothing.
use Rattle.std.proofs.Common.{◌≡◌, ℕ, zero, suc, ◌+◌, ◌<◌, Bool, true, false, cond, leb, ◌⊎◌, List, [], ◌∷◌, length, sym, refl, ap, ◌∙◌, subst, ap₂, inl, inr, ⊎_elim, arith, le-leb, leb-true}
use Rattle.fields.specs.Fields.{word, joined}
use Rattle.fields.specs.Paper.{value_from}
use Rattle.fields.proofs.Paper.{one-decimal}
use Rattle.forms.specs.Forms.{fields_in, field_at, same, is_decimal, is_mark, number_in}
use Rattle.forms.specs.Paper.{NoSpace, no_text, text-more}
use Rattle.forms.proofs.Saying.{both, either, exact, is-decimal, decimal-is}
use Rattle.forms.proofs.Spaces.{fields-joined, joined-fields, decimal-no-space, sign}
use Rattle.concordance.specs.Verdicts.{is_number, is_eclipse_mark, all_pass, six_tests, readable, count_in, field_counted, first_wrong}
use Rattle.concordance.specs.declared.Verdict.{Verdict}
use Rattle.concordance.specs.declared.Verdict.TheVariants.{Right, Wrong}
use Rattle.concordance.specs.Paper.{Digits, CanBeRead, fields_of, count_of}
use Rattle.concordance.proofs.Parting.{same_self}

-- a field that passes its test
digits_of : (s : List ℕ) → is_number s ≡ true → Digits s
unfolding is_number
digits_of s e = let (d, n) = both (is_decimal s) (leb (length s) 9) e in record { decimal = is-decimal s d; nine = leb-true (length s) 9 n }

of-digits : (s : List ℕ) → Digits s → is_number s ≡ true
unfolding is_number
of-digits s d = rw (decimal-is d.decimal, le-leb (length s) 9 d.nine) refl

leap-of : (s : List ℕ) → is_mark s ≡ true → (s ≡ word "L") ⊎ (s ≡ word "-")
unfolding is_mark
leap-of s = either (same (word "-") s) (same (word "L") s) (λ e. inr (exact (word "-") s e)) (λ e. inl (exact (word "L") s e))

of-leap : (s : List ℕ) → (s ≡ word "L") ⊎ (s ≡ word "-") → is_mark s ≡ true
unfolding is_mark same
of-leap s = ⊎_elim (λ (e : s ≡ word "L"). rw (e) refl) (λ (e : s ≡ word "-"). rw (e) refl)

eclipse-of : (s : List ℕ) → is_eclipse_mark s ≡ true → (s ≡ word "E") ⊎ (s ≡ word "-")
unfolding is_eclipse_mark
eclipse-of s = either (same (word "-") s) (same (word "E") s) (λ e. inr (exact (word "-") s e)) (λ e. inl (exact (word "E") s e))

of-eclipse : (s : List ℕ) → (s ≡ word "E") ⊎ (s ≡ word "-") → is_eclipse_mark s ≡ true
unfolding is_eclipse_mark same
of-eclipse s = ⊎_elim (λ (e : s ≡ word "E"). rw (e) refl) (λ (e : s ≡ word "-"). rw (e) refl)

-- six tests that pass are six fields
as_many : (ps : List (List ℕ → Bool)) (fs : List (List ℕ)) → all_pass ps fs ≡ true → length fs ≡ length ps
unfolding all_pass
as_many [] [] e = refl
as_many [] (f ∷ fs) e = absurd (let o : ◌≡◌ {A = ℕ} 0 1 = cc in omega arith)
as_many (p ∷ ps) [] e = absurd (let o : ◌≡◌ {A = ℕ} 0 1 = cc in omega arith)
as_many (p ∷ ps) (f ∷ fs) e = ap suc (as_many ps fs (both (p f) (all_pass ps fs) e).1)

six-read : (l : List ℕ) (fs : List (List ℕ)) → fields_in l ≡ fs → all_pass six_tests fs ≡ true → length fs ≡ 6 → CanBeRead l
unfolding all_pass
six-read l (a ∷ b ∷ c ∷ d ∷ e ∷ f ∷ []) i t n =
    let (ta, r1) = both (is_number a) _ t in
    let (tb, r2) = both (is_number b) _ r1 in
    let (tc, r3) = both (is_mark c) _ r2 in
    let (td, r4) = both (is_number d) _ r3 in
    let (te, r5) = both (is_number e) _ r4 in
    let (tf, r6) = both (is_eclipse_mark f) _ r5 in
    record {
      a = a;
      b = b;
      c = c;
      d = d;
      e = e;
      f = f;
      six = sym (fields-joined l) ∙ ap joined i;
      first = digits_of a ta;
      second = digits_of b tb;
      third = leap-of c tc;
      fourth = digits_of d td;
      fifth = digits_of e te;
      last = eclipse-of f tf;
    }
six-read l [] i t n = absurd (omega (arith, n))
six-read l (a ∷ []) i t n = absurd (omega (arith, n))
six-read l (a ∷ b ∷ []) i t n = absurd (omega (arith, n))
six-read l (a ∷ b ∷ c ∷ []) i t n = absurd (omega (arith, n))
six-read l (a ∷ b ∷ c ∷ d ∷ []) i t n = absurd (omega (arith, n))
six-read l (a ∷ b ∷ c ∷ d ∷ e ∷ []) i t n = absurd (omega (arith, n))
six-read l (a ∷ b ∷ c ∷ d ∷ e ∷ f ∷ g ∷ fs) i t n = absurd (omega (arith, n))

pub can-be-read : (l : List ℕ) → readable l ≡ true → CanBeRead l
unfolding readable
can-be-read l e = six-read l (fields_in l) refl e (as_many six_tests (fields_in l) e)

-- its fields are those of the line
digits-apart : (s : List ℕ) → Digits s → NoSpace s
digits-apart s d = subst NoSpace (sym (one-decimal s d.decimal)) (decimal-no-space (value_from 0 s))

mark-apart : (l : ℕ) → (l ≡ 32 → ⊥) → (s : List ℕ) → (s ≡ l ∷ []) ⊎ (s ≡ word "-") → NoSpace s
mark-apart l n s = ⊎_elim (λ (e : s ≡ l ∷ []). subst NoSpace (sym e) (sign l n)) (λ (e : s ≡ word "-"). subst NoSpace (sym e) (sign 45 (λ i. omega (arith, i))))

pub fields-are : {l : List ℕ} (r : CanBeRead l) → fields_in l ≡ fields_of r
fields-are r =
    ap fields_in r.six
    ∙ joined-fields r.a _
    (text-more (digits-apart r.a r.first)
    (text-more (digits-apart r.b r.second)
    (text-more (mark-apart 76 (λ i. omega (arith, i)) r.c r.third)
    (text-more (digits-apart r.d r.fourth)
    (text-more (digits-apart r.e r.fifth) (text-more (mark-apart 69 (λ i. omega (arith, i)) r.f r.last) no_text))))))

pub is-readable : {l : List ℕ} → CanBeRead l → readable l ≡ true
unfolding readable all_pass
is-readable r =
    ap (all_pass six_tests) (fields-are r)
    ∙ rw (
      of-digits r.a r.first,
      of-digits r.b r.second,
      of-leap r.c r.third,
      of-digits r.d r.fourth,
      of-digits r.e r.fifth,
      of-eclipse r.f r.last,
    ) refl

pub count-is : {l : List ℕ} (r : CanBeRead l) → count_in l ≡ count_of r
unfolding count_in number_in field_at
count-is r = ap (λ (fs : List (List ℕ)). number_in fs 0) (fields-are r)

-- THE FIRST FIELD THAT DIFFERS, counted from k: there is none, or it is the j-th behind that
pub data Found (k : ℕ) (fs gs : List (List ℕ)) (v : Verdict) : Type 0 where
  agree : fs ≡ gs → v ≡ Right → Found k fs gs v
  differ : (j : ℕ) → v ≡ Wrong (field_counted (k + j)) → j < length fs →
      (field_at fs j ≡ field_at gs j → ⊥) → ((i : ℕ) → i < j → field_at fs i ≡ field_at gs i) → Found k fs gs v

later : (k : ℕ) (f g : List ℕ) (fs gs : List (List ℕ)) (v : Verdict) → f ≡ g → Found (suc k) fs gs v → Found k (f ∷ fs) (g ∷ gs) v
unfolding field_at
later k f g fs gs v e (agree h i) = agree (ap₂ (λ (x : List ℕ) (xs : List (List ℕ)). x ∷ xs) e h) i
later k f g fs gs v e (differ j w l d a) = differ (suc j) (w ∙ ap (λ (i : ℕ). Wrong (field_counted i)) (omega arith)) (omega arith) d before
  where
    before : (i : ℕ) → i < suc j → field_at (f ∷ fs) i ≡ field_at (g ∷ gs) i
    before zero m = e
    before (suc i) m = a i (omega (arith, m))

pub found : (k : ℕ) (fs gs : List (List ℕ)) → length fs ≡ length gs → Found k fs gs (first_wrong k fs gs)
unfolding first_wrong field_at
found k [] [] e = agree refl refl
found k [] (g ∷ gs) e = absurd (omega (arith, e))
found k (f ∷ fs) [] e = absurd (omega (arith, e))
found k (f ∷ fs) (g ∷ gs) e = go (same f g) refl (found (suc k) fs gs (omega (arith, e)))
  where
    go : (t : Bool) → same f g ≡ t → Found (suc k) fs gs (first_wrong (suc k) fs gs) → Found k (f ∷ fs) (g ∷ gs) (cond t (first_wrong (suc k) fs gs) (Wrong (field_counted k)))
    go true i h = later k f g fs gs (first_wrong (suc k) fs gs) (sym (exact f g i)) h
    go false i h =
        differ 0 (ap (λ (i : ℕ). Wrong (field_counted i)) (omega arith)) (omega arith)
        (λ (q : f ≡ g). let y : true ≡ false = sym (same_self f) ∙ (ap (same f) q ∙ i) in let o : ◌≡◌ {A = ℕ} 0 1 = cc in omega arith)
        (λ i m. absurd (omega (arith, m)))
