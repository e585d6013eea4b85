-- Laws of forms, field by field. Assumes nothing.
use Prim.Native.Nat.{ℕ, suc, ◌+◌, ◌-◌, ◌≤◌, ◌<◌}
use native.Mathlib.Numerals.{add-one}
use native.Mathlib.Omega.{arith}
use native.Mathlib.Decide.{dec_le}
use mathlib.Core.Path.{◌≡◌, refl, ap, sym, ◌∙◌}
use mathlib.Core.Bool.{Bool, true, false, not, cond, ◌&&◌, and-eq-true_iff}
use mathlib.Core.List.{List, [], ◌∷◌}
use lib.Dec.{eqb, ltb}
use lib.ListN.{length, get_or, take, drop}
use borrow.Author.Tests.{eq-eqb, ne_eqb, lt-ltb, le-ltb, ltb-true, eqb-false, not-true}
use Rattle.forms.specs.Forms.{first_field, fields_in, same, letter, admits, like, other_word, past, first_like}
use Rattle.forms.proofs.Fields.{end-in, the_last, the-next, starts}

-- fields and what is left of them
abbrev Some : List (List ℕ) → Type 0
Some fs = (f : List ℕ) × (gs : List (List ℕ)) × (fs ≡ f ∷ gs)

some : (s : List ℕ) → Some (fields_in s)
some s = let (gs, e) = starts s in (first_field s, gs, e)

none-like : {fs : List (List ℕ)} → Some fs → like [] fs ≡ false
unfolding like
none-like (f, gs, e) = rw (e) refl

some-unlike : {fs : List (List ℕ)} → Some fs → like fs [] ≡ false
unfolding like
some-unlike (f, gs, e) = rw (e) refl

-- a field of a form and a field of a line, each from its place on
module _ (s t : List ℕ) (i a j b : ℕ) (ri : i ≤ length s) (rj : j ≤ length t) (ea : a ≡ i + length (first_field (drop i s))) (eb : b ≡ j + length (first_field (drop j t))) where
  abbrev p : List ℕ
  p = take (a - i) (drop i s)

  abbrev f : List ℕ
  f = take (b - j) (drop j t)

  abbrev Like : Bool → Type 0
  Like r = r ≡ like (fields_in (drop i s)) (fields_in (drop j t))

  module _ (h : admits p f ≡ true) where
    both-last : a ≡ length s → b ≡ length t → Like true
    unfolding like
    both-last l m = rw (the_last s i a ri ea l, the_last t j b rj eb m, h) refl

    line-longer : a ≡ length s → (b ≡ length t → ⊥) → Like false
    unfolding like
    line-longer l m = rw (the_last s i a ri ea l, the-next t j b rj eb m, h) (sym (none-like (some (drop (b + 1) t))))

    pub line-ends : a ≡ length s → Like (eqb b (length t))
    line-ends l = go (dec_le (length t) b)
      where
        go : Dec (length t ≤ b) → Like (eqb b (length t))
        go (yes m) = let e : b ≡ length t = omega (arith, m, end-in t j b rj eb) in eq-eqb b (length t) e ∙ both-last l e
        go (no m) = ne_eqb b (length t) (λ e. omega (arith, e, m)) ∙ line-longer l (λ e. omega (arith, e, m))

    pub form-longer : (a ≡ length s → ⊥) → b ≡ length t → Like false
    unfolding like
    form-longer l m = rw (the-next s i a ri ea l, the_last t j b rj eb m, h) (sym (some-unlike (some (drop (a + 1) s))))

    pub both-next : (a ≡ length s → ⊥) → (b ≡ length t → ⊥) → Like (like (fields_in (drop (a + 1) s)) (fields_in (drop (b + 1) t)))
    unfolding like
    both-next l m = rw (the-next s i a ri ea l, the-next t j b rj eb m, h) refl

  pub refused : admits p f ≡ false → Like false
  unfolding like
  refused h = go (dec_le (length s) a) (dec_le (length t) b)
    where
      go : Dec (length s ≤ a) → Dec (length t ≤ b) → Like false
      go (yes l) (yes m) = rw (the_last s i a ri ea (omega (arith, l, end-in s i a ri ea)), the_last t j b rj eb (omega (arith, m, end-in t j b rj eb)), h) refl
      go (yes l) (no m) = rw (the_last s i a ri ea (omega (arith, l, end-in s i a ri ea)), the-next t j b rj eb (λ e. omega (arith, e, m)), h) refl
      go (no l) (yes m) = rw (the-next s i a ri ea (λ e. omega (arith, e, l)), the_last t j b rj eb (omega (arith, m, end-in t j b rj eb)), h) refl
      go (no l) (no m) = rw (the-next s i a ri ea (λ e. omega (arith, e, l)), the-next t j b rj eb (λ e. omega (arith, e, m)), h) refl

-- a field of a form that is none of the letters admits itself alone
pub no-letter : (p s : List ℕ) → (letter p ≡ 110 → ⊥) → (letter p ≡ 109 → ⊥) → (letter p ≡ 115 → ⊥) → (letter p ≡ 102 → ⊥) → (letter p ≡ 103 → ⊥) →
    same p s ≡ admits p s
unfolding admits
no-letter p s a b c d e =
    rw (ne_eqb (letter p) 110 a, ne_eqb (letter p) 109 b, ne_eqb (letter p) 115 c, ne_eqb (letter p) 102 d, ne_eqb (letter p) 103 e) refl

-- the forms of a table, one after the other
unfoldable pub past_all : ℕ → ℕ → List (List ℕ) → List (List ℕ) → ℕ
past_all k i [] fs = k
past_all k i (p ∷ ps) fs = past_all (past k i p fs) (suc i) ps fs

module _ (k i : ℕ) (p : List ℕ) (fs : List (List ℕ)) where
  pub kept-place : k < i → k ≡ past k i p fs
  unfolding past
  kept-place h = rw (lt-ltb k i h) refl

  pub this_place : i ≤ k → {r : ℕ} {x : Bool} → r ≡ cond x i (i + 1) → x ≡ like (fields_in p) fs → r ≡ past k i p fs
  unfolding past
  this_place h e f =
      e ∙ ap (λ (y : Bool). cond y i (i + 1)) f
      ∙ rw (le-ltb k i h) (ap (λ (j : ℕ). cond (like (fields_in p) fs) i j) (add-one i))

  pub next_place : i ≤ k → like (fields_in p) fs ≡ false → i + 1 ≡ past k i p fs
  unfolding past
  next_place h e = rw (le-ltb k i h, e) (add-one i)

-- one form more: how many were passed before it
pub and-past : {k j r : ℕ} (i : ℕ) (p : List ℕ) (fs : List (List ℕ)) → k ≡ j → r ≡ past k i p fs → r ≡ past j i p fs
and-past i p fs h e = e ∙ ap (λ (l : ℕ). past l i p fs) h

module _ (fs : List (List ℕ)) where
  found_before : (ps : List (List ℕ)) (k i : ℕ) → k < i → past_all k i ps fs ≡ k
  unfolding past_all past
  found_before [] k i h = refl
  found_before (p ∷ ps) k i h = rw (lt-ltb k i h) (found_before ps k (suc i) (omega (arith, h)))

  from_place : (ps : List (List ℕ)) (i : ℕ) → past_all i i ps fs ≡ i + first_like ps fs
  unfolding past_all past first_like
  from_place [] i = omega arith
  from_place (p ∷ ps) i = rw (le-ltb i i (omega arith)) (go (like (fields_in p) fs) (from_place ps (suc i)))
    where
      go : (x : Bool) → past_all (suc i) (suc i) ps fs ≡ suc i + first_like ps fs →
          past_all (cond x i (suc i)) (suc i) ps fs ≡ i + cond x 0 (suc (first_like ps fs))
      go true h = found_before ps i (suc i) (omega arith) ∙ omega arith
      go false h = h ∙ omega arith

  pub past_all_lem : (ps : List (List ℕ)) → past_all 0 0 ps fs ≡ first_like ps fs
  past_all_lem ps = from_place ps 0 ∙ omega arith

-- the first letters of a form and of a line
pub no-form : (p s : List ℕ) → length p ≡ 0 → false ≡ other_word p s
unfolding other_word
no-form [] s h = refl
no-form (a ∷ p) s h = absurd (omega arith)

pub no_line : (p s : List ℕ) → length s ≡ 0 → false ≡ other_word p s
unfolding other_word
no_line [] s h = refl
no_line (a ∷ p) [] h = refl
no_line (a ∷ p) (b ∷ s) h = absurd (omega arith)

pub first-letters : (p s : List ℕ) → (length p ≡ 0 → ⊥) → (length s ≡ 0 → ⊥) →
    (ltb (get_or p 0 0) 91 && ltb 64 (get_or p 0 0) && not (eqb (get_or p 0 0) (get_or s 0 0))) ≡ other_word p s
unfolding other_word
first-letters [] s h i = absurd (h refl)
first-letters (a ∷ p) [] h i = absurd (i refl)
first-letters (a ∷ p) (b ∷ s) h i = refl

-- a word that begins with a capital admits no field that begins otherwise
module _ (a : ℕ) (low : 64 < a) (high : a < 91) where
  no-letter-of-a-form : (k : ℕ) → 100 ≤ k → eqb a k ≡ false
  no-letter-of-a-form k h = ne_eqb a k (λ e. omega (arith, e, h, high))

  word-alone : (p f : List ℕ) → admits (a ∷ p) f ≡ same (a ∷ p) f
  unfolding admits
  word-alone [] f =
      rw (
        no-letter-of-a-form 110 (omega arith),
        no-letter-of-a-form 109 (omega arith),
        no-letter-of-a-form 115 (omega arith),
        no-letter-of-a-form 102 (omega arith),
        no-letter-of-a-form 103 (omega arith),
      ) refl
  word-alone (c ∷ p) f = refl

  differing : (p s : List ℕ) (b : ℕ) → (a ≡ b → ⊥) → same (a ∷ p) (first_field (b ∷ s)) ≡ false
  unfolding same first_field
  differing p s b h = go (eqb b 32)
    where
      go : (x : Bool) → same (a ∷ p) (cond x [] (b ∷ first_field s)) ≡ false
      go true = refl
      go false = rw (ne_eqb a b h) refl

  begins : (p : List ℕ) → first_field (a ∷ p) ≡ a ∷ first_field p
  unfolding first_field
  begins p = rw (ne_eqb a 32 (λ e. omega (arith, e, low))) refl

  unlike : (p s : List ℕ) (b : ℕ) → (a ≡ b → ⊥) → like (fields_in (a ∷ p)) (fields_in (b ∷ s)) ≡ false
  unfolding like
  unlike p s b h =
      rw (
        (starts (a ∷ p)).1,
        (starts (b ∷ s)).1,
        begins p,
        word-alone (first_field p) (first_field (b ∷ s)),
        differing (first_field p) s b h,
      ) refl

pub other_word_lem : (p s : List ℕ) → other_word p s ≡ true → like (fields_in p) (fields_in s) ≡ false
unfolding other_word
other_word_lem [] s e = absurd (let o : ◌≡◌ {A = ℕ} 0 1 = cc in omega arith)
other_word_lem (a ∷ p) [] e = absurd (let o : ◌≡◌ {A = ℕ} 0 1 = cc in omega arith)
other_word_lem (a ∷ p) (b ∷ s) e =
    let (c, d) = (and-eq-true_iff (ltb a 91 && ltb 64 a) (not (eqb a b))).0 e in
    let (h, l) = (and-eq-true_iff (ltb a 91) (ltb 64 a)).0 c in
    unlike a (ltb-true 64 a l) (ltb-true a 91 h) p s b (eqb-false a b (not-true (eqb a b) d))
