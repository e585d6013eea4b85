-- Laws of scans, one byte after the other: digits, what they are worth, same texts, the end of a field. Assumes nothing.
use Prim.Native.Nat.{ℕ, suc, ◌+◌, ◌-◌, ◌*◌, ◌≤◌, ◌<◌}
use native.Mathlib.Numerals.{add-one}
use native.Mathlib.Omega.{arith}
use mathlib.Core.Path.{◌≡◌, refl, ap, ap₂, sym, ◌∙◌}
use mathlib.Core.Bool.{Bool, true, false, not, ◌&&◌, and-eq-true_iff}
use mathlib.Core.List.{List, [], ◌∷◌}
use Rattle.std.specs.List.{list_all}
use Rattle.std.specs.Cmp.Lexicographic.{pointwise}
use Rattle.std.specs.Prelude.{nat_eq}
use lib.Dec.{eqb}
use lib.ListN.{length, get_or, take, drop, drop_of_length-le, length-drop}
use lib.Seq.{drop-cons, take_all}
use borrow.Author.Tests.{eq-eqb, ne_eqb}
use Rattle.rule.specs.Reasons.{within}
use Rattle.fields.specs.Fields.{word}
use Rattle.fields.specs.Paper.{value_from}
use Rattle.capped.specs.Capped.{capped}
use Rattle.forms.specs.Forms.{first_field, same, all_digits, is_decimal, is_back}

-- what is left of a list, from its next byte on
pub rest : (s : List ℕ) (i : ℕ) → i < length s → drop i s ≡ get_or s i 0 ∷ drop (i + 1) s
rest s i h = drop-cons s i 0 h ∙ ap (λ (j : ℕ). get_or s i 0 ∷ drop j s) (sym (add-one i))

-- a field up to the end
pub to_the_end : (i : ℕ) (s : List ℕ) → take (length s - i) (drop i s) ≡ drop i s
to_the_end i s = take_all (length s - i) (drop i s) (omega (arith, length-drop i s))

-- the digits that are left
pub digit-next : (s : List ℕ) (i : ℕ) → i < length s → within 48 57 (get_or s i 0) ≡ true → all_digits (drop i s) ≡ all_digits (drop (i + 1) s)
unfolding all_digits
digit-next s i h e = ap all_digits (rest s i h) ∙ rw (e) refl

pub no_digit : (s : List ℕ) (i : ℕ) → i < length s → within 48 57 (get_or s i 0) ≡ false → all_digits (drop i s) ≡ false
unfolding all_digits
no_digit s i h e = ap all_digits (rest s i h) ∙ rw (e) refl

pub no-more-digits : (s : List ℕ) (i : ℕ) → length s ≤ i → all_digits (drop i s) ≡ true
unfolding all_digits
no-more-digits s i h = ap all_digits (drop_of_length-le s h)

-- digits, by the library's word
pub all_digits-is : (s : List ℕ) → list_all (within 48 57) s ≡ all_digits s
unfolding all_digits
all_digits-is [] = refl
all_digits-is (b ∷ s) = ap (λ (t : Bool). within 48 57 b && t) (all_digits-is s)

-- what the digits that are left make of a number
capped-step : (a d : ℕ) → capped (10 * capped a + d) ≡ capped (10 * a + d)
capped-step a d = omega arith

capped-value : (s : List ℕ) (a : ℕ) → capped (value_from (capped a) s) ≡ capped (value_from a s)
unfolding value_from
capped-value [] a = omega arith
capped-value (d ∷ s) a =
    sym (capped-value s (10 * capped a + (d - 48)))
    ∙ ap (λ (v : ℕ). capped (value_from v s)) (capped-step a (d - 48))
    ∙ capped-value s (10 * a + (d - 48))

pub value-next : (s : List ℕ) (i v : ℕ) → i < length s → capped (value_from (capped (10 * v + (get_or s i 0 - 48))) (drop (i + 1) s)) ≡ capped (value_from v (drop i s))
unfolding value_from
value-next s i v h = capped-value (drop (i + 1) s) (10 * v + (get_or s i 0 - 48)) ∙ sym (ap (λ (t : List ℕ). capped (value_from v t)) (rest s i h))

pub value-last : (s : List ℕ) (i v : ℕ) → length s ≤ i → v ≤ 4294967295 → capped (value_from v (drop i s)) ≡ v
unfolding value_from
value-last s i v h r = ap (λ (t : List ℕ). capped (value_from v t)) (drop_of_length-le s h) ∙ omega arith

-- two texts
pub same_next : (p s : List ℕ) (i : ℕ) → i < length p → i < length s → eqb (get_or p i 0) (get_or s i 0) ≡ true → same (drop i p) (drop i s) ≡ same (drop (i + 1) p) (drop (i + 1) s)
unfolding same
same_next p s i h g e = ap₂ same (rest p i h) (rest s i g) ∙ ap (λ (t : Bool). t && same (drop (i + 1) p) (drop (i + 1) s)) e

pub other : (p s : List ℕ) (i : ℕ) → i < length p → i < length s → eqb (get_or p i 0) (get_or s i 0) ≡ false → same (drop i p) (drop i s) ≡ false
unfolding same
other p s i h g e = ap₂ same (rest p i h) (rest s i g) ∙ ap (λ (t : Bool). t && same (drop (i + 1) p) (drop (i + 1) s)) e

pub same_end : (p s : List ℕ) (i : ℕ) → length p ≤ i → length s ≤ i → same (drop i p) (drop i s) ≡ true
unfolding same
same_end p s i h g = ap₂ same (drop_of_length-le p h) (drop_of_length-le s g)

as_long : (p s : List ℕ) → same p s ≡ true → length s ≡ length p
unfolding same
as_long [] [] e = refl
as_long [] (k ∷ s) e = absurd (let o : ◌≡◌ {A = ℕ} 0 1 = cc in omega arith)
as_long (q ∷ p) [] e = absurd (let o : ◌≡◌ {A = ℕ} 0 1 = cc in omega arith)
as_long (q ∷ p) (k ∷ s) e = ap suc (as_long p s ((and-eq-true_iff (eqb q k) (same p s)).0 e).1)

pub not_as_long : (p s : List ℕ) → (length p ≡ length s → ⊥) → same p s ≡ false
not_as_long p s differ = go (same p s) refl
  where
    go : (t : Bool) → same p s ≡ t → t ≡ false
    go true e = absurd (differ (sym (as_long p s e)))
    go false e = refl

-- same texts, by the library's word
pub same-is : (p s : List ℕ) → pointwise nat_eq p s ≡ same p s
unfolding same
same-is [] [] = refl
same-is [] (b ∷ s) = refl
same-is (a ∷ p) [] = refl
same-is (a ∷ p) (b ∷ s) = ap (λ (t : Bool). eqb a b && t) (same-is p s)

-- a number that starts with `-`
pub empty_back : (s : List ℕ) → length s ≡ 0 → false ≡ is_back s
unfolding is_back
empty_back [] h = refl
empty_back (b ∷ s) h = absurd (omega arith)

pub back-made : (s : List ℕ) → (length s ≡ 0 → ⊥) → (a b : Bool) → a ≡ same (word "0") (drop 1 s) → b ≡ is_decimal (drop 1 s) → (eqb (get_or s 0 0) 45 && not a && b) ≡ is_back s
unfolding is_back
back-made [] h a b e f = absurd (h refl)
back-made (d ∷ s) h a b e f = ap₂ (λ (i j : Bool). eqb d 45 && not i && j) e f

-- the first field of what is left
module _ (s : List ℕ) (i : ℕ) where
  pub field-more : i < length s → eqb (get_or s i 0) 32 ≡ false → length (first_field (drop i s)) ≡ length (first_field (drop (i + 1) s)) + 1
  unfolding first_field
  field-more h e = ap (λ (t : List ℕ). length (first_field t)) (rest s i h) ∙ rw (e) (omega arith)

  pub field-over : i < length s → eqb (get_or s i 0) 32 ≡ true → length (first_field (drop i s)) ≡ 0
  unfolding first_field
  field-over h e = ap (λ (t : List ℕ). length (first_field t)) (rest s i h) ∙ rw (e) refl

  pub field-none : length s ≤ i → length (first_field (drop i s)) ≡ 0
  unfolding first_field
  field-none h = ap (λ (t : List ℕ). length (first_field t)) (drop_of_length-le s h)

-- what the digits of the first field that are left make of a number
module _ (s : List ℕ) (i v : ℕ) where
  pub number-next : i < length s → (get_or s i 0 ≡ 32 → ⊥) →
      capped (value_from (capped (10 * v + (get_or s i 0 - 48))) (first_field (drop (i + 1) s))) ≡ capped (value_from v (first_field (drop i s)))
  unfolding value_from first_field
  number-next h e =
      capped-value (first_field (drop (i + 1) s)) (10 * v + (get_or s i 0 - 48))
      ∙ sym (ap (λ (t : List ℕ). capped (value_from v (first_field t))) (rest s i h) ∙ rw (ne_eqb (get_or s i 0) 32 e) refl)

  pub number-over : i < length s → get_or s i 0 ≡ 32 → v ≤ 4294967295 → capped (value_from v (first_field (drop i s))) ≡ v
  unfolding value_from first_field
  number-over h e r =
      ap (λ (t : List ℕ). capped (value_from v (first_field t))) (rest s i h) ∙ rw (eq-eqb (get_or s i 0) 32 e) (omega (arith, r))

  pub number-last : length s ≤ i → v ≤ 4294967295 → capped (value_from v (first_field (drop i s))) ≡ v
  unfolding value_from first_field
  number-last h r = ap (λ (t : List ℕ). capped (value_from v (first_field t))) (drop_of_length-le s h) ∙ omega (arith, r)
