-- Laws of a text's fields: the first one, and the others after its separator. Assumes nothing.
use Prim.Native.Nat.{ℕ, zero, suc, ◌+◌, ◌-◌, ◌≤◌, ◌<◌}
use native.Mathlib.Omega.{arith}
use native.Mathlib.Decide.{dec_le}
use mathlib.Core.Path.{◌≡◌, refl, ap, ap₂, sym, ◌∙◌}
use mathlib.Core.Bool.{Bool, true, false}
use mathlib.Core.List.{List, [], ◌∷◌}
use lib.Dec.{eqb}
use lib.ListN.{length, take, drop, length-drop, drop_of_length-le}
use lib.Seq.{drop-drop}
use Rattle.forms.proofs.Scanning.{to_the_end}
use Rattle.forms.specs.Forms.{first_field, fields_in, after_first, field_at}

-- the first field's length, its bytes, and what stands after it
abbrev ends : List ℕ → ℕ
ends s = length (first_field s)

module _ (b : ℕ) (s : List ℕ) where
  first-over : eqb b 32 ≡ true → first_field (b ∷ s) ≡ []
  unfolding first_field
  first-over e = rw (e) refl

  first_more : eqb b 32 ≡ false → first_field (b ∷ s) ≡ b ∷ first_field s
  unfolding first_field
  first_more e = rw (e) refl

  fields-over : eqb b 32 ≡ true → fields_in (b ∷ s) ≡ [] ∷ fields_in s
  unfolding fields_in
  fields-over e = rw (e) refl

  pub fields-more : eqb b 32 ≡ false → (f : List ℕ) (fs : List (List ℕ)) → fields_in s ≡ f ∷ fs → fields_in (b ∷ s) ≡ (b ∷ f) ∷ fs
  unfolding fields_in
  fields-more e f fs h = rw (e, h) refl

pub first-few : (s : List ℕ) → ends s ≤ length s
unfolding first_field
first-few [] = omega arith
first-few (b ∷ s) = go (first-few s) (eqb b 32) refl
  where
    go : ends s ≤ length s → (t : Bool) → eqb b 32 ≡ t → ends (b ∷ s) ≤ suc (length s)
    go h true e = omega (arith, ap length (first-over b s e))
    go h false e = omega (arith, ap length (first_more b s e), h)

first_field_lem : (s : List ℕ) → take (ends s) s ≡ first_field s
unfolding first_field
first_field_lem [] = refl
first_field_lem (b ∷ s) = go (first_field_lem s) (eqb b 32) refl
  where
    go : take (ends s) s ≡ first_field s → (t : Bool) → eqb b 32 ≡ t → take (ends (b ∷ s)) (b ∷ s) ≡ first_field (b ∷ s)
    go h true e = rw (first-over b s e) refl
    go h false e = rw (first_more b s e) (ap (λ (l : List ℕ). b ∷ l) h)

pub fields-last : (s : List ℕ) → ends s ≡ length s → fields_in s ≡ first_field s ∷ []
unfolding fields_in first_field
fields-last [] h = refl
fields-last (b ∷ s) h = go (fields-last s) (eqb b 32) refl
  where
    go : (ends s ≡ length s → fields_in s ≡ first_field s ∷ []) → (t : Bool) → eqb b 32 ≡ t → fields_in (b ∷ s) ≡ first_field (b ∷ s) ∷ []
    go ih true e = absurd (omega (arith, h, ap length (first-over b s e)))
    go ih false e =
        fields-more b s e (first_field s) [] (ih (omega (arith, h, ap length (first_more b s e))))
        ∙ ap (λ (l : List ℕ). l ∷ []) (sym (first_more b s e))

pub fields-next : (s : List ℕ) → ends s < length s → fields_in s ≡ first_field s ∷ fields_in (drop (suc (ends s)) s)
fields-next [] h = absurd (omega arith)
fields-next (b ∷ s) h = go (fields-next s) (eqb b 32) refl
  where
    go : (ends s < length s → fields_in s ≡ first_field s ∷ fields_in (drop (suc (ends s)) s)) → (t : Bool) → eqb b 32 ≡ t →
        fields_in (b ∷ s) ≡ first_field (b ∷ s) ∷ fields_in (drop (ends (b ∷ s)) s)
    go ih true e = fields-over b s e ∙ rw (first-over b s e) refl
    go ih false e =
        fields-more b s e (first_field s) (fields_in (drop (suc (ends s)) s)) (ih (omega (arith, h, ap length (first_more b s e))))
        ∙ rw (first_more b s e) refl

pub starts : (s : List ℕ) → (gs : List (List ℕ)) × (fields_in s ≡ first_field s ∷ gs)
starts s = go (dec_le (length s) (ends s))
  where
    go : Dec (length s ≤ ends s) → (gs : List (List ℕ)) × (fields_in s ≡ first_field s ∷ gs)
    go (yes h) = ([], fields-last s (omega (arith, h, first-few s)))
    go (no h) = (fields_in (drop (suc (ends s)) s), fields-next s (omega (arith, h)))

-- the part from a place of a text to its end, and those after it
module _ (s : List ℕ) (from to : ℕ) (r : from ≤ length s) (e : to ≡ from + ends (drop from s)) where
  pub end-in : to ≤ length s
  end-in = omega (arith, e, r, first-few (drop from s), length-drop from s)

  the_field : take (to - from) (drop from s) ≡ first_field (drop from s)
  the_field = ap (λ (j : ℕ). take j (drop from s)) {x = to - from} {y = ends (drop from s)} (omega (arith, e)) ∙ first_field_lem (drop from s)

  pub the_last : to ≡ length s → fields_in (drop from s) ≡ take (to - from) (drop from s) ∷ []
  the_last h =
      fields-last (drop from s) (omega (arith, e, h, r, length-drop from s))
      ∙ ap (λ (l : List ℕ). l ∷ []) (sym the_field)

  pub the-next : (to ≡ length s → ⊥) → fields_in (drop from s) ≡ take (to - from) (drop from s) ∷ fields_in (drop (to + 1) s)
  the-next h =
      fields-next (drop from s) (omega (arith, e, h, r, end-in, length-drop from s))
      ∙ ap₂ (λ (l k : List ℕ). l ∷ fields_in k) (sym the_field)
      (drop-drop (suc (ends (drop from s))) from s ∙ ap (λ (j : ℕ). drop j s) {x = from + suc (ends (drop from s))} {y = to + 1} (omega (arith, e)))

-- the fields of a line one after the other: the field in a place is the first of what stands after those before it
first-at : (s : List ℕ) → field_at (fields_in s) 0 ≡ first_field s
unfolding field_at
first-at s = rw (starts s).1 refl

later-at : (s : List ℕ) (k : ℕ) → field_at (fields_in s) (suc k) ≡ field_at (fields_in (after_first s)) k
unfolding field_at fields_in after_first
later-at s k = go (dec_le (length s) (ends s))
  where
    none_left : (l : List ℕ) → l ≡ [] → (j : ℕ) → [] ≡ field_at (fields_in l) j
    none_left l e zero = rw (e) refl
    none_left l e (suc j) = rw (e) refl

    go : Dec (length s ≤ ends s) → field_at (fields_in s) (suc k) ≡ field_at (fields_in (drop (suc (ends s)) s)) k
    go (yes h) = rw (fields-last s (omega (arith, h, first-few s))) (none_left (drop (suc (ends s)) s) (drop_of_length-le s {i = suc (ends s)} (omega (arith, h))) k)
    go (no h) = rw (fields-next s (omega (arith, h))) refl

-- where the first field ends: what stands before, and after
pub front-is : (s : List ℕ) (to : ℕ) → to ≡ 0 + ends (drop 0 s) → take (to - 0) (drop 0 s) ≡ first_field s
front-is s to e = the_field s 0 to (omega arith) e

module _ (s : List ℕ) (to : ℕ) (e : to ≡ 0 + ends (drop 0 s)) where
  pub none_after : to ≡ length s → take (length s - to) (drop to s) ≡ after_first s
  unfolding after_first
  none_after h =
      to_the_end to s
      ∙ drop_of_length-le s {i = to} (omega (arith, h))
      ∙ sym (drop_of_length-le s {i = suc (ends s)} (omega (arith, e, h)))

  pub some_after : take (length s - (to + 1)) (drop (to + 1) s) ≡ after_first s
  unfolding after_first
  some_after = to_the_end (to + 1) s ∙ ap (λ (i : ℕ). drop i s) {x = to + 1} {y = suc (ends s)} (omega (arith, e))

-- what stands from a place on, and the field in that place
unfoldable pub behind : ℕ → List ℕ → List ℕ
behind zero s = s
behind (suc k) s = behind k (after_first s)

pub at-place : (k : ℕ) (s : List ℕ) → field_at (fields_in s) k ≡ first_field (behind k s)
unfolding behind
at-place zero s = first-at s
at-place (suc k) s = later-at s k ∙ at-place k (after_first s)

-- where nothing stands from a place on, there is no field from there on
from-there : (k j : ℕ) (s : List ℕ) → field_at (fields_in s) (k + j) ≡ field_at (fields_in (behind k s)) j
unfolding behind
from-there zero j s = ap (field_at (fields_in s)) {y = j} (omega arith)
from-there (suc k) j s =
    ap (field_at (fields_in s)) {x = suc k + j} {y = suc (k + j)} (omega arith) ∙ later-at s (k + j) ∙ from-there k j (after_first s)

no_field : (j : ℕ) → field_at (fields_in []) j ≡ []
unfolding field_at fields_in
no_field zero = refl
no_field (suc j) = refl

empty : (s : List ℕ) → length s ≡ 0 → s ≡ []
empty [] h = refl
empty (b ∷ s) h = absurd (omega arith)

pub nothing-at : (k j : ℕ) (s t : List ℕ) → t ≡ behind k s → length t ≡ 0 → field_at (fields_in s) (k + j) ≡ []
nothing-at k j s t e h = from-there k j s ∙ ap (λ (u : List ℕ). field_at (fields_in u) j) (sym e ∙ empty t h) ∙ no_field j
