-- Laws of laying: a section at a place, sections one after the other, and how many bytes they have. Assumes nothing.
use Prim.Native.Nat.{ℕ, ◌+◌, ◌*◌}
use native.Mathlib.Omega.{arith}
use mathlib.Core.Path.{◌≡◌, refl, ap, sym, ◌∙◌}
use mathlib.Core.List.{List, [], ◌∷◌}
use lib.ListN.{length, length-append}
use lib.Seq.{sets}
use Rattle.rule.proofs.Stores.{sets-append}
use Rattle.octets.specs.Bytes.{lay, lay_all, length-lay}
use Rattle.octets.proofs.Filling.{length-lay_all}
use Rattle.sheet.specs.Sheet.{
  Section,
  ListsFor,
  lay_section,
  lay_sections,
  ranged,
  year_items,
  month_items,
  day_items,
  Lists,
  in_order,
  sheet_of,
}

-- a section laid at a place, and sections laid one after the other
pub length-section : (k : Section) (xs : List ℕ) → length (lay_section k xs) ≡ 2 + k.width * length xs
unfolding lay_section
length-section k xs = length-append (lay 2 (length xs)) (lay_all k.width xs) ∙ omega (arith, length-lay 2 (length xs), length-lay_all k.width xs)

pub laid-section : (k : Section) (xs o o₁ o₂ : List ℕ) (p q : ℕ) → q ≡ p + 2 → o₁ ≡ sets o p (lay 2 (length xs)) →
    o₂ ≡ sets o₁ q (lay_all k.width xs) → o₂ ≡ sets o p (lay_section k xs)
unfolding lay_section
laid-section k xs o o₁ o₂ p q e h₁ h₂ =
    let f : p + length (lay 2 (length xs)) ≡ q = omega (arith, length-lay 2 (length xs)) in
    h₂
    ∙ ap (λ (l : List ℕ). sets l q (lay_all k.width xs)) h₁
    ∙ ap (λ (j : ℕ). sets (sets o p (lay 2 (length xs))) j (lay_all k.width xs)) (sym f)
    ∙ sym (sets-append (lay 2 (length xs)) (lay_all k.width xs) o p)

pub laid_next : (k : Section) (ks : List Section) (l : ListsFor (k ∷ ks)) (o o₁ o₂ : List ℕ) (p q : ℕ) → q ≡ p + (2 + k.width * length l.0) →
    o₁ ≡ sets o p (lay_section k l.0) → o₂ ≡ sets o₁ q (lay_sections ks l.1) → o₂ ≡ sets o p (lay_sections (k ∷ ks) l)
unfolding lay_sections
laid_next k ks l o o₁ o₂ p q e h₁ h₂ =
    let f : p + length (lay_section k l.0) ≡ q = omega (arith, length-section k l.0) in
    h₂
    ∙ ap (λ (x : List ℕ). sets x q (lay_sections ks l.1)) h₁
    ∙ ap (λ (j : ℕ). sets (sets o p (lay_section k l.0)) j (lay_sections ks l.1)) (sym f)
    ∙ sym (sets-append (lay_section k l.0) (lay_sections ks l.1) o p)

pub laid_none : (o : List ℕ) (p : ℕ) → o ≡ sets o p (lay_sections [] tt)
unfolding lay_sections
laid_none o p = refl

-- how long sections are
length-next : (k : Section) (ks : List Section) (l : ListsFor (k ∷ ks)) →
    length (lay_sections (k ∷ ks) l) ≡ 2 + k.width * length l.0 + length (lay_sections ks l.1)
unfolding lay_sections
length-next k ks l = length-append (lay_section k l.0) (lay_sections ks l.1) ∙ omega (arith, length-section k l.0)

length_none : length (lay_sections [] tt) ≡ 0
unfolding lay_sections
length_none = refl

pub length-sheet : (l : Lists) → length (sheet_of l) ≡ 6 + 2 * length l.years + 4 * length l.months + 4 * length l.days
unfolding sheet_of
length-sheet l =
    omega (
      arith,
      length-next (ranged year_items) (ranged month_items ∷ ranged day_items ∷ []) (in_order l),
      length-next (ranged month_items) (ranged day_items ∷ []) (l.months, (l.days, tt)),
      length-next (ranged day_items) [] (l.days, tt),
      length_none,
    )
