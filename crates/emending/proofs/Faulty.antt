-- Laws of faults, over plain values, for the functions that find them. Assumes nothing.
use Prim.Native.Nat.{ℕ}
use mathlib.Core.Path.{◌≡◌, refl, sym, ◌∙◌, ap, ap₂}
use mathlib.Core.Bool.{true}
use native.Mathlib.Omega.{arith}
use borrow.Author.Tests.{ne_eqb}
use Rattle.reading.specs.declared.Field.{Field}
use Rattle.reading.specs.declared.Field.TheVariants.{Known}
use Rattle.reading.specs.declared.Reading.{Reading}
use Rattle.emending.specs.declared.Place.{Place}
use Rattle.emending.specs.declared.Fault.{Fault}
use Rattle.emending.specs.declared.Fault.TheVariants.{Without, One, More}
use Rattle.emending.specs.Faults.{fault_in, together, is_more, name_fault, number_fault, month_fault}

-- a known field, by whether it is the value
module _ (i : Place) {f : Field} {k : ℕ} (v : ℕ) (e : f ≡ Known k) where
  pub one-fault : (k ≡ v → ⊥) → One i k v ≡ fault_in i f v
  one-fault h = rw (e, ne_eqb k v h)

pub more-is : (a : Fault) → is_more a ≡ true → a ≡ More
more-is Without h = absurd (let o : ◌≡◌ {A = ℕ} 0 1 = cc in omega arith)
more-is (One i k v) h = absurd (let o : ◌≡◌ {A = ℕ} 0 1 = cc in omega arith)
more-is More h = refl

-- a month whose names are both at fault
pub month-more : (r : Reading) (n : ℕ) {a : Fault} → a ≡ name_fault r n → is_more a ≡ true → More ≡ month_fault r n
unfolding month_fault
month-more r n {a} e h = ap (λ (x : Fault). together x (number_fault r n)) (sym (more-is a h) ∙ e)

pub month-made : (r : Reading) (n : ℕ) {a b c : Fault} → a ≡ name_fault r n → b ≡ number_fault r n → c ≡ together a b → c ≡ month_fault r n
unfolding month_fault
month-made r n e f g = g ∙ ap₂ together e f
