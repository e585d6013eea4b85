-- Laws of a move's number, read as 64 bits. Assumes nothing.
use Prim.Native.Nat.{ℕ, zero, suc}
use native.Mathlib.Omega.{arith}
use mathlib.Core.Path.{◌≡◌, refl, ap, sym, ◌∙◌, subst}
use mathlib.Core.List.{List, [], ◌∷◌}
use lib.Dec.{eqb}
use lib.IntN.{ℤ, pos, negsuc, ◌-ℤ◌}
use lib.ListN.{length, get_or, drop}
use borrow.Author.Tests.{lt-ltb, ne_eqb}
use mir.Syntax.{w32, w64}
use mir.Val.{Fits, SFits, to_z, of_z}
use mir.ValLaws.{to_z_pos, to_z-of_z}
use Rattle.fields.specs.Paper.{value_from}
use Rattle.capped.specs.Capped.{capped}
use Rattle.forms.specs.Forms.{back, is_minus, move_of}

-- a number of 32 bits, and with `-`
pub plus : (v : ℕ) → Fits w32 v → to_z w64 v ≡ pos v
plus v h = to_z_pos w64 v (omega (arith, h.fits))

minus-back : (v : ℕ) → pos 0 -ℤ pos v ≡ back v
minus-back zero = refl
minus-back (suc v) = rw (lt-ltb 0 (suc v) (omega arith)) (ap negsuc (omega arith))

back_fits : (v : ℕ) → Fits w32 v → SFits w64 (back v)
back_fits zero h = record { sfits = omega arith }
back_fits (suc v) h = record { sfits = omega (arith, h.fits) }

minus_is : (v : ℕ) → Fits w32 v → pos 0 -ℤ to_z w64 v ≡ back v
minus_is v h = ap (λ (z : ℤ). pos 0 -ℤ z) (plus v h) ∙ minus-back v

fits-minus : (v : ℕ) → Fits w32 v → SFits w64 (pos 0 -ℤ to_z w64 v)
fits-minus v h = subst (SFits w64) (sym (minus_is v h)) (back_fits v h)

pub minus : (v : ℕ) → Fits w32 v → to_z w64 (of_z w64 (pos 0 -ℤ to_z w64 v)) ≡ back v
minus v h = to_z-of_z w64 (pos 0 -ℤ to_z w64 v) (fits-minus v h) ∙ minus_is v h

-- which of the two a text is
pub no_move : (s : List ℕ) → length s ≡ 0 → pos 0 ≡ move_of capped s
unfolding move_of value_from
no_move [] h = refl
no_move (b ∷ s) h = absurd (omega arith)

module _ (s : List ℕ) (some : length s ≡ 0 → ⊥) where
  minus-sign : is_minus s ≡ eqb (get_or s 0 0) 45
  minus-sign = go s some
    where
      go : (t : List ℕ) → (length t ≡ 0 → ⊥) → is_minus t ≡ eqb (get_or t 0 0) 45
      go [] h = absurd (h refl)
      go (b ∷ t) h = refl

  pub move-back : get_or s 0 0 ≡ 45 → back (capped (value_from 0 (drop 1 s))) ≡ move_of capped s
  unfolding move_of
  move-back e = rw (minus-sign, e) refl

  pub move-on : (get_or s 0 0 ≡ 45 → ⊥) → pos (capped (value_from 0 s)) ≡ move_of capped s
  unfolding move_of
  move-on e = rw (minus-sign, ne_eqb (get_or s 0 0) 45 e) refl
