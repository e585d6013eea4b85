-- Where a move lands, by its two ways. Assumes nothing.
use Prim.Native.Nat.{ℕ, suc, ◌+◌, ◌-◌, ◌≤◌, ◌<◌}
use native.Mathlib.Omega.{arith}
use mathlib.Core.Path.{◌≡◌, refl, ap, sym, ◌∙◌}
use mathlib.Core.Bool.{Bool}
use lib.Dec.{leb}
use lib.IntN.{ℤ, pos, negsuc, ◌+ℤ◌}
use borrow.Author.Tests.{lt-ltb, le-ltb, le-leb, lt-leb}
use Rattle.rule.specs.Counts.{DayInRange}
use Rattle.rule.specs.Reasons.{is, refused, refused-with}
use Rattle.rule.proofs.Answers.{stops, passes}
use Rattle.dates.specs.Dates.{date_of, day_of_date}
use Rattle.moves.specs.declared.Way.{Way}
use Rattle.moves.specs.declared.Way.TheVariants.{On, Back}
use Rattle.moves.specs.Moves.{landed, moved, way_of, signed, stepped}

pub lands-out : (d : ℕ) → 14989859 < d → landed (pos d) ≡ refused 8
lands-out d h = stops (leb d 14989859) 8 (is (date_of d)) (lt-leb d 14989859 h)

pub lands : (d : ℕ) → DayInRange d → landed (pos d) ≡ is (date_of d)
lands d h = passes (leb d 14989859) 8 (is (date_of d)) (le-leb d 14989859 h)

pub on_out : (d n : ℕ) → 14989859 < d + n → stepped d (On n) ≡ refused 8
unfolding stepped
on_out d n h = lands-out (d + n) h

pub on-lands : (d n : ℕ) → d + n ≤ 14989859 → stepped d (On n) ≡ is (date_of (d + n))
unfolding stepped
on-lands d n h = lands (d + n) h

pub back-out : (d n : ℕ) → d ≤ n → stepped d (Back n) ≡ refused 8
unfolding stepped
back-out d n h = rw (lt-ltb d (suc n) (omega arith))

pub back-lands : (d n : ℕ) → n < d → d ≤ 14989859 → stepped d (Back n) ≡ is (date_of (d - 1 - n))
unfolding stepped
back-lands d n h r = rw (le-ltb d (suc n) (omega arith)) (lands (d - suc n) (omega arith) ∙ ap (λ (e : ℕ). is (date_of e)) (omega arith))

signed-way : (n : ℤ) → signed (way_of n) ≡ n
signed-way (pos n) = refl
signed-way (negsuc n) = refl

-- a move of a date: its own reasons, or where it lands
module _ (y k : ℕ) (l : Bool) (m : ℕ) (n : ℤ) where
  pub moved-refused : (r : ℕ) → day_of_date y k l m ≡ refused r → moved y k l m n ≡ refused r
  unfolding moved
  moved-refused r e = rw (e)

  pub moved-refused-with : (r i : ℕ) → day_of_date y k l m ≡ refused-with r i → moved y k l m n ≡ refused-with r i
  unfolding moved
  moved-refused-with r i e = rw (e)

  pub moved-found : (d : ℕ) → day_of_date y k l m ≡ is d → moved y k l m n ≡ landed (pos d +ℤ n)
  unfolding moved
  moved-found d e = rw (e)

  pub arrives : (d : ℕ) (w : Way) → day_of_date y k l m ≡ is d → way_of n ≡ w → stepped d w ≡ moved y k l m n
  unfolding stepped
  arrives d w e f = ap (λ (z : ℤ). landed (pos d +ℤ z)) (ap signed (sym f) ∙ signed-way n) ∙ sym (moved-found d e)
