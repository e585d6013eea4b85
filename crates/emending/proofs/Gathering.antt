-- Laws of what is gathered over a run of days, and of a list that it is put into or only counted for. Assumes nothing.
use Prim.Native.Nat.{ℕ, zero, suc, ◌+◌, ◌-◌, ◌*◌, ◌≤◌, ◌<◌}
use native.Mathlib.Nat.{add-zero, add-suc, add_assoc, sub_self}
use native.Mathlib.Omega.{arith}
use mathlib.Core.Path.{◌≡◌, refl, ap, ap₂, sym, ◌∙◌}
use mathlib.Core.Bool.{Bool, true, false, cond}
use mathlib.Core.List.{List, [], ◌++◌, append-nil, append_assoc}
use lib.ListN.{length, length-append}
use lib.Seq.{sets, length-sets}
use Rattle.rule.specs.Lists.{kept, those, placed}
use Rattle.rule.proofs.Stores.{sets-append, from_front}
use Rattle.emending.specs.declared.Fault.{Fault}
use Rattle.emending.specs.declared.Fault.TheVariants.{Without, One, More}
use Rattle.emending.specs.Faults.{laid_out, is_one, gathered}

module _ (f : ℕ → List ℕ) where
  pub none-gathered : (a : ℕ) → gathered f a (a - a) ≡ []
  unfolding gathered
  none-gathered a = ap (gathered f a) (sub_self a)

  gathered-split : (a k l : ℕ) → gathered f a (k + l) ≡ gathered f a k ++ gathered f (a + k) l
  unfolding gathered
  gathered-split a k zero = ap (gathered f a) (add-zero k) ∙ sym (append-nil (gathered f a k))
  gathered-split a k (suc l) =
      ap (gathered f a) (add-suc k l)
      ∙ ap₂ ◌++◌ (gathered-split a k l) (ap f (sym (add_assoc a k l)))
      ∙ append_assoc (gathered f a k) (gathered f (a + k) l) (f (a + k + l))

  -- from a up to b, and from b up to c
  pub gathered-on : (a b c : ℕ) → a ≤ b → b ≤ c → gathered f a (c - a) ≡ gathered f a (b - a) ++ gathered f b (c - b)
  gathered-on a b c h g =
      ap (gathered f a) {y = b - a + (c - b)} (omega arith)
      ∙ gathered-split a (b - a) (c - b)
      ∙ ap (λ (n : ℕ). gathered f a (b - a) ++ gathered f n (c - b)) (omega arith)

  pub length-on : (a b c : ℕ) → a ≤ b → b ≤ c →
      length (gathered f a (c - a)) ≡ length (gathered f a (b - a)) + length (gathered f b (c - b))
  length-on a b c h g = ap length (gathered-on a b c h g) ∙ length-append (gathered f a (b - a)) (gathered f b (c - b))

  -- one more at the end
  pub gathered-more : (a b : ℕ) → a ≤ b → gathered f a (b + 1 - a) ≡ gathered f a (b - a) ++ f b
  unfolding gathered
  gathered-more a b h =
      ap (gathered f a) {x = b + 1 - a} {y = suc (b - a)} (omega arith)
      ∙ ap (λ (n : ℕ). gathered f a (b - a) ++ f n) {x = a + (b - a)} (omega arith)

-- two that agree on a run
pub gathered-same : (f g : ℕ → List ℕ) (a k : ℕ) → ((i : ℕ) → i < k → f (a + i) ≡ g (a + i)) → gathered f a k ≡ gathered g a k
unfolding gathered
gathered-same f g a zero h = refl
gathered-same f g a (suc k) h = ap₂ ◌++◌ (gathered-same f g a k (λ i l. h i (omega arith))) (h k (omega arith))

-- nothing is gathered where nothing is given
pub gathered-nothing : (a k : ℕ) → gathered (λ d. []) a k ≡ []
unfolding gathered
gathered-nothing a zero = refl
gathered-nothing a (suc k) = append-nil (gathered (λ d. []) a k) ∙ gathered-nothing a k

-- four numbers for each day that has one fault
four-each : (d : ℕ) (a : Fault) → length (laid_out d a) ≡ 4 * length (kept (is_one a) d)
four-each d Without = refl
four-each d (One i k v) = refl
four-each d More = refl

pub four-a-day : (g : ℕ → Fault) (a k : ℕ) → length (gathered (λ d. laid_out d (g d)) a k) ≡ 4 * length (those (λ d. is_one (g d)) a k)
unfolding gathered those
four-a-day g a zero = refl
four-a-day g a (suc k) =
    omega (
      arith,
      length-append (gathered (λ d. laid_out d (g d)) a k) (laid_out (a + k) (g (a + k))),
      length-append (those (λ d. is_one (g d)) a k) (kept (is_one (g (a + k))) (a + k)),
      four-a-day g a k,
      four-each (a + k) (g (a + k)),
    )

-- numbers that are put into a list, or only counted: one run after the other
module _ (out : List ℕ) (at : ℕ) where
  pub put-none : (w : Bool) → out ≡ cond w (sets out at []) out
  put-none true = refl
  put-none false = refl

  pub put-length : (w : Bool) (xs : List ℕ) → length (cond w (sets out at xs) out) ≡ length out
  put-length true xs = length-sets out at xs
  put-length false xs = refl

  pub put_on : (w : Bool) (xs ys : List ℕ) →
      cond w (sets (cond w (sets out at xs) out) (at + length xs) ys) (cond w (sets out at xs) out) ≡ cond w (sets out at (xs ++ ys)) out
  put_on true xs ys = sym (sets-append xs ys out at)
  put_on false xs ys = refl

-- a run from the front, with room for it where it is put
pub put_front : (xs old : List ℕ) (w : Bool) → (w ≡ true → length xs ≤ length old) → cond w (sets old 0 xs) old ≡ cond w (placed xs old) old
put_front xs old true h = from_front xs old (h refl)
put_front xs old false h = refl
