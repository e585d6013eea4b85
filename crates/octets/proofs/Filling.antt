-- Laws of a run of stores: numbers read into a list from the front, and bytes laid into a buffer. Assumes nothing.
use Prim.Native.Nat.{ℕ, suc, ◌+◌, ◌-◌, ◌*◌, ◌/◌, ◌%◌, ◌≤◌, ◌<◌}
use native.Mathlib.Nat.{mul-suc}
use native.Mathlib.Numerals.{add-one}
use native.Mathlib.Omega.{arith}
use mathlib.Core.Path.{◌≡◌, ap, sym, ◌∙◌}
use mathlib.Core.List.{List, [], ◌∷◌}
use lib.ListN.{length, get_or, take, drop, set, length-append, length-set, length-drop, drop_of_length-le}
use lib.Seq.{sets, length-sets, drop-cons}
use Rattle.rule.proofs.Stores.{part-all, sets-append}
use Rattle.octets.specs.Bytes.{lay, length-lay, read_all, lay_each, lay_all}

-- the next of m items of w bytes, stored at i
module _ {A : Type 0} (r : List ℕ → A) (w m j : ℕ) (e : m ≡ suc j) (t : List ℕ) (out : List A) (i : ℕ) where
  store-next : sets (set out i (r t)) (i + 1) (read_all r w j (drop w t)) ≡ sets out i (read_all r w m t)
  unfolding read_all
  store-next = rw (e, add-one i)

store-none : {A : Type 0} (r : List ℕ → A) (w m : ℕ) → m ≡ 0 → (t : List ℕ) (out : List A) (i : ℕ) → sets out i (read_all r w m t) ≡ out
unfolding read_all
store-none r w m e t out i = rw (e)

-- a loop that lays the w bytes of x at a place: i are laid, r is what is left of x
pub record LayingBytes (w x : ℕ) (old : List ℕ) (at : ℕ) (out : List ℕ) (r i : ℕ) : Type 0 where
  pub within : i ≤ w
  pub same : length out ≡ length old
  pub rest : sets out (at + i) (lay (w - i) r) ≡ sets old at (lay w x)

module _ {w x : ℕ} {old : List ℕ} {at : ℕ} {out : List ℕ} {r i : ℕ} (a : LayingBytes w x old at out r i) where
  pub byte-laid : i < w → LayingBytes w x old at (set out (at + i) (r % 256)) (r / 256) (i + 1)
  unfolding lay
  byte-laid l =
      let e : w - i ≡ suc (w - (i + 1)) = omega arith in
      let f : at + (i + 1) ≡ suc (at + i) = omega arith in
      record {
        within = omega arith;
        same = length-set out (at + i) (r % 256) ∙ a.same;
        rest = rw (f) (rw (e) at a.rest);
      }

  pub bytes-laid : w ≤ i → out ≡ sets old at (lay w x)
  unfolding lay
  bytes-laid l = let e : w - i ≡ 0 = omega arith in rw (e) at a.rest

-- items that are laid in w bytes each
module _ {A : Type 0} (f : A → List ℕ) (w : ℕ) (wide : (x : A) → length (f x) ≡ w) where
  length-lay_each : (xs : List A) → length (lay_each f xs) ≡ w * length xs
  unfolding lay_each
  length-lay_each [] = omega arith
  length-lay_each (x ∷ xs) = length-append (f x) (lay_each f xs) ∙ omega (arith, wide x, length-lay_each xs, mul-suc w (length xs))

  -- the next item, laid at p
  lay-item : (xs : List A) (i : ℕ) (z : A) → i < length xs → (out : List ℕ) (p : ℕ) →
      sets (sets out p (f (get_or xs i z))) (p + w) (lay_each f (drop (i + 1) xs)) ≡ sets out p (lay_each f (drop i xs))
  unfolding lay_each
  lay-item xs i z h out p =
      let x = get_or xs i z in
      rw (drop-cons xs i z h, add-one i)
      (ap (λ (j : ℕ). sets (sets out p (f x)) j (lay_each f (drop (suc i) xs))) (ap (λ (j : ℕ). p + j) (sym (wide x)))
      ∙ sym (sets-append (f x) (lay_each f (drop (suc i) xs)) out p))

  lay-no-item : (xs : List A) (i : ℕ) → length xs ≤ i → (out : List ℕ) (p : ℕ) → sets out p (lay_each f (drop i xs)) ≡ out
  unfolding lay_each
  lay-no-item xs i h out p = rw (drop_of_length-le xs h)

pub length-lay_all : (w : ℕ) (xs : List ℕ) → length (lay_all w xs) ≡ w * length xs
length-lay_all w = length-lay_each (lay w) w (length-lay w)

-- a loop that stores the n items of w bytes in s: i are stored, t is what is left
pub record Storing {A : Type 0} (r : List ℕ → A) (w : ℕ) (s : List ℕ) (old : List A) (n : ℕ) (out : List A) (t : List ℕ) (i : ℕ) : Type 0 where
  pub whole : w * (n - i) ≤ length t
  pub rest : sets out i (read_all r w (n - i) t) ≡ sets old 0 (read_all r w n s)

module _ {A : Type 0} {r : List ℕ → A} {w : ℕ} {s : List ℕ} {old : List A} {n : ℕ} {out : List A} {t : List ℕ} {i : ℕ} (a : Storing r w s old n out t i) where
  pub storing-next : i < n → (x : A) → x ≡ r t → Storing r w s old n (set out i x) (take (length t - w) (drop w t)) (i + 1)
  storing-next l x h =
      let e : n - i ≡ suc (n - (i + 1)) = omega arith in
      let f : w * (n - i) ≡ w * (n - (i + 1)) + w = ap (λ (m : ℕ). w * m) e ∙ mul-suc w (n - (i + 1)) in
      record {
        whole = rw (part-all w t) (omega (arith, length-drop w t, a.whole));
        rest = rw (part-all w t, h) (store-next r w (n - i) (n - (i + 1)) e t out i) ∙ a.rest;
      }

  pub storing-done : n ≤ i → out ≡ sets old 0 (read_all r w n s)
  storing-done l = sym (store-none r w (n - i) (omega arith) t out i) ∙ a.rest

-- a loop that lays the items xs at a place: i are laid
pub record Laying {A : Type 0} (f : A → List ℕ) (w : ℕ) (xs : List A) (old : List ℕ) (at : ℕ) (out : List ℕ) (i : ℕ) : Type 0 where
  pub same : length out ≡ length old
  pub rest : sets out (at + w * i) (lay_each f (drop i xs)) ≡ sets old at (lay_each f xs)

module _ {A : Type 0} {f : A → List ℕ} {w : ℕ} {xs : List A} {old : List ℕ} {at : ℕ} {out : List ℕ} {i : ℕ}
    (wide : (x : A) → length (f x) ≡ w) (a : Laying f w xs old at out i) where
  pub laying-next : i < length xs → (z : A) (out' : List ℕ) → out' ≡ sets out (at + w * i) (f (get_or xs i z)) → Laying f w xs old at out' (i + 1)
  laying-next l z out' h =
      let e : at + w * i + w ≡ at + w * (i + 1) = omega (arith, mul-suc w i, ap (λ (m : ℕ). w * m) (add-one i)) in
      record {
        same = ap length h ∙ length-sets out (at + w * i) (f (get_or xs i z)) ∙ a.same;
        rest = rw (h, ← e) (lay-item f w wide xs i z l out (at + w * i)) ∙ a.rest;
      }

  pub laying-done : length xs ≤ i → out ≡ sets old at (lay_each f xs)
  laying-done l = sym (lay-no-item f w wide xs i l out (at + w * i)) ∙ a.rest
