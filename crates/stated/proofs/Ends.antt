-- Laws of a sheet with bytes added at its end, and with bytes cut off, over any list of sections. Assumes nothing.
use Prim.Native.Nat.{ℕ, zero, suc, ◌≤◌, ◌<◌}
use native.Mathlib.Omega.{arith}
use native.Mathlib.Decide.{dec_le}
use mathlib.Core.Path.{◌≡◌, refl}
use mathlib.Core.Logic.{◌⊎◌, inl, inr, ⊎_elim}
use mathlib.Core.List.{List, [], ◌∷◌, ◌++◌}
use lib.ListN.{length, drop, length-append}
use lib.Seq.{drop-append-le}
use Rattle.octets.specs.Bytes.{number}
use Rattle.sheet.specs.Sheet.{Section, count_of, left_after}
use Rattle.sheet.specs.Faults.{
  here,
  later,
  GoodValue,
  GoodItems,
  ItemsFault,
  GoodSection,
  SectionFault,
  GoodSections,
  SectionsFault,
}
use Rattle.octets.proofs.Numbers.{number_append}
use Rattle.sheet.proofs.Reading.{left-append}

module _ (k : Section) where
  -- n items that are good in p ++ q: in p they end early, or are good too
  items-part : (n : ℕ) (p q : List ℕ) → GoodItems k n (p ++ q) → ItemsFault k n p 9 ⊎ GoodItems k n p
  unfolding GoodItems ItemsFault
  items-part zero p q g = inr tt
  items-part (suc n) p q g = go (dec_le k.width (length p)) (λ l. items-part n (drop k.width p) q (rw (drop-append-le k.width p q l) at g.1))
    where
      go : Dec (k.width ≤ length p) → (k.width ≤ length p → ItemsFault k n (drop k.width p) 9 ⊎ GoodItems k n (drop k.width p)) →
          ItemsFault k (suc n) p 9 ⊎ GoodItems k (suc n) p
      go (no l) rec = inl (here (here (record { fails = l; reason = refl })))
      go (yes l) rec =
          let v : GoodValue k (number k.width p) = rw (number_append k.width p q l) at g.0.1 in
          ⊎_elim (λ (f : ItemsFault k n (drop k.width p) 9). inl (later (l, v) f))
          (λ (h : GoodItems k n (drop k.width p)). inr ((l, v), h)) (rec l)

  -- the same of a section
  section-part : (p q : List ℕ) → GoodSection k (p ++ q) → SectionFault k p 9 ⊎ GoodSection k p
  section-part p q g = go (dec_le 2 (length p))
    where
      go : Dec (2 ≤ length p) → SectionFault k p 9 ⊎ GoodSection k p
      go (no l) = inl (here (here (record { fails = l; reason = refl })))
      go (yes l) =
          let m : count_of (p ++ q) ≡ count_of p = number_append 2 p q l in
          let c : count_of p ≤ k.items = rw (m) at g.0.1 in
          let i : GoodItems k (count_of p) (drop 2 p ++ q) = rw (m, drop-append-le 2 p q l) at g.1 in
          ⊎_elim (λ (f : ItemsFault k (count_of p) (drop 2 p) 9). inl (later (l, c) f))
          (λ (h : GoodItems k (count_of p) (drop 2 p)). inr ((l, c), h)) (items-part (count_of p) (drop 2 p) q i)

  -- n items that are good in p are good in p ++ q
  items_more : (n : ℕ) (p q : List ℕ) → GoodItems k n p → GoodItems k n (p ++ q)
  unfolding GoodItems
  items_more zero p q g = tt
  items_more (suc n) p q g =
      let l : k.width ≤ length (p ++ q) = omega (arith, g.0.0, length-append p q) in
      rw (number_append k.width p q g.0.0, drop-append-le k.width p q g.0.0)
      ((l, g.0.1), items_more n (drop k.width p) q g.1)

  section-more : (p q : List ℕ) → GoodSection k p → GoodSection k (p ++ q)
  section-more p q g =
      let l : 2 ≤ length (p ++ q) = omega (arith, g.0.0, length-append p q) in
      rw (number_append 2 p q g.0.0, drop-append-le 2 p q g.0.0) ((l, g.0.1), items_more (count_of p) (drop 2 p) q g.1)

-- a good sheet with its end cut off ends early
pub sections-cut : (ks : List Section) (p q : List ℕ) → 0 < length q → GoodSections ks (p ++ q) → SectionsFault ks p 9
unfolding GoodSections SectionsFault
sections-cut [] p q l g = absurd (omega (arith, l, g, length-append p q))
sections-cut (k ∷ ks) p q l g =
    ⊎_elim here
    (λ (h : GoodSection k p). later h (sections-cut ks (left_after k p) q l (rw (left-append k p q h) at g.1)))
    (section-part k p q g.0)

-- bytes added to a good sheet come after its last section
pub sections-added : (ks : List Section) (p q : List ℕ) → 0 < length q → GoodSections ks p → SectionsFault ks (p ++ q) 11
unfolding GoodSections SectionsFault
sections-added [] p q l g = record { fails = λ h. omega (arith, h, l, length-append p q); reason = refl }
sections-added (k ∷ ks) p q l g =
    later (section-more k p q g.0) (rw (left-append k p q g.0) (sections-added ks (left_after k p) q l g.1))
