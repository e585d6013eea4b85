-- The front of a sheet that is long enough says what the whole does, over any list of sections. Assumes nothing.
use Prim.Native.Nat.{ℕ, zero, suc, ◌+◌, ◌*◌, ◌≤◌, ◌<◌}
use native.Mathlib.Nat.{mul-suc, mul-le-mul_left}
use native.Mathlib.Omega.{arith}
use native.Mathlib.Decide.{dec_lt}
use mathlib.Core.Path.{◌≡◌, refl, ap, sym, ◌∙◌}
use mathlib.Core.Logic.{⊎_elim}
use mathlib.Core.Bool.{Bool, true, false}
use mathlib.Core.List.{List, [], ◌∷◌, ◌++◌}
use lib.Dec.{leb}
use lib.ListN.{length, take, drop, length-append, length-drop, take-append-drop}
use lib.Seq.{drop-append-le, take_all, length-take-le}
use borrow.Author.Tests.{leb-true, le-leb, lt-leb}
use Rattle.rule.specs.Reasons.{Answer, is, and_then}
use Rattle.sheet.specs.Sheet.{Section, item_read, items_read, count_of, count_read, section_read, left_after, ListsFor, sections_read}
use Rattle.sheet.specs.Faults.{GoodSection, SectionFault}
use Rattle.octets.proofs.Numbers.{number_append}
use Rattle.sheet.proofs.Reading.{section-decided, left-append}

module _ (k : Section) where
  -- items that lie in p are read alike in p and in p ++ q
  item-front : (p q : List ℕ) → k.width ≤ length p → item_read k p ≡ item_read k (p ++ q)
  unfolding item_read
  item-front p q l =
      let g : k.width ≤ length (p ++ q) = omega (arith, length-append p q) in
      rw (le-leb k.width (length p) l, le-leb k.width (length (p ++ q)) g, number_append k.width p q l)

  items-front : (n : ℕ) (p q : List ℕ) → k.width * n ≤ length p → items_read k n p ≡ items_read k n (p ++ q)
  unfolding items_read
  items-front zero p q h = refl
  items-front (suc n) p q h =
      let u : List ℕ = drop k.width p in
      let l : k.width ≤ length p = omega (arith, h, mul-suc k.width n) in
      ap (λ (a : Answer ℕ). and_then a (λ x. and_then (items_read k n u) (λ xs. is (x ∷ xs)))) (item-front p q l)
      ∙ ap (λ (a : Answer (List ℕ)). and_then (item_read k (p ++ q)) (λ x. and_then a (λ xs. is (x ∷ xs))))
      (items-front n u q (omega (arith, h, mul-suc k.width n, length-drop k.width p)) ∙ ap (items_read k n) (sym (drop-append-le k.width p q l)))

  -- a section is read alike where p has room for the most items
  section-front : (p q : List ℕ) → 2 + k.width * k.items ≤ length p → section_read k p ≡ section_read k (p ++ q)
  unfolding section_read count_read
  section-front p q h = go (leb (count_of p) k.items) refl
    where
      m : count_of (p ++ q) ≡ count_of p
      m = number_append 2 p q (omega (arith, h))

      f : leb 2 (length p) ≡ true
      f = le-leb 2 (length p) (omega (arith, h))

      g : leb 2 (length (p ++ q)) ≡ true
      g = le-leb 2 (length (p ++ q)) (omega (arith, h, length-append p q))

      go : (t : Bool) → leb (count_of p) k.items ≡ t → section_read k p ≡ section_read k (p ++ q)
      go false o = rw (f, g, m, o)
      go true o =
          let c : count_of p ≤ k.items = leb-true (count_of p) k.items o in
          rw (f, g, m, o, drop-append-le 2 p q (omega (arith, h)))
          (items-front (count_of p) (drop 2 p) q (omega (arith, h, mul-le-mul_left k.width c, length-drop 2 p)))

  left-length : (p : List ℕ) → GoodSection k p → length p ≤ length (left_after k p) + (2 + k.width * k.items)
  unfolding left_after
  left-length p g = omega (arith, length-drop (2 + k.width * count_of p) p, mul-le-mul_left k.width g.0.1)

-- the most bytes that sections have
abbrev most_bytes : List Section → ℕ
most_bytes [] = 0
most_bytes (k ∷ ks) = 2 + k.width * k.items + most_bytes ks

sections-front : (ks : List Section) (p q : List ℕ) → most_bytes ks < length p → sections_read ks p ≡ sections_read ks (p ++ q)
unfolding sections_read
sections-front [] p q h = rw (lt-leb (length p) 0 h, lt-leb (length (p ++ q)) 0 (omega (arith, h, length-append p q)))
sections-front (k ∷ ks) p q h =
    let e : section_read k p ≡ section_read k (p ++ q) = section-front k p q (omega (arith, h)) in
    ⊎_elim (λ (f : (r : ℕ) × SectionFault k p r). rw (← e, (section-decided k p).told f.0 f.1))
    (λ (g : GoodSection k p).
    ap (λ (a : Answer (List ℕ)). and_then a (λ xs. and_then (sections_read ks (left_after k p)) (λ l. is (xs, l)))) e
    ∙ ap (λ (a : Answer (ListsFor ks)). and_then (section_read k (p ++ q)) (λ xs. and_then a (λ l. is (xs, l))))
    (sections-front ks (left_after k p) q (omega (arith, h, left-length k p g)) ∙ ap (sections_read ks) (sym (left-append k p q g))))
    (section-decided k p).decided

-- so many bytes of an input or more are read as the whole
pub sections-taken : (ks : List Section) (k : ℕ) → most_bytes ks < k → (s : List ℕ) → sections_read ks (take k s) ≡ sections_read ks s
sections-taken ks k h s = go (dec_lt k (length s))
  where
    go : Dec (k < length s) → sections_read ks (take k s) ≡ sections_read ks s
    go (no g) = ap (sections_read ks) (take_all k s (omega (arith, g)))
    go (yes l) =
        sections-front ks (take k s) (drop k s) (omega (arith, h, length-take-le k s (omega (arith, l))))
        ∙ ap (sections_read ks) (take-append-drop k s)
