-- Laws of bytes both ways, over any list of sections: what was laid is read, and what was read is laid. Assumes nothing.
use Prim.Native.Nat.{ℕ, zero, suc, ◌+◌, ◌*◌, ◌/◌, ◌%◌, ◌^◌, ◌≤◌, ◌<◌}
use native.Mathlib.Nat.{pow-suc, mul-suc, mul-zero}
use native.Mathlib.Omega.{arith}
use mathlib.Core.Path.{◌≡◌, refl, ap, ◌∙◌}
use mathlib.Core.Bool.{true}
use mathlib.Core.List.{List, [], ◌∷◌, ◌++◌, append_assoc}
use lib.ListN.{length, drop, length-append}
use lib.Seq.{drop_at, drop-drop, get_or-drop}
use Rattle.octets.specs.Bytes.{number, lay, numbers, lay_all, lay_each, length-lay, read_all}
use Rattle.sheet.specs.Sheet.{Section, items_of, left_after, ListsFor, lists_of, lay_section, lay_sections}
use Rattle.sheet.specs.Faults.{GoodItems, GoodSection, GoodSections, GoodValues, GoodList, GoodEach}
use Rattle.octets.proofs.Filling.{length-lay_all}
use Rattle.sheet.proofs.Sheets.{length-numbers}
use Rattle.stated.specs.Paper.{AreBytes}

-- a number laid in bytes is read, and bytes read as a number are laid again
pub number-lay : (w x : ℕ) (t : List ℕ) → x < 256 ^ w → number w (lay w x ++ t) ≡ x
unfolding number lay
number-lay zero x t h = omega arith
number-lay (suc w) x t h =
    let e : 256 ^ suc w ≡ 256 ^ w * 256 = pow-suc 256 w in
    let f : number w (lay w (x / 256) ++ t) ≡ x / 256 = number-lay w (x / 256) t (omega arith) in
    ap (λ (n : ℕ). x % 256 + 256 * n) f ∙ omega arith

pub lay-number : (w : ℕ) (t : List ℕ) → w ≤ length t → AreBytes t → lay w (number w t) ++ drop w t ≡ t
unfolding number lay
lay-number zero t h b = refl
lay-number (suc w) [] h b = absurd (omega arith)
lay-number (suc w) (x ∷ t) h b =
    let l : x < 256 = b 0 in
    let e : (x + 256 * number w t) % 256 ≡ x = omega arith in
    let f : (x + 256 * number w t) / 256 ≡ number w t = omega arith in
    rw (e, f) (ap (λ (r : List ℕ). x ∷ r) (lay-number w t (omega arith) (λ i. b (suc i))))

pub bytes_drop : (n : ℕ) (s : List ℕ) → AreBytes s → AreBytes (drop n s)
bytes_drop n s b i = rw (get_or-drop n s i 0) (b (n + i))

-- what is laid is bytes
pub bytes-append : (s t : List ℕ) → AreBytes s → AreBytes t → AreBytes (s ++ t)
bytes-append [] t b c i = c i
bytes-append (x ∷ s) t b c zero = b 0
bytes-append (x ∷ s) t b c (suc i) = bytes-append s t (λ j. b (suc j)) c i

pub bytes-lay : (w x : ℕ) → AreBytes (lay w x)
unfolding lay
bytes-lay zero x i = omega arith
bytes-lay (suc w) x zero = omega arith
bytes-lay (suc w) x (suc i) = bytes-lay w (x / 256) i

bytes-all : (w : ℕ) (xs : List ℕ) → AreBytes (lay_all w xs)
unfolding lay_each
bytes-all w [] i = omega arith
bytes-all w (x ∷ xs) i = bytes-append (lay w x) (lay_all w xs) (bytes-lay w x) (bytes-all w xs) i

pub bytes-laid : (ks : List Section) (l : ListsFor ks) → AreBytes (lay_sections ks l)
unfolding lay_sections lay_section
bytes-laid [] l = λ i. omega arith
bytes-laid (k ∷ ks) l =
    bytes-append (lay_section k l.0) (lay_sections ks l.1)
    (bytes-append (lay 2 (length l.0)) (lay_all k.width l.0) (bytes-lay 2 (length l.0)) (bytes-all k.width l.0))
    (bytes-laid ks l.1)

-- items that fit their bytes, and items in a list for each of the sections; a section's count that fits its bytes
unfoldable pub SmallItems : Section → List ℕ → Type 0
SmallItems k [] = Unit {0}
SmallItems k (x ∷ xs) = (x < 256 ^ k.width) × SmallItems k xs

abbrev SmallEach : (ks : List Section) → ListsFor ks → Type 0
SmallEach [] l = Unit {0}
SmallEach (k ∷ ks) l = (k.items < 65536) × (SmallItems k l.0 × SmallEach ks l.1)

-- a section whose good values fit its bytes, and whose items fit its count: then good lists fit
pub record Fit (k : Section) : Type 0 where
  pub values : (x : ℕ) → k.good x ≡ true → x < 256 ^ k.width
  pub counts : k.items < 65536

abbrev pub AllFit : List Section → Type 0
AllFit [] = Unit {0}
AllFit (k ∷ ks) = Fit k × AllFit ks

fit-items : (k : Section) → Fit k → (xs : List ℕ) → GoodValues k xs → SmallItems k xs
unfolding GoodValues SmallItems
fit-items k fit [] g = tt
fit-items k fit (x ∷ xs) g = (fit.values x g.0, fit-items k fit xs g.1)

pub fit-each : (ks : List Section) → AllFit ks → (l : ListsFor ks) → GoodEach ks l → SmallEach ks l
unfolding GoodEach
fit-each [] f l g = tt
fit-each (k ∷ ks) f l g = (f.0.counts, (fit-items k f.0 l.0 g.0.1, fit-each ks f.1 l.1 g.1))

module _ (k : Section) where
  -- good items that fit, laid before t
  items_back : (xs t : List ℕ) → GoodValues k xs → SmallItems k xs →
      GoodItems k (length xs) (lay_all k.width xs ++ t) × (numbers k.width (length xs) (lay_all k.width xs ++ t) ≡ xs)
  unfolding GoodValues SmallItems GoodItems read_all lay_each
  items_back [] t g f = (tt, refl)
  items_back (z ∷ xs) t g f =
      let w = k.width in
      let r = items_back xs t g.1 f.1 in
      let u : List ℕ = lay_all w xs ++ t in
      let e : (lay w z ++ lay_all w xs) ++ t ≡ lay w z ++ u = append_assoc (lay w z) (lay_all w xs) t in
      let n : number w (lay w z ++ u) ≡ z = number-lay w z u f.0 in
      let d : drop w (lay w z ++ u) ≡ u = drop_at (lay w z) u w (length-lay w z) in
      let l : w ≤ length (lay w z ++ u) = omega (arith, length-append (lay w z) u, length-lay w z) in
      (rw (e, n, d) ((l, g.0), r.0), rw (e, n, d, r.1))

  -- a good list, laid before t
  section-back : (xs t : List ℕ) → GoodList k xs → k.items < 65536 → SmallItems k xs →
      GoodSection k (lay_section k xs ++ t) × (items_of k (lay_section k xs ++ t) ≡ xs) × (left_after k (lay_section k xs ++ t) ≡ t)
  unfolding lay_section items_of left_after
  section-back xs t g m f =
      let w = k.width in
      let c : List ℕ = lay 2 (length xs) in
      let u : List ℕ = lay_all w xs ++ t in
      let r = items_back xs t g.1 f in
      let e : (c ++ lay_all w xs) ++ t ≡ c ++ u = append_assoc c (lay_all w xs) t in
      let n : number 2 (c ++ u) ≡ length xs = number-lay 2 (length xs) u (omega (arith, m, g.0)) in
      let d : drop 2 (c ++ u) ≡ u = drop_at c u 2 (length-lay 2 (length xs)) in
      let l : 2 ≤ length (c ++ u) = omega (arith, length-append c u, length-lay 2 (length xs)) in (
        rw (e, n, d) ((l, g.0), r.0),
        rw (e, n, d) r.1,
        rw (e, n, ← drop-drop (w * length xs) 2 (c ++ u), d) (drop_at (lay_all w xs) t (w * length xs) (length-lay_all w xs)),
      )

-- good lists that fit, laid, are read again
pub sections-back : (ks : List Section) (l : ListsFor ks) → GoodEach ks l → SmallEach ks l →
    GoodSections ks (lay_sections ks l) × (lists_of ks (lay_sections ks l) ≡ l)
unfolding GoodEach GoodSections lay_sections lists_of
sections-back [] l g f = (omega arith, refl)
sections-back (k ∷ ks) l g f =
    let a = section-back k l.0 (lay_sections ks l.1) g.0 f.0 f.1.0 in
    let b = sections-back ks l.1 g.1 f.1.1 in
    ((a.0, rw a.2 b.0), rw (a.1, a.2, b.1))

module _ (k : Section) where
  -- good items that were read, laid again before what is left
  items-again : (n : ℕ) (t : List ℕ) → AreBytes t → GoodItems k n t → lay_all k.width (numbers k.width n t) ++ drop (k.width * n) t ≡ t
  unfolding GoodItems read_all lay_each
  items-again zero t b g = ap (λ (m : ℕ). drop m t) (mul-zero k.width)
  items-again (suc n) t b g =
      let w = k.width in
      let u : List ℕ = drop w t in
      let r = items-again n u (bytes_drop w t b) g.1 in
      let e : w * suc n ≡ w + w * n = omega (arith, mul-suc w n) in
      rw (e, ← drop-drop (w * n) w t, append_assoc (lay w (number w t)) (lay_all w (numbers w n u)) (drop (w * n) u), r)
      (lay-number w t g.0.0 b)

  section-again : (s : List ℕ) → AreBytes s → GoodSection k s → lay_section k (items_of k s) ++ left_after k s ≡ s
  unfolding lay_section items_of left_after
  section-again s b g =
      let w = k.width in
      let n = number 2 s in
      let u : List ℕ = drop 2 s in
      let r = items-again n u (bytes_drop 2 s b) g.1 in
      rw (length-numbers w n u, ← drop-drop (w * n) 2 s, append_assoc (lay 2 n) (lay_all w (numbers w n u)) (drop (w * n) u), r)
      (lay-number 2 s g.0.0 b)

-- a good sheet is the sheet of its lists
pub sections-again : (ks : List Section) (s : List ℕ) → AreBytes s → GoodSections ks s → lay_sections ks (lists_of ks s) ≡ s
unfolding GoodSections lay_sections lists_of left_after
sections-again [] s b g = none s g
  where
    none : (s : List ℕ) → length s ≤ 0 → [] ≡ s
    none [] h = refl
    none (x ∷ s) h = absurd (omega arith)
sections-again (k ∷ ks) s b g =
    ap (λ (t : List ℕ). lay_section k (items_of k s) ++ t)
    (sections-again ks (left_after k s) (bytes_drop (2 + k.width * number 2 s) s b) g.1)
    ∙ section-again k s b g.0
