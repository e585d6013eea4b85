-- Laws of reading: what decides it, over any section and any list of sections, and what each turn of the code comes to.
-- Assumes nothing.
use Prim.Native.Nat.{ℕ, zero, suc, ◌+◌, ◌-◌, ◌*◌, ◌≤◌, ◌<◌}
use native.Mathlib.Nat.{mul-suc, mul-zero}
use native.Mathlib.Omega.{arith}
use mathlib.Core.Path.{◌≡◌, refl, ap, sym, ◌∙◌, subst}
use mathlib.Core.Logic.Iff
use mathlib.Core.Logic.{◌↔◌}
use mathlib.Core.Bool.{Bool, true, false, ◌&&◌}
use mathlib.Core.List.{List, [], ◌∷◌, ◌++◌}
use lib.Dec.{leb}
use lib.ListN.{length, take, drop, length-drop}
use lib.Seq.{drop-append-le, drop-drop}
use borrow.Author.Tests.{le-leb, lt-leb}
use Rattle.rule.specs.Reasons.{Answer, is, refused, refused-with, guard, and_then}
use Rattle.rule.proofs.Answers.{both_true, at_most, given-not}
use Rattle.rule.proofs.Stores.{part-all}
use Rattle.sheet.specs.declared.Counted.{Counted}
use Rattle.octets.specs.Bytes.{number, numbers, read_all}
use Rattle.sheet.specs.Sheet.{
  Section,
  item_read,
  items_read,
  count_of,
  count_read,
  section_read,
  items_of,
  left_after,
  lists_of,
  ListsFor,
  sections_read,
  ranged,
  year_items,
  month_items,
  day_items,
  sheet_sections,
  Lists,
  named,
  months_part,
  days_part,
  lists_in,
  read_sheet,
  room,
  read_into,
}
use Rattle.sheet.specs.Faults.{
  First,
  NoFault,
  GoodItem,
  ItemFault,
  GoodItems,
  ItemsFault,
  GoodCount,
  CountFault,
  GoodSection,
  SectionFault,
  GoodSections,
  SectionsFault,
  GoodSheet,
  SheetFault,
}
use Rattle.sheet.specs.Promises.{counts_are, counts_in}
use Rattle.sheet.specs.Steps.{item_tested, front_read, left_over, GoodFront, bytes_of, FewOf}
use Rattle.octets.proofs.Numbers.{number_append}
use Rattle.sheet.proofs.Deciding.{
  Decides,
  asks_nothing,
  asks,
  asks-first,
  and-then,
  made-into,
  if-given,
  refused-of,
  then-made,
  stops-there,
  goes_on,
}

-- what reading is computed with: on an `unfolding` line this name brings all that its own line names
unfoldable pub reading : ℕ
unfolding number read_all item_read items_read count_read section_read items_of left_after lists_of sections_read lists_in read_sheet read_into
reading = 0

-- each reason comes from the first fault, and what is given from there being none
module _ (k : Section) where
  item-decided : (s : List ℕ) → Decides (item_read k s) (number k.width s) (ItemFault k s) (GoodItem k s)
  unfolding item_read
  item-decided s =
      asks-first (leb k.width (length s)) 9 (at_most k.width (length s))
      (asks (k.good (number k.width s)) (k.reason (number k.width s)) Iff.rfl (number k.width s))

  items-decided : (n : ℕ) (s : List ℕ) → Decides (items_read k n s) (numbers k.width n s) (ItemsFault k n s) (GoodItems k n s)
  unfolding items_read read_all ItemsFault GoodItems
  items-decided zero s = asks_nothing []
  items-decided (suc n) s =
      and-then (item-decided s) (λ x. and_then (items_read k n (drop k.width s)) (λ xs. is (x ∷ xs)))
      (made-into (items-decided n (drop k.width s)) (λ xs. number k.width s ∷ xs))

  count-decided : (s : List ℕ) → Decides (count_read k s) (count_of s) (CountFault k s) (GoodCount k s)
  unfolding count_read
  count-decided s =
      asks-first (leb 2 (length s)) 9 (at_most 2 (length s))
      (asks (leb (count_of s) k.items) 10 (at_most (count_of s) k.items) (count_of s))

  pub section-decided : (s : List ℕ) → Decides (section_read k s) (items_of k s) (SectionFault k s) (GoodSection k s)
  unfolding section_read items_of
  section-decided s = and-then (count-decided s) (λ n. items_read k n (drop 2 s)) (items-decided (count_of s) (drop 2 s))

pub sections-decided : (ks : List Section) (s : List ℕ) → Decides (sections_read ks s) (lists_of ks s) (SectionsFault ks s) (GoodSections ks s)
unfolding sections_read lists_of SectionsFault GoodSections
sections-decided [] s = asks (leb (length s) 0) 11 (at_most (length s) 0) tt
sections-decided (k ∷ ks) s =
    and-then (section-decided k s) (λ xs. and_then (sections_read ks (left_after k s)) (λ l. is (xs, l)))
    (made-into (sections-decided ks (left_after k s)) (λ l. (items_of k s, l)))

pub sheet-decided : (s : List ℕ) → Decides (read_sheet s) (lists_in s) (SectionsFault sheet_sections s) (GoodSections sheet_sections s)
unfolding read_sheet lists_in
sheet-decided s = made-into (sections-decided sheet_sections s) named

pub room-iff : (a b c y m d : ℕ) → ((leb a y && leb b m && leb c d) ≡ true) ↔ ((a ≤ y) × (b ≤ m) × (c ≤ d))
room-iff a b c y m d =
    let e = both_true (leb a y && leb b m) (leb c d) (both_true (leb a y) (leb b m) (at_most a y) (at_most b m)) (at_most c d) in
    (λ h. let g = e.0 h in (g.0.0, g.0.1, g.1), λ g. e.1 ((g.0, g.1), g.2))

pub into-decided : (s : List ℕ) (y m d : ℕ) → Decides (read_into s y m d) (lists_in s) (SheetFault s y m d) (GoodSheet s y m d)
unfolding read_into
into-decided s y m d =
    let l : Lists = lists_in s in
    and-then (sheet-decided s) (λ l. guard (room l y m d) 12 (is l))
    (asks (room l y m d) 12 (room-iff (length l.years) (length l.months) (length l.days) y m d) l)

-- a guard before nothing more: it is passed, or not
guard-out : (b : Bool) (k r : ℕ) → guard b k (is (tt {0})) ≡ refused r → (b ≡ false) × (k ≡ r)
guard-out true k r h = absurd (given-not (is (tt {0})) (tt {0}) r refl h)
guard-out false k r h = (refl, cc)

guard-in : (b : Bool) (k : ℕ) → guard b k (is (tt {0})) ≡ is (tt {0}) → b ≡ true
guard-in true k h = refl
guard-in false k h = absurd (given-not (is (tt {0})) (tt {0}) k refl (sym h))

-- the next of m items: not whole, not good, or good; only whether all are good is asked
module _ {A : Type 0} (k : Section) (m j : ℕ) (e : m ≡ suc j) (t : List ℕ) (z : A) where
  pub item-cut : leb k.width (length t) ≡ false → and_then (items_read k m t) (λ xs. is z) ≡ refused 9
  unfolding items_read item_read
  item-cut h = rw (e, h)

  pub item_out : leb k.width (length t) ≡ true → (r : ℕ) → item_tested k t ≡ refused r → and_then (items_read k m t) (λ xs. is z) ≡ refused r
  unfolding items_read item_read
  item_out h r o = let f = guard-out (k.good (number k.width t)) (k.reason (number k.width t)) r o in rw (e, h, f.0, f.1)

  pub item-good : leb k.width (length t) ≡ true → item_tested k t ≡ is (tt {0}) →
      and_then (items_read k m t) (λ xs. is z) ≡ and_then (items_read k j (drop k.width t)) (λ xs. is z)
  unfolding items_read item_read
  item-good h o =
      rw (e, h, guard-in (k.good (number k.width t)) (k.reason (number k.width t)) o)
      (then-made (items_read k j (drop k.width t)) (λ xs. number k.width t ∷ xs) (λ xs. is z))

pub no_item : {A : Type 0} (k : Section) (m : ℕ) → m ≡ 0 → (t : List ℕ) (z : A) → and_then (items_read k m t) (λ xs. is z) ≡ is z
unfolding items_read
no_item k m e t z = rw (e)

-- a section by its count
pub section-refused : (k : Section) (s : List ℕ) (z r : ℕ) → count_read k s ≡ refused r → and_then (section_read k s) (λ xs. is z) ≡ refused r
unfolding section_read
section-refused k s z r h = rw (h)

pub section-counted : (k : Section) (s : List ℕ) (n : ℕ) → count_read k s ≡ is n →
    (2 ≤ length s) × (and_then (section_read k s) (λ xs. is (count_of s)) ≡ and_then (items_read k n (drop 2 s)) (λ xs. is n))
unfolding section_read
section-counted k s n h =
    let a = if-given (count-decided k s) n h in
    (a.0.0, rw (h) (ap (λ (m : ℕ). and_then (items_read k n (drop 2 s)) (λ xs. is m)) a.1))

-- good items lie within the bytes
items-long : (k : Section) (n : ℕ) (s : List ℕ) → GoodItems k n s → k.width * n ≤ length s
unfolding GoodItems
items-long k zero s g = omega (arith, mul-zero k.width)
items-long k (suc n) s g =
    omega (arith, g.0.0, items-long k n (drop k.width s) g.1, mul-suc k.width n, length-drop k.width s)

pub section-long : (k : Section) (s : List ℕ) → GoodSection k s → 2 + k.width * count_of s ≤ length s
section-long k s g = omega (arith, g.0.0, items-long k (count_of s) (drop 2 s) g.1, length-drop 2 s)

-- what is left after a section that lies in p
pub left-append : (k : Section) (p q : List ℕ) → GoodSection k p → left_after k (p ++ q) ≡ left_after k p ++ q
unfolding left_after
left-append k p q g =
    rw (number_append 2 p q g.0.0) (drop-append-le (2 + k.width * count_of p) p q (section-long k p g))

-- the section k of s, found good at the front of a part t, with n items: how it lies, its items, and where the next one starts
pub record Found (k : Section) (s t : List ℕ) (n : ℕ) : Type 0 where
  pub count : count_of s ≡ n
  pub few : n ≤ k.items
  pub long : 2 + k.width * n ≤ length t
  pub stored : numbers k.width n (drop 2 t) ≡ items_of k s
  pub next : take (length t - (2 + k.width * n)) (drop (2 + k.width * n) t) ≡ left_after k s

pub found-good : (k : Section) (s t : List ℕ) (n : ℕ) → t ≡ s → count_of s ≡ n → GoodSection k s → Found k s t n
unfolding items_of left_after
found-good k s t n e c g =
    let f : k.width * count_of s ≡ k.width * n = ap (λ (j : ℕ). k.width * j) c in
    record {
      count = c;
      few = omega (arith, g.0.1);
      long = omega (arith, section-long k s g, ap length e);
      stored = rw (e, c);
      next = part-all (2 + k.width * n) t ∙ rw (e, c);
    }

pub found : (k : Section) (s t : List ℕ) (n : ℕ) → t ≡ s → and_then (section_read k t) (λ xs. is (count_of t)) ≡ is n → Found k s t n
found k s t n e h =
    let a = if-given (made-into (section-decided k s) (λ xs. count_of s)) n (rw (e) at h) in
    found-good k s t n e a.1 a.0

-- the section at the front stops the reading, or it goes on with what is left
module _ {A : Type 0} (k : Section) (ks : List Section) (t : List ℕ) (z : A) where
  pub front-stops : (r : ℕ) → and_then (section_read k t) (λ xs. is (count_of t)) ≡ refused r → and_then (front_read (k ∷ ks) t) (λ l. is z) ≡ refused r
  unfolding front_read
  front-stops r h = stops-there (section_read k t) (front_read ks (left_after k t)) (λ xs l. (xs, l)) (count_of t) z r h

  pub front-passes : (n : ℕ) → and_then (section_read k t) (λ xs. is (count_of t)) ≡ is n →
      and_then (front_read (k ∷ ks) t) (λ l. is z)
      ≡ and_then (front_read ks (take (length t - (2 + k.width * n)) (drop (2 + k.width * n) t))) (λ l. is z)
  unfolding front_read
  front-passes n h =
      goes_on (section_read k t) (front_read ks (left_after k t)) (λ xs l. (xs, l)) (count_of t) z n h
      ∙ ap (λ (u : List ℕ). and_then (front_read ks u) (λ l. is z)) (sym (found k t t n refl h).next)

pub front-ends : {A : Type 0} (t : List ℕ) (z : A) → and_then (front_read [] t) (λ l. is z) ≡ is z
unfolding front_read
front-ends t z = refl

-- the counts of the three sections of s, of which the second is found at t and the third at u
pub counts-found : (s t u : List ℕ) (y m d : ℕ) → Found (ranged year_items) s s y → t ≡ months_part s →
    Found (ranged month_items) t t m → u ≡ left_after (ranged month_items) t → Found (ranged day_items) u u d → counts_in s ≡ counts_are y m d
counts-found s t u y m d a e b f c = rw (← e, ← f, a.count, b.count, c.count)

-- sections at the front of more: what decides them
unfoldable FrontFault : List Section → List ℕ → ℕ → Type 0
FrontFault [] s = NoFault
FrontFault (k ∷ ks) s = First (SectionFault k s) (GoodSection k s) (FrontFault ks (left_after k s))

front-decided : (ks : List Section) (s : List ℕ) → Decides (front_read ks s) (lists_of ks s) (FrontFault ks s) (GoodFront ks s)
unfolding front_read lists_of FrontFault GoodFront
front-decided [] s = asks_nothing tt
front-decided (k ∷ ks) s =
    and-then (section-decided k s) (λ xs. and_then (front_read ks (left_after k s)) (λ l. is (xs, l)))
    (made-into (front-decided ks (left_after k s)) (λ l. (items_of k s, l)))

-- where only whether all are good is asked: first those at the front, then the others from what is left
one_by_one : {X Y W U P Q Z : Type 0} (a : Answer X) (b : Answer Y) (c : Answer W) (d : Answer U) (f : X → Y → P) (g : X → W → Q) (z : Z) →
    and_then b (λ y. is z) ≡ and_then c (λ w. and_then d (λ u. is z)) →
    and_then (and_then a (λ x. and_then b (λ y. is (f x y)))) (λ p. is z) ≡ and_then (and_then a (λ x. and_then c (λ w. is (g x w)))) (λ q. and_then d (λ u. is z))
one_by_one (is x) b c d f g z e = then-made b (f x) (λ p. is z) ∙ e ∙ sym (then-made c (g x) (λ q. and_then d (λ u. is z)))
one_by_one (refused r) b c d f g z e = refl
one_by_one (refused-with r n) b c d f g z e = refl

pub front-then : {Z : Type 0} (ks ls : List Section) (s : List ℕ) (z : Z) →
    and_then (sections_read (ks ++ ls) s) (λ l. is z) ≡ and_then (front_read ks s) (λ l. and_then (sections_read ls (left_over ks s)) (λ m. is z))
unfolding sections_read front_read left_over
front-then [] ls s z = refl
front-then (k ∷ ks) ls s z =
    one_by_one (section_read k s) (sections_read (ks ++ ls) (left_after k s)) (front_read ks (left_after k s)) (sections_read ls (left_over ks (left_after k s)))
    (λ xs l. (xs, l)) (λ xs l. (xs, l)) z (front-then ks ls (left_after k s) z)

-- the three sections found good at the front of s, with the counts c
pub record Three (s : List ℕ) (c : Counted) : Type 0 where
  pub good : GoodFront sheet_sections s
  pub counts : counts_in s ≡ c
  pub few : FewOf c
  pub long : bytes_of c ≤ length s
  pub next : left_over sheet_sections s ≡ drop (bytes_of c) s

pub three-good : (s : List ℕ) → GoodFront sheet_sections s → Three s (counts_in s)
unfolding GoodFront left_over left_after
three-good s g =
    let y = count_of s in
    let m = count_of (months_part s) in
    let d = count_of (days_part s) in
    let e : 2 + 2 * y + (2 + 4 * m + (2 + 4 * d)) ≡ 6 + 2 * y + 4 * m + 4 * d = omega arith in
    record {
      good = g;
      counts = refl;
      few = record { years = g.0.0.1; months = g.1.0.0.1; days = g.1.1.0.0.1 };
      long =
          omega (
            arith,
            section-long (ranged year_items) s g.0,
            section-long (ranged month_items) (months_part s) g.1.0,
            section-long (ranged day_items) (days_part s) g.1.1.0,
            length-drop (2 + 2 * y) s,
            length-drop (2 + 4 * m) (months_part s),
          );
      next =
          drop-drop (2 + 4 * d) (2 + 4 * m) (months_part s)
          ∙ drop-drop (2 + 4 * m + (2 + 4 * d)) (2 + 2 * y) s
          ∙ ap (λ (i : ℕ). drop i s) e;
    }

pub three : (s : List ℕ) (c : Counted) → and_then (front_read sheet_sections s) (λ l. is (counts_in s)) ≡ is c → Three s c
three s c h =
    let a = if-given (made-into (front-decided sheet_sections s) (λ l. counts_in s)) c h in
    subst (Three s) a.1 (three-good s a.0)

-- after them the end: 11 for bytes after the last section
module _ (s : List ℕ) where
  pub three-refused : {Z : Type 0} (ls : List Section) (r : ℕ) (z : Z) → and_then (front_read sheet_sections s) (λ l. is (counts_in s)) ≡ refused r →
      and_then (sections_read (sheet_sections ++ ls) s) (λ l. is z) ≡ refused r
  three-refused {Z} ls r z h =
      front-then sheet_sections ls s z
      ∙ ap (λ (a : Answer (ListsFor sheet_sections)). and_then a (λ l. and_then (sections_read ls (left_over sheet_sections s)) (λ m. is z)))
      (refused-of (front_read sheet_sections s) (λ l. counts_in s) r (sym h))

  pub three-then : {Z : Type 0} (ls : List Section) (c : Counted) (z : Z) → Three s c →
      and_then (sections_read (sheet_sections ++ ls) s) (λ l. is z) ≡ and_then (sections_read ls (drop (bytes_of c) s)) (λ m. is z)
  three-then {Z} ls c z t =
      front-then sheet_sections ls s z
      ∙ ap (λ (a : Answer (ListsFor sheet_sections)). and_then a (λ l. and_then (sections_read ls (left_over sheet_sections s)) (λ m. is z)))
      ((front-decided sheet_sections s).given t.good)
      ∙ ap (λ (u : List ℕ). and_then (sections_read ls u) (λ m. is z)) t.next

  pub bytes_after : (c : Counted) → Three s c → bytes_of c < length s → and_then (sections_read sheet_sections s) (λ l. is (counts_in s)) ≡ refused 11
  unfolding sections_read
  bytes_after c t h = three-then [] c (counts_in s) t ∙ rw (lt-leb (length (drop (bytes_of c) s)) 0 (omega (arith, h, length-drop (bytes_of c) s)))

  pub nothing-after : (c : Counted) → Three s c → length s ≤ bytes_of c → and_then (sections_read sheet_sections s) (λ l. is (counts_in s)) ≡ is c
  unfolding sections_read
  nothing-after c t h =
      three-then [] c (counts_in s) t
      ∙ rw (le-leb (length (drop (bytes_of c) s)) 0 (omega (arith, h, length-drop (bytes_of c) s))) (ap is t.counts)
