-- Laws of the whole sheet, read and written: what each answer of the calls comes to. Assumes nothing.
use Rattle.std.specs.Prelude.{Ok, Err}
use Prim.Native.Nat.{ℕ, zero, suc, ◌≤◌, ◌<◌}
use native.Mathlib.Omega.{arith}
use mathlib.Core.Path.{◌≡◌, refl, ap, sym, ◌∙◌}
use mathlib.Core.Logic.{◌↔◌}
use mathlib.Core.Bool.{Bool, true, false, ◌&&◌}
use mathlib.Core.List.{List, [], ◌∷◌, ◌++◌}
use lib.Dec.{leb}
use lib.ListN.{length, drop}
use lib.Seq.{sets}
use Rattle.rule.specs.Lists.{placed}
use Rattle.rule.specs.Reasons.{is, refused, and_then, reason_number}
use Rattle.rule.specs.declared.Reason.{Reason}
use Rattle.rule.proofs.Answers.{fails}
use Rattle.rule.proofs.Stores.{from_front}
use Rattle.sheet.specs.declared.Counted.{Counted}
use Rattle.octets.specs.Bytes.{numbers, read_all}
use Rattle.sheet.specs.Sheet.{
  Section,
  count_of,
  left_after,
  ranged,
  year_items,
  month_items,
  day_items,
  items_of,
  sections_read,
  sheet_sections,
  Lists,
  three_lists,
  months_part,
  days_part,
  lists_of,
  lists_in,
  read_into,
  sheet_of,
  write_sheet,
  write_into,
}
use Rattle.sheet.specs.Faults.{
  here,
  later,
  GoodItems,
  GoodSection,
  GoodSections,
  HasRoom,
  GoodValues,
  GoodList,
  GoodEach,
  GoodLists,
}
use Rattle.sheet.specs.Promises.{counted, counts_in, ReadSheet, WriteSheet}
use Rattle.sheet.specs.Steps.{left_over, GoodFront, ToFill, Filled, ToLay}
use Rattle.sheet.proofs.Deciding.{made-into, if-given, if-refused}
use Rattle.sheet.proofs.Reading.{sections-decided, room-iff, into-decided, Found, found-good}
use Rattle.sheet.proofs.Laying.{length-sheet}
use Rattle.sheet.proofs.Writing.{lists-decided, buffer-decided}

pub length-numbers : (w n : ℕ) (s : List ℕ) → length (numbers w n s) ≡ n
unfolding read_all
length-numbers w zero s = refl
length-numbers w (suc n) s = ap suc (length-numbers w n (drop w s))

-- what stands in a good sheet is good
values-read : (k : Section) (n : ℕ) (s : List ℕ) → GoodItems k n s → GoodValues k (numbers k.width n s)
unfolding GoodItems GoodValues read_all
values-read k zero s g = tt
values-read k (suc n) s g = (g.0.1, values-read k n (drop k.width s) g.1)

list_read : (k : Section) (s : List ℕ) → GoodSection k s → GoodList k (items_of k s)
unfolding items_of
list_read k s g =
    (omega (arith, length-numbers k.width (count_of s) (drop 2 s), g.0.1), values-read k (count_of s) (drop 2 s) g.1)

pub lists-read : (ks : List Section) (s : List ℕ) → GoodSections ks s → GoodEach ks (lists_of ks s)
unfolding GoodSections GoodEach lists_of
lists-read [] s g = tt
lists-read (k ∷ ks) s g = (list_read k s g.0, lists-read ks (left_after k s) g.1)

-- the lists of a sheet have its counts
pub counted-lists : (s : List ℕ) → counted (lists_in s) ≡ counts_in s
unfolding lists_in lists_of items_of
counted-lists s =
    rw (
      length-numbers 2 (count_of s) (drop 2 s),
      length-numbers 4 (count_of (months_part s)) (drop 2 (months_part s)),
      length-numbers 4 (count_of (days_part s)) (drop 2 (days_part s)),
    )

-- good sections: those at the front, and the others from what is left
pub front-and-rest : (ks ls : List Section) (s : List ℕ) → GoodSections (ks ++ ls) s → GoodFront ks s × GoodSections ls (left_over ks s)
unfolding GoodSections GoodFront left_over
front-and-rest [] ls s g = (tt, g)
front-and-rest (k ∷ ks) ls s g = let r = front-and-rest ks ls (left_after k s) g.1 in ((g.0, r.0), r.1)

-- the three sections of a sheet that is to be filled from
module _ {s : List ℕ} {y m d : ℕ} {c : Counted} (a : ToFill s y m d c) where
  pub to-years : Found (ranged year_items) s s c.years
  unfolding GoodFront
  to-years = found-good (ranged year_items) s s c.years refl (sym (ap (λ (c : Counted). c.years) a.counts)) a.good.0.0

  pub to-months : (t : List ℕ) → t ≡ months_part s → Found (ranged month_items) (months_part s) t c.months
  unfolding GoodFront
  to-months t e =
      found-good (ranged month_items) (months_part s) t c.months e (sym (ap (λ (c : Counted). c.months) a.counts)) a.good.0.1.0

  pub to-days : (t : List ℕ) → t ≡ days_part s → Found (ranged day_items) (days_part s) t c.days
  unfolding GoodFront
  to-days t e =
      found-good (ranged day_items) (days_part s) t c.days e (sym (ap (λ (c : Counted). c.days) a.counts)) a.good.0.1.1.0

  -- room for the counts
  pub room-to-fill : (c.years ≤ y) × (c.months ≤ m) × (c.days ≤ d)
  room-to-fill = let e : c ≡ counted (lists_in s) = a.counts ∙ sym (counted-lists s) in rw (e) a.good.1

-- what is read, and what is refused
pub read-refused : (s y m d : List ℕ) (r : Reason) → read_into s (length y) (length m) (length d) ≡ refused (reason_number r) →
    ReadSheet s y m d (Err r) y m d
read-refused s y m d r h = record { answer = rw (h); years = rw (h); months = rw (h); days = rw (h) }

pub read-given : (s y m d : List ℕ) (l : Lists) (c : Counted) → c ≡ counted l → read_into s (length y) (length m) (length d) ≡ is l →
    ReadSheet s y m d (Ok c) (placed l.years y) (placed l.months m) (placed l.days d)
read-given s y m d l c e h = record { answer = rw (h) (ap is e); years = rw (h); months = rw (h); days = rw (h) }

-- the room that lent lists have for counts
abbrev fits : Counted → ℕ → ℕ → ℕ → Bool
fits c y m d = leb c.years y && leb c.months m && leb c.days d

module _ (s y m d : List ℕ) where
  pub read-bad : (r : ℕ) → and_then (sections_read sheet_sections s) (λ l. is (counts_in s)) ≡ refused r → read_into s (length y) (length m) (length d) ≡ refused r
  read-bad r h =
      (into-decided s (length y) (length m) (length d)).told r
      (here (if-refused (made-into (sections-decided sheet_sections s) (λ l. counts_in s)) r h))

  module _ (c : Counted) (h : and_then (sections_read sheet_sections s) (λ l. is (counts_in s)) ≡ is c) (b : Bool)
      (e : b ≡ fits c (length y) (length m) (length d)) where
    found_all : GoodSections sheet_sections s × (counts_in s ≡ c)
    found_all = if-given (made-into (sections-decided sheet_sections s) (λ l. counts_in s)) c h

    counts : c ≡ counted (lists_in s)
    counts = sym (counted-lists s ∙ found_all.1)

    has_room : (fits c (length y) (length m) (length d) ≡ true) ↔ HasRoom (lists_in s) (length y) (length m) (length d)
    has_room = rw (counts) (room-iff _ _ _ (length y) (length m) (length d))

    pub read_short : b ≡ false → read_into s (length y) (length m) (length d) ≡ refused 12
    read_short o =
        (into-decided s (length y) (length m) (length d)).told 12
        (later found_all.0 (record { fails = (fails _ has_room).0 (sym e ∙ o); reason = refl }))

    pub to_fill : b ≡ true → ToFill s (length y) (length m) (length d) c
    to_fill o = record { counts = sym found_all.1; good = ((front-and-rest sheet_sections [] s found_all.0).0, has_room.0 (sym e ∙ o)) }

    pub read-filled : b ≡ true → (y' m' d' : List ℕ) → Filled s y m d y' m' d' → ReadSheet s y m d (Ok c) y' m' d'
    read-filled o y' m' d' w =
        let g = (to_fill o).good in
        let l : Lists = lists_in s in
        rw (
          w.years ∙ from_front l.years y g.1.0,
          w.months ∙ from_front l.months m g.1.1,
          w.days ∙ from_front l.days d g.1.2,
        )
        (read-given s y m d l c counts ((into-decided s (length y) (length m) (length d)).given (found_all.0, g.1)))

-- what is written, and what is refused
pub write-refused : (y m d o : List ℕ) (r : Reason) → write_into (three_lists y m d) (length o) ≡ refused (reason_number r) →
    WriteSheet y m d o (Err r) o
write-refused y m d o r h = record { answer = rw (h); buffer = rw (h) }

pub write-given : (y m d o b : List ℕ) → write_into (three_lists y m d) (length o) ≡ is b → WriteSheet y m d o (Ok (length b)) (placed b o)
write-given y m d o b h = record { answer = rw (h); buffer = rw (h) }

module _ (y m d o : List ℕ) where
  abbrev the-lists : Lists
  the-lists = three_lists y m d

  pub write-bad : (r : ℕ) → and_then (write_sheet the-lists) (λ b. is (length (sheet_of the-lists))) ≡ refused r → write_into the-lists (length o) ≡ refused r
  write-bad r h =
      (buffer-decided the-lists (length o)).told r
      (here (if-refused (made-into (lists-decided the-lists) (λ b. length (sheet_of the-lists))) r h))

  module _ (n : ℕ) (h : and_then (write_sheet the-lists) (λ b. is (length (sheet_of the-lists))) ≡ is n) where
    all-good : GoodLists the-lists × (length (sheet_of the-lists) ≡ n)
    all-good = if-given (made-into (lists-decided the-lists) (λ b. length (sheet_of the-lists))) n h

    pub write-short : length o < n → write_into the-lists (length o) ≡ refused 12
    write-short l =
        (buffer-decided the-lists (length o)).told 12
        (later all-good.0 (record { fails = λ p. omega (arith, p, l, all-good.1); reason = refl }))

    pub to-lay : n ≤ length o → ToLay (length y) (length m) (length d) (length o)
    unfolding GoodEach
    to-lay l =
        let g = all-good.0 in
        record { years = g.0.0; months = g.1.0.0; days = g.1.1.0.0; room = omega (arith, l, all-good.1, length-sheet the-lists) }

    pub write-laid : n ≤ length o → (o' : List ℕ) → o' ≡ sets o 0 (sheet_of the-lists) → WriteSheet y m d o (Ok n) o'
    write-laid l o' w =
        let r : length (sheet_of the-lists) ≤ length o = omega (arith, l, all-good.1) in
        rw (← all-good.1, w ∙ from_front (sheet_of the-lists) o r)
        (write-given y m d o (sheet_of the-lists) ((buffer-decided the-lists (length o)).given (all-good.0, r)))
