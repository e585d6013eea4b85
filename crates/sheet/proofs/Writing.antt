-- Laws of writing: what decides it, over any section and any list of sections, and what each turn of the code comes to.
-- Assumes nothing.
use Prim.Native.Nat.{ℕ, suc, ◌+◌, ◌≤◌, ◌<◌}
use native.Mathlib.Numerals.{add-one}
use mathlib.Core.Path.{◌≡◌, refl}
use mathlib.Core.Logic.Iff
use mathlib.Core.Bool.{true, false}
use mathlib.Core.List.{List, [], ◌∷◌, ◌++◌}
use lib.Dec.{leb}
use lib.ListN.{length, get_or, drop, drop_of_length-le}
use lib.Seq.{drop-cons}
use borrow.Author.Tests.{le-leb, lt-leb}
use Rattle.rule.specs.Reasons.{is, refused, and_then, into_room}
use Rattle.rule.proofs.Answers.{at_most}
use Rattle.octets.specs.Bytes.{lay, lay_all, lay_each}
use Rattle.sheet.specs.Sheet.{
  Section,
  ListsFor,
  items_written,
  section_written,
  sections_written,
  lay_section,
  lay_sections,
  sheet_sections,
  Lists,
  in_order,
  sheet_of,
  write_sheet,
  write_into,
}
use Rattle.sheet.specs.Faults.{GoodValues, ValuesFault, GoodList, ListFault, GoodEach, EachFault, GoodLists, ListsFault}
use Rattle.sheet.proofs.Deciding.{
  Decides,
  asks_nothing,
  asks,
  asks-first,
  and-then,
  made-into,
  if-given,
  then-made,
  stops-there,
  goes_on,
}

-- what writing is computed with: on an `unfolding` line this name brings all that its own line names
unfoldable pub writing : ℕ
unfolding lay lay_each items_written section_written sections_written lay_section lay_sections sheet_of write_sheet write_into
writing = 0

-- each reason comes from the first fault, and what is given from there being none
module _ (k : Section) where
  values-decided : (xs : List ℕ) → Decides (items_written k xs) (lay_all k.width xs) (ValuesFault k xs) (GoodValues k xs)
  unfolding items_written lay_each ValuesFault GoodValues
  values-decided [] = asks_nothing []
  values-decided (x ∷ xs) = asks-first (k.good x) (k.reason x) Iff.rfl (made-into (values-decided xs) (λ b. lay k.width x ++ b))

  list-decided : (xs : List ℕ) → Decides (section_written k xs) (lay_section k xs) (ListFault k xs) (GoodList k xs)
  unfolding section_written lay_section
  list-decided xs =
      asks-first (leb (length xs) k.items) 10 (at_most (length xs) k.items)
      (made-into (values-decided xs) (λ b. lay 2 (length xs) ++ b))

each-decided : (ks : List Section) (l : ListsFor ks) → Decides (sections_written ks l) (lay_sections ks l) (EachFault ks l) (GoodEach ks l)
unfolding sections_written lay_sections EachFault GoodEach
each-decided [] l = asks_nothing []
each-decided (k ∷ ks) l =
    and-then (list-decided k l.0) (λ b. and_then (sections_written ks l.1) (λ c. is (b ++ c)))
    (made-into (each-decided ks l.1) (λ c. lay_section k l.0 ++ c))

pub lists-decided : (l : Lists) → Decides (write_sheet l) (sheet_of l) (EachFault sheet_sections (in_order l)) (GoodLists l)
unfolding write_sheet sheet_of
lists-decided l = each-decided sheet_sections (in_order l)

pub buffer-decided : (l : Lists) (n : ℕ) → Decides (write_into l n) (sheet_of l) (ListsFault l n) (GoodLists l × (length (sheet_of l) ≤ n))
unfolding write_into
buffer-decided l n =
    and-then (lists-decided l) (λ b. into_room n b) (asks (leb (length (sheet_of l)) n) 12 (at_most (length (sheet_of l)) n) (sheet_of l))

-- a list: too long, or its items one by one; only whether all are good is asked
module _ {A : Type 0} (k : Section) (xs : List ℕ) (z : A) where
  pub list-long : k.items < length xs → and_then (section_written k xs) (λ b. is z) ≡ refused 10
  unfolding section_written
  list-long h = rw (lt-leb (length xs) k.items h)

  pub list-short : length xs ≤ k.items → and_then (section_written k xs) (λ b. is z) ≡ and_then (items_written k xs) (λ b. is z)
  unfolding section_written
  list-short h = rw (le-leb (length xs) k.items h) (then-made (items_written k xs) (λ b. lay 2 (length xs) ++ b) (λ b. is z))

  pub item-bad : (i : ℕ) → i < length xs → k.good (get_or xs i 0) ≡ false →
      and_then (items_written k (drop i xs)) (λ b. is z) ≡ refused (k.reason (get_or xs i 0))
  unfolding items_written
  item-bad i h o = rw (drop-cons xs i 0 h, o)

  pub item_on : (i : ℕ) → i < length xs → k.good (get_or xs i 0) ≡ true →
      and_then (items_written k (drop i xs)) (λ b. is z) ≡ and_then (items_written k (drop (i + 1) xs)) (λ b. is z)
  unfolding items_written
  item_on i h o =
      rw (drop-cons xs i 0 h, o, add-one i) (then-made (items_written k (drop (suc i) xs)) (λ b. lay k.width (get_or xs i 0) ++ b) (λ b. is z))

  pub items-end : (i : ℕ) → length xs ≤ i → and_then (items_written k (drop i xs)) (λ b. is z) ≡ is z
  unfolding items_written
  items-end i h = rw (drop_of_length-le xs h)

-- a list found good, with n items
pub list-found : (k : Section) (xs : List ℕ) (n : ℕ) → and_then (section_written k xs) (λ b. is (length xs)) ≡ is n →
    (length xs ≤ k.items) × (length xs ≡ n)
list-found k xs n h = let a = if-given (made-into (list-decided k xs) (λ b. length xs)) n h in (a.0.0, a.1)

-- the list at the front stops the writing, or it goes on
module _ {A : Type 0} (k : Section) (ks : List Section) (l : ListsFor (k ∷ ks)) (z : A) where
  pub list-stops : (n r : ℕ) → and_then (section_written k l.0) (λ b. is n) ≡ refused r → and_then (sections_written (k ∷ ks) l) (λ b. is z) ≡ refused r
  unfolding sections_written
  list-stops n r h = stops-there (section_written k l.0) (sections_written ks l.1) (λ b c. b ++ c) n z r h

  pub list-passes : (n m : ℕ) → and_then (section_written k l.0) (λ b. is n) ≡ is m →
      and_then (sections_written (k ∷ ks) l) (λ b. is z) ≡ and_then (sections_written ks l.1) (λ b. is z)
  unfolding sections_written
  list-passes n m h = goes_on (section_written k l.0) (sections_written ks l.1) (λ b c. b ++ c) n z m h

pub no-list : {A : Type 0} (z : A) → and_then (sections_written [] tt) (λ b. is z) ≡ is z
unfolding sections_written
no-list z = refl
