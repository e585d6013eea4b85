-- Laws of the fourth section and of the whole sheet of the new form: what checking comes to. Assumes nothing.
use Prim.Native.Nat.{ℕ, ◌+◌, ◌*◌, ◌≤◌, ◌<◌}
use native.Mathlib.Omega.{arith}
use mathlib.Core.Path.{◌≡◌, refl, ap, sym, ◌∙◌}
use mathlib.Core.List.{List, [], ◌∷◌}
use lib.ListN.{length, drop, length-drop}
use borrow.Author.Tests.{le-leb, lt-leb}
use Rattle.rule.specs.Reasons.{Answer, is, refused, and_then}
use Rattle.rule.proofs.Stores.{part-all}
use Rattle.sheet.specs.declared.Counted.{Counted}
use Rattle.sheet.specs.Sheet.{ListsFor, section_read, sections_read, count_of, left_after, sheet_sections}
use Rattle.sheet.specs.Steps.{front_read, bytes_of}
use Rattle.sheet.specs.Promises.{counts_in}
use Rattle.sheet.proofs.Deciding.{made_of, refused-of, stops-there, goes_on}
use Rattle.sheet.proofs.Reading.{Found, found, Three, three-refused, three-then}
use Rattle.newsheet.specs.declared.FourCounts.{FourCounts}
use Rattle.newsheet.specs.New.{reading_section, new_sections}
use Rattle.newsheet.specs.Promises.{four_counts_in}

abbrev fourth : List ℕ → Answer ℕ
fourth s = and_then (sections_read (reading_section ∷ []) s) (λ l. is (count_of s))

-- the fourth section alone
abbrev section : List ℕ → Answer ℕ
section s = and_then (section_read reading_section s) (λ xs. is (count_of s))

module _ (s : List ℕ) where
  pub fourth-bad : (r : ℕ) → section s ≡ refused r → fourth s ≡ refused r
  unfolding sections_read
  fourth-bad r h =
      stops-there (section_read reading_section s) (sections_read [] (left_after reading_section s)) (λ xs l. (xs, l)) (count_of s) (count_of s) r h

  module _ (n : ℕ) (h : section s ≡ is n) where
    pub fourth-found : Found reading_section s s n
    fourth-found = found reading_section s s n refl h

    left : length (left_after reading_section s) + (2 + 14 * n) ≡ length s
    left =
        let f = fourth-found in
        omega (arith, ap length (sym (part-all (2 + 14 * n) s) ∙ f.next), length-drop (2 + 14 * n) s, f.long)

    onward : fourth s ≡ and_then (sections_read [] (left_after reading_section s)) (λ l. is (count_of s))
    unfolding sections_read
    onward = goes_on (section_read reading_section s) (sections_read [] (left_after reading_section s)) (λ xs l. (xs, l)) (count_of s) (count_of s) n h

    pub after-fourth : 2 + 14 * n < length s → fourth s ≡ refused 11
    unfolding sections_read
    after-fourth l = onward ∙ rw (lt-leb (length (left_after reading_section s)) 0 (omega (arith, l, left)))

    pub fourth-whole : length s ≤ 2 + 14 * n → fourth s ≡ is n
    unfolding sections_read
    fourth-whole l = onward ∙ rw (le-leb (length (left_after reading_section s)) 0 (omega (arith, l, left))) (ap is fourth-found.count)

-- the whole sheet
abbrev pub whole : List ℕ → Answer FourCounts
whole s = and_then (sections_read new_sections s) (λ l. is (four_counts_in s))

module _ (s : List ℕ) where
  pub first-bad : (r : ℕ) → and_then (front_read sheet_sections s) (λ l. is (counts_in s)) ≡ refused r → whole s ≡ refused r
  first-bad r h = three-refused s (reading_section ∷ []) r (four_counts_in s) h

  -- the fourth section in the part t behind the three
  module _ (c : Counted) (g : Three s c) (t : List ℕ) (e : t ≡ drop (bytes_of c) s) where
    onward-four : whole s ≡ and_then (sections_read (reading_section ∷ []) t) (λ l. is (four_counts_in s))
    onward-four =
        three-then s (reading_section ∷ []) c (four_counts_in s) g
        ∙ ap (λ (u : List ℕ). and_then (sections_read (reading_section ∷ []) u) (λ l. is (four_counts_in s))) (sym e)

    pub last-bad : (r : ℕ) → fourth t ≡ refused r → whole s ≡ refused r
    last-bad r h =
        onward-four
        ∙ ap (λ (a : Answer (ListsFor (reading_section ∷ []))). and_then a (λ l. is (four_counts_in s)))
        (refused-of (sections_read (reading_section ∷ []) t) (λ l. count_of t) r (sym h))

    pub all-good : (n : ℕ) → fourth t ≡ is n → whole s ≡ is (record { three = c; readings = n })
    all-good n h =
        let w = made_of (sections_read (reading_section ∷ []) t) (λ l. count_of t) n (sym h) in
        onward-four
        ∙ ap (λ (a : Answer (ListsFor (reading_section ∷ []))). and_then a (λ l. is (four_counts_in s))) w.1
        ∙ rw (g.counts, g.next, ← e, ← w.2)
