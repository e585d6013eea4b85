-- Laws of both forms: the bytes of a sheet in one and in the other. Assumes nothing.
use Prim.Native.Nat.{ℕ, ◌+◌, ◌*◌}
use native.Mathlib.Omega.{arith}
use mathlib.Core.Path.{◌≡◌, refl, ap, sym, ◌∙◌, subst}
use mathlib.Core.List.{List, [], ◌∷◌, ◌++◌, append_assoc, append-nil}
use lib.ListN.{length, length-append}
use Rattle.rule.proofs.Lists.{empty}
use Rattle.octets.specs.Bytes.{lay, lay_each}
use Rattle.sheet.specs.Sheet.{Section, ranged, year_items, month_items, day_items, sheet_sections, left_after, ListsFor, lists_of, lay_section, lay_sections, Lists, in_order, lists_in, sheet_of}
use Rattle.sheet.specs.Faults.{later, GoodSections, SectionsFault, GoodValues, GoodList, GoodEach, GoodLists}
use Rattle.sheet.proofs.Sheets.{lists-read}
use Rattle.sheet.proofs.Laying.{length-section, length-sheet}
use Rattle.stated.specs.Paper.{AreBytes}
use Rattle.stated.proofs.RoundTrip.{bytes-laid, SmallItems, fit-each, sections-back, sections-again}
use Rattle.stated.proofs.Paper.{all_fit, laid-is-read, read-is-laid}
use Rattle.newsheet.specs.New.{reading_section, new_sections, four_named, four_in}
use Rattle.newsheet.specs.Faults.{NoReadings}

-- a good sheet of one section more has bytes after the others
pub one_more : (ks : List Section) (k : Section) (s : List ℕ) → GoodSections (ks ++ (k ∷ [])) s → SectionsFault ks s 11
unfolding GoodSections SectionsFault
one_more [] k s g = record { fails = λ h. omega (arith, h, g.0.0.0); reason = refl }
one_more (j ∷ ks) k s g = later g.0 (one_more ks k (left_after j s) g.1)

-- three lists and the items of readings, in order
abbrev pub four : Lists → List ℕ → ListsFor new_sections
four l xs = (l.years, (l.months, (l.days, (xs, tt))))

-- the bytes of the new form: those of the old one, and the fourth section
laid-after : (l : Lists) (xs : List ℕ) → lay_sections new_sections (four l xs) ≡ sheet_of l ++ lay_section reading_section xs
unfolding lay_sections sheet_of
laid-after l xs =
    let y : List ℕ = lay_section (ranged year_items) l.years in
    let m : List ℕ = lay_section (ranged month_items) l.months in
    let d : List ℕ = lay_section (ranged day_items) l.days in
    let r : List ℕ = lay_section reading_section xs in
    sym
    (append_assoc y (m ++ (d ++ [])) r
    ∙ ap (λ (t : List ℕ). y ++ t)
    (append_assoc m (d ++ []) r ∙ ap (λ (t : List ℕ). m ++ t) (append_assoc d [] r ∙ ap (λ (t : List ℕ). d ++ t) (sym (append-nil r)))))

no-readings-laid : lay_section reading_section [] ≡ 0 ∷ 0 ∷ []
unfolding lay_section lay lay_each
no-readings-laid = refl

-- good lists, and good items that fit, are read from their bytes
pub four-back : (l : Lists) (xs : List ℕ) → GoodLists l → GoodList reading_section xs → SmallItems reading_section xs →
    GoodSections new_sections (lay_sections new_sections (four l xs)) × (lists_of new_sections (lay_sections new_sections (four l xs)) ≡ four l xs)
unfolding GoodEach
four-back l xs g h f =
    let s = fit-each sheet_sections all_fit (in_order l) g in
    sections-back new_sections (four l xs) (g.0, (g.1.0, (g.1.1.0, (h, tt))))
    (s.0, (s.1.0, (s.1.1.0, (s.1.1.1.0, (s.1.1.1.1.0, (s.1.1.1.1.1.0, (omega arith, (f, tt))))))))

-- a good sheet of the old form with a count of 0 after it is a good one of the new form, of the same lists
pub old-is-new : (s : List ℕ) → AreBytes s → GoodSections sheet_sections s →
    GoodSections new_sections (s ++ (0 ∷ 0 ∷ [])) × (four_in (s ++ (0 ∷ 0 ∷ [])) ≡ record { three = lists_in s; readings = [] })
unfolding four_in GoodValues SmallItems
old-is-new s b g =
    let l = lists_in s in
    let a = read-is-laid s b g in
    let w = four-back l [] a.0 (omega arith, tt) tt in
    let e : lay_sections new_sections (four l []) ≡ s ++ (0 ∷ 0 ∷ []) =
    laid-after l [] ∙ ap (λ (t : List ℕ). sheet_of l ++ t) no-readings-laid ∙ ap (λ (t : List ℕ). t ++ (0 ∷ 0 ∷ [])) a.1
    in
    (subst (GoodSections new_sections) e w.0, ap (λ (t : List ℕ). four_named (lists_of new_sections t)) (sym e) ∙ ap four_named w.1)

-- the lists of a good sheet are good, and it is laid of them
pub new-is-laid : (s : List ℕ) → AreBytes s → GoodSections new_sections s →
    GoodLists (four_in s).three × GoodList reading_section (four_in s).readings × (lay_sections new_sections (four (four_in s).three (four_in s).readings) ≡ s)
unfolding four_in GoodEach lists_of
new-is-laid s b g =
    let h = lists-read new_sections s g in
    ((h.0, (h.1.0, (h.1.1.0, tt))), h.1.1.1.0, sections-again new_sections s b g)

-- a good sheet of the new form without readings is a good one of the old form with a count of 0 after it
pub new-is-old : (s : List ℕ) → AreBytes s → GoodSections new_sections s → NoReadings s →
    (s ≡ sheet_of (four_in s).three ++ (0 ∷ 0 ∷ [])) × GoodSections sheet_sections (sheet_of (four_in s).three)
new-is-old s b g n =
    let h = new-is-laid s b g in
    let l = (four_in s).three in
    let z : (four_in s).readings ≡ [] = empty (four_in s).readings (omega (arith, n)) in (
      sym h.2
          ∙ ap (λ (xs : List ℕ). lay_sections new_sections (four l xs)) z
          ∙ laid-after l []
          ∙ ap (λ (t : List ℕ). sheet_of l ++ t) no-readings-laid,
      (laid-is-read l h.0).0,
    )

-- how many bytes there are
pub length-four : (l : Lists) (xs : List ℕ) →
    length (lay_sections new_sections (four l xs)) ≡ 8 + 2 * length l.years + 4 * length l.months + 4 * length l.days + 14 * length xs
length-four l xs =
    ap length (laid-after l xs)
    ∙ length-append (sheet_of l) (lay_section reading_section xs)
    ∙ omega (arith, length-sheet l, length-section reading_section xs)

pub bytes-four : (l : Lists) (xs : List ℕ) → AreBytes (lay_sections new_sections (four l xs))
bytes-four l xs = bytes-laid new_sections (four l xs)
