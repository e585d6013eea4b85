-- Laws of the calls: what decides each answer, and what each comes to. Assumes nothing.
use Rattle.std.specs.Prelude.{Ok, Err}
use Prim.Native.Nat.{ℕ, ◌+◌, ◌-◌, ◌*◌, ◌≤◌, ◌<◌}
use native.Mathlib.Nat.{zero-add}
use native.Mathlib.Numerals.{add-one}
use native.Mathlib.Omega.{arith}
use mathlib.Core.Path.{◌≡◌, refl, ap, sym, ◌∙◌, subst}
use mathlib.Core.Logic.{◌↔◌}
use mathlib.Core.Bool.{Bool, true, false, ◌&&◌}
use mathlib.Core.List.{List, [], ◌∷◌, ◌++◌}
use lib.Dec.{leb}
use lib.ListN.{length, take, drop, set, length-append}
use lib.Seq.{sets, length-take-le}
use Rattle.rule.specs.Lists.{placed}
use Rattle.rule.specs.Reasons.{Answer, is, refused, reason_number, guard, and_then, into_room}
use Rattle.rule.specs.declared.Reason.{Reason}
use Rattle.rule.proofs.Answers.{both_true, at_most, fails}
use Rattle.rule.proofs.Stores.{from_front, sets-append}
use Rattle.octets.specs.Bytes.{numbers}
use Rattle.sheet.specs.declared.Counted.{Counted}
use Rattle.sheet.specs.Sheet.{sections_read, sheet_sections, lists_of, lists_in, items_of, count_of, months_part, days_part}
use Rattle.sheet.specs.Faults.{here, later, Row, GoodSections, SectionsFault, HasRoom}
use Rattle.sheet.specs.Steps.{left_over, bytes_of, ToFill}
use Rattle.sheet.specs.Promises.{counts_in}
use Rattle.sheet.proofs.Deciding.{Decides, asks, asks-first, and-then, made-into, if-given, if-refused}
use Rattle.sheet.proofs.Reading.{sections-decided, sheet-decided, room-iff, section-long, Three, three-good}
use Rattle.sheet.proofs.Sheets.{length-numbers, front-and-rest}
use Rattle.newsheet.specs.declared.FourCounts.{FourCounts}
use Rattle.newsheet.specs.New.{eights, reading_section, new_sections, Four, four_named, four_in, read_new, room_for_four, read_new_into, to_new, to_old}
use Rattle.newsheet.specs.Faults.{HasRoomForFour, GoodNew, NewFault, GoodToNew, ToNewFault, NoReadings, GoodToOld, ToOldFault}
use Rattle.newsheet.specs.Promises.{counted_four, four_counts_in, readings_part, ReadNew, ToNew, ToOld, ToFillNew, FilledNew}
use Rattle.newsheet.proofs.Eights.{length-eights}

-- each reason comes from the first fault, and what is given from there being none
pub new-decided : (s : List ℕ) → Decides (read_new s) (four_in s) (SectionsFault new_sections s) (GoodSections new_sections s)
unfolding read_new four_in
new-decided s = made-into (sections-decided new_sections s) four_named

room-four-iff : (l : Four) (y m d n : ℕ) → (room_for_four l y m d n ≡ true) ↔ HasRoomForFour l y m d n
room-four-iff l y m d n =
    both_true _ (leb (8 * length l.readings) n)
    (room-iff (length l.three.years) (length l.three.months) (length l.three.days) y m d) (at_most (8 * length l.readings) n)

pub into-four-decided : (s : List ℕ) (y m d n : ℕ) → Decides (read_new_into s y m d n) (four_in s) (NewFault s y m d n) (GoodNew s y m d n)
unfolding read_new_into
into-four-decided s y m d n =
    and-then (new-decided s) (λ l. guard (room_for_four l y m d n) 12 (is l))
    (asks (room_for_four (four_in s) y m d n) 12 (room-four-iff (four_in s) y m d n) (four_in s))

-- a list into a buffer that has room for so many bytes
into-room : (b : List ℕ) (k n : ℕ) → length b ≡ k → Decides (into_room n b) b (Row (k ≤ n) 12) (k ≤ n)
into-room b k n e =
    asks (leb (length b) n) 12 (λ h. omega (arith, (at_most (length b) n).0 h, e), λ h. (at_most (length b) n).1 (omega (arith, h, e))) b

pub to-new-decided : (s : List ℕ) (n : ℕ) → Decides (to_new s n) (s ++ (0 ∷ 0 ∷ [])) (ToNewFault s n) (GoodToNew s n)
unfolding to_new
to-new-decided s n =
    and-then (sheet-decided s) (λ l. into_room n (s ++ (0 ∷ 0 ∷ []))) (into-room (s ++ (0 ∷ 0 ∷ [])) (length s + 2) n (length-append s (0 ∷ 0 ∷ [])))

pub to-old-decided : (s : List ℕ) (n : ℕ) → Decides (to_old s n) (take (length s - 2) s) (ToOldFault s n) (GoodToOld s n)
unfolding to_old
to-old-decided s n =
    and-then (new-decided s) (λ l. guard (leb (length l.readings) 0) 17 (into_room n (take (length s - 2) s)))
    (asks-first (leb (length (four_in s).readings) 0) 17 (at_most (length (four_in s).readings) 0)
    (into-room (take (length s - 2) s) (length s - 2) n (length-take-le (length s - 2) s (omega arith))))

-- the counts of the lists are those that stand in the sheet
pub counted-four : (s : List ℕ) → counted_four (four_in s) ≡ four_counts_in s
unfolding four_in lists_of items_of left_over
counted-four s =
    rw (
      length-numbers 2 (count_of s) (drop 2 s),
      length-numbers 4 (count_of (months_part s)) (drop 2 (months_part s)),
      length-numbers 4 (count_of (days_part s)) (drop 2 (days_part s)),
      length-numbers 14 (count_of (readings_part s)) (drop 2 (readings_part s)),
    )

-- a sheet that is to be filled from: its three sections, and the fourth behind them
module _ {s : List ℕ} {y m d n : ℕ} {c : FourCounts} (a : ToFillNew s y m d n c) where
  parts : GoodSections (reading_section ∷ []) (left_over sheet_sections s)
  parts = (front-and-rest sheet_sections (reading_section ∷ []) s a.good.0).1

  three-counts : c.three ≡ counts_in s
  three-counts = ap (λ (c : FourCounts). c.three) a.counts

  pub fill-three : ToFill s y m d c.three
  unfolding four_in lists_in lists_of
  fill-three = record { counts = three-counts; good = ((front-and-rest sheet_sections (reading_section ∷ []) s a.good.0).0, a.good.1.0) }

  pub three-there : Three s c.three
  three-there = subst (Three s) (sym three-counts) (three-good s fill-three.good.0)

  readings-count : count_of (left_over sheet_sections s) ≡ c.readings
  readings-count = sym (ap (λ (c : FourCounts). c.readings) a.counts)

  pub readings-few : c.readings ≤ 500
  unfolding GoodSections
  readings-few = omega (arith, readings-count, parts.0.0.1)

  pub readings-long : (t : List ℕ) → t ≡ drop (bytes_of c.three) s → 2 + 14 * c.readings ≤ length t
  unfolding GoodSections
  readings-long t e =
      let l = section-long reading_section (left_over sheet_sections s) parts.0 in
      omega (arith, l, readings-count, ap length three-there.next, ap length e)

  pub readings-room : 8 * c.readings ≤ n
  readings-room = let e : counted_four (four_in s) ≡ c = counted-four s ∙ sym a.counts in omega (arith, a.good.1.1, ap (λ (c : FourCounts). c.readings) e)

  pub readings-stored : (t : List ℕ) → t ≡ drop (bytes_of c.three) s → numbers 14 c.readings (drop 2 t) ≡ items_of reading_section (readings_part s)
  unfolding items_of
  readings-stored t e = rw (e, ← three-there.next, ← readings-count)

-- what is read, and what is refused
module _ (s y m d n : List ℕ) where
  abbrev answered : Answer Four
  answered = read_new_into s (length y) (length m) (length d) (length n)

  pub read-new-refused : (r : Reason) → answered ≡ refused (reason_number r) → ReadNew s y m d n (Err r) y m d n
  read-new-refused r h = record { answer = rw (h); years = rw (h); months = rw (h); days = rw (h); readings = rw (h) }

  pub read-new-given : (l : Four) (c : FourCounts) → c ≡ counted_four l → answered ≡ is l →
      ReadNew s y m d n (Ok c) (placed l.three.years y) (placed l.three.months m) (placed l.three.days d) (placed (eights l.readings) n)
  read-new-given l c e h = record { answer = rw (h) (ap is e); years = rw (h); months = rw (h); days = rw (h); readings = rw (h) }

  pub read-new-bad : (r : ℕ) → and_then (sections_read new_sections s) (λ l. is (four_counts_in s)) ≡ refused r → answered ≡ refused r
  read-new-bad r h =
      (into-four-decided s (length y) (length m) (length d) (length n)).told r
      (here (if-refused (made-into (sections-decided new_sections s) (λ l. four_counts_in s)) r h))

  module _ (c : FourCounts) (h : and_then (sections_read new_sections s) (λ l. is (four_counts_in s)) ≡ is c) where
    found_all : GoodSections new_sections s × (four_counts_in s ≡ c)
    found_all = if-given (made-into (sections-decided new_sections s) (λ l. four_counts_in s)) c h

    counts : c ≡ counted_four (four_in s)
    counts = sym (counted-four s ∙ found_all.1)

    pub few-readings : c.readings ≤ 500
    unfolding GoodSections
    few-readings =
        omega (
          arith,
          (front-and-rest sheet_sections (reading_section ∷ []) s found_all.0).1.0.0.1,
          ap (λ (c : FourCounts). c.readings) found_all.1,
        )

    -- no room for the three, or for the readings
    short : (HasRoomForFour (four_in s) (length y) (length m) (length d) (length n) → ⊥) → answered ≡ refused 12
    short f = (into-four-decided s (length y) (length m) (length d) (length n)).told 12 (later found_all.0 (record { fails = f; reason = refl }))

    pub readings-short : length n < 8 * c.readings → answered ≡ refused 12
    readings-short l = short (λ g. omega (arith, g.1, l, ap (λ (c : FourCounts). c.readings) counts))

    module _ (b : Bool) (e : b ≡ (leb c.three.years (length y) && leb c.three.months (length m) && leb c.three.days (length d))) where
      has-three : ((leb c.three.years (length y) && leb c.three.months (length m) && leb c.three.days (length d)) ≡ true)
          ↔ HasRoom (four_in s).three (length y) (length m) (length d)
      has-three = rw (counts) (room-iff _ _ _ (length y) (length m) (length d))

      pub three-short : b ≡ false → answered ≡ refused 12
      three-short o = short (λ g. (fails _ has-three).0 (sym e ∙ o) g.0)

      pub to-fill-new : b ≡ true → 8 * c.readings ≤ length n → ToFillNew s (length y) (length m) (length d) (length n) c
      to-fill-new o l =
          record {
            counts = sym found_all.1;
            good = (found_all.0, (has-three.0 (sym e ∙ o), omega (arith, l, ap (λ (c : FourCounts). c.readings) counts)));
          }

      pub read-new-filled : b ≡ true → 8 * c.readings ≤ length n → (y' m' d' n' : List ℕ) → FilledNew s y m d n y' m' d' n' →
          ReadNew s y m d n (Ok c) y' m' d' n'
      unfolding four_in lists_in lists_of left_over
      read-new-filled o r y' m' d' n' w =
          let g = (to-fill-new o r).good in
          let l : Four = four_in s in
          rw (
            w.three.years ∙ from_front l.three.years y g.1.0.0,
            w.three.months ∙ from_front l.three.months m g.1.0.1,
            w.three.days ∙ from_front l.three.days d g.1.0.2,
            w.readings ∙ from_front (eights l.readings) n (omega (arith, length-eights l.readings, g.1.1)),
          )
          (read-new-given l c counts ((into-four-decided s (length y) (length m) (length d) (length n)).given g))

-- what is converted
module _ (s o : List ℕ) where
  pub to-new-refused : (r : Reason) → to_new s (length o) ≡ refused (reason_number r) → ToNew s o (Err r) o
  to-new-refused r h = record { answer = rw (h); buffer = rw (h) }

  pub to-new-given : (b : List ℕ) → to_new s (length o) ≡ is b → ToNew s o (Ok (length b)) (placed b o)
  to-new-given b h = record { answer = rw (h); buffer = rw (h) }

  pub to-new-bad : (r : ℕ) → and_then (sections_read sheet_sections s) (λ l. is (counts_in s)) ≡ refused r → to_new s (length o) ≡ refused r
  to-new-bad r h = (to-new-decided s (length o)).told r (here (if-refused (made-into (sections-decided sheet_sections s) (λ l. counts_in s)) r h))

  module _ (c : Counted) (h : and_then (sections_read sheet_sections s) (λ l. is (counts_in s)) ≡ is c) where
    old-good : GoodSections sheet_sections s
    old-good = (if-given (made-into (sections-decided sheet_sections s) (λ l. counts_in s)) c h).0

    pub to-new-short : length o < length s + 2 → to_new s (length o) ≡ refused 12
    to-new-short l = (to-new-decided s (length o)).told 12 (later old-good (record { fails = λ g. omega (arith, g, l); reason = refl }))

    -- the bytes copied, and two more put behind them
    pub to-new-copied : length s + 2 ≤ length o → ToNew s o (Ok (length s + 2)) (set (set (s ++ drop (length s) o) (length s) 0) (length s + 1) 0)
    to-new-copied l =
        let z : List ℕ = 0 ∷ 0 ∷ [] in
        let b : List ℕ = s ++ z in
        let e : length b ≡ length s + 2 = length-append s z in
        let f : set (set (s ++ drop (length s) o) (length s) 0) (length s + 1) 0 ≡ placed b o =
        ap (λ (j : ℕ). set (set (placed s o) (length s) 0) j 0) (add-one (length s))
        ∙ ap (λ (u : List ℕ). sets u (length s) z) (sym (from_front s o (omega (arith, l))))
        ∙ ap (λ (j : ℕ). sets (sets o 0 s) j z) (sym (zero-add (length s)))
        ∙ sym (sets-append s z o 0)
        ∙ from_front b o (omega (arith, l, e)) in
        rw (f, ← e) (to-new-given b ((to-new-decided s (length o)).given (old-good, l)))

  pub to-old-refused : (r : Reason) → to_old s (length o) ≡ refused (reason_number r) → ToOld s o (Err r) o
  to-old-refused r h = record { answer = rw (h); buffer = rw (h) }

  pub to-old-given : (b : List ℕ) → to_old s (length o) ≡ is b → ToOld s o (Ok (length b)) (placed b o)
  to-old-given b h = record { answer = rw (h); buffer = rw (h) }

  pub to-old-bad : (r : ℕ) → and_then (sections_read new_sections s) (λ l. is (four_counts_in s)) ≡ refused r → to_old s (length o) ≡ refused r
  to-old-bad r h = (to-old-decided s (length o)).told r (here (if-refused (made-into (sections-decided new_sections s) (λ l. four_counts_in s)) r h))

  module _ (c : FourCounts) (h : and_then (sections_read new_sections s) (λ l. is (four_counts_in s)) ≡ is c) where
    new-good : GoodSections new_sections s × (four_counts_in s ≡ c)
    new-good = if-given (made-into (sections-decided new_sections s) (λ l. four_counts_in s)) c h

    many : length (four_in s).readings ≡ c.readings
    many = ap (λ (c : FourCounts). c.readings) (counted-four s ∙ new-good.1)

    pub two-at-least : 2 ≤ length s
    unfolding GoodSections
    two-at-least = new-good.0.0.0.0

    pub to-old-present : 0 < c.readings → to_old s (length o) ≡ refused 17
    to-old-present l =
        (to-old-decided s (length o)).told 17 (later new-good.0 (here (record { fails = λ g. omega (arith, g, l, many); reason = refl })))

    module _ (z : c.readings ≤ 0) where
      none : NoReadings s
      none = omega (arith, z, many)

      pub to-old-short : length o < length s - 2 → to_old s (length o) ≡ refused 12
      to-old-short l =
          (to-old-decided s (length o)).told 12 (later new-good.0 (later none (record { fails = λ g. omega (arith, g, l); reason = refl })))

      pub to-old-copied : length s - 2 ≤ length o → ToOld s o (Ok (length s - 2)) (take (length s - 2) s ++ drop (length s - 2) o)
      to-old-copied l =
          let b : List ℕ = take (length s - 2) s in
          let e : length b ≡ length s - 2 = length-take-le (length s - 2) s (omega arith) in
          rw (e) at (to-old-given b ((to-old-decided s (length o)).given (new-good.0, (none, l))))
