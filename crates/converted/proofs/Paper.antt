-- The statements of specs/Paper, proved under their own names, and what follows for a room into which an input was read. Assumes nothing.
use Rattle.std.specs.Prelude.{Result, Ok, Err, IfOk, MatchResult, Option}
use Rattle.std.specs.Io.KnownBytes.{Appends}
use Rattle.penned.specs.Lines.{refused_line}
use Rattle.rule.specs.declared.Reason.{Reason}
use Prim.Native.Nat.{ℕ, ◌+◌, ◌*◌, ◌≤◌, ◌<◌}
use native.Mathlib.Omega.{arith}
use native.Mathlib.Decide.{dec_lt}
use mathlib.Core.Path.{◌≡◌, ap, sym, subst, ◌∙◌}
use mathlib.Core.Logic.{◌⊎◌, inl, inr, ⊎_elim}
use mathlib.Core.List.{List, [], ◌∷◌}
use lib.ListN.{length, take, drop, length-append, length-drop}
use lib.Seq.{take_all}
use Rattle.rule.specs.Reasons.{said, Answer, is, refused, reason_number, and_then, afterwards}
use Rattle.sheet.specs.Sheet.{ListsFor, sheet_sections, named, read_sheet, count_of, left_after}
use Rattle.sheet.specs.Faults.{here, later, GoodSections, SectionsFault}
use Rattle.sheet.specs.Steps.{bytes_of}
use Rattle.sheet.specs.Promises.{counts_in}
use Rattle.sheet.proofs.Deciding.{if-refused, made_of, refused-of}
use Rattle.sheet.proofs.Places.{front}
use Rattle.sheet.proofs.Reading.{sheet-decided, three-good}
use Rattle.sheet.proofs.Sheets.{front-and-rest}
use Rattle.listed.specs.Paper.{TakenInto}
use Rattle.listed.proofs.Fronts.{sections-taken}
use Rattle.newsheet.specs.New.{reading_section, new_sections, four_named, four_in, read_new, to_new, to_old}
use Rattle.newsheet.specs.Faults.{ToNewFault, ToOldFault, NoReadings}
use Rattle.newsheet.specs.Promises.{readings_part, ToNew, ToOld}
use Rattle.newsheet.proofs.Calls.{new-decided, to-new-decided, to-old-decided, counted-four}
use Rattle.converted.specs.Paper as Paper

-- the lengths of good sheets
old-size : (s : List ℕ) → GoodSections sheet_sections s → length s ≤ 10006
unfolding GoodSections
old-size s g =
    let w = front-and-rest sheet_sections [] s g in
    let t = three-good s w.0 in
    omega (arith, w.1, t.few.years, t.few.months, t.few.days, t.long, ap length t.next, length-drop (bytes_of (counts_in s)) s)

-- a good sheet of the new form with so many readings
new-size : (s : List ℕ) → GoodSections new_sections s → (k : ℕ) → length (four_in s).readings ≤ k → length s ≤ 10008 + 14 * k
unfolding GoodSections left_after
new-size s g k h =
    let w = front-and-rest sheet_sections (reading_section ∷ []) s g in
    let t = three-good s w.0 in
    let c : length (four_in s).readings ≡ count_of (readings_part s) = ap (λ c. c.readings) (counted-four s) in
    omega (
      arith,
      h,
      c,
      w.1.1,
      t.few.years,
      t.few.months,
      t.few.days,
      t.long,
      ap length t.next,
      length-drop (bytes_of (counts_in s)) s,
      length-drop (2 + 14 * count_of (readings_part s)) (readings_part s),
    )

-- the front of an input is read as the whole, in either form
old-front : (s : List ℕ) → read_sheet (take Paper.old_held s) ≡ read_sheet s
unfolding read_sheet
old-front s =
    ap (λ (a : Answer (ListsFor sheet_sections)). and_then a (λ l. is (named l))) (sections-taken sheet_sections Paper.old_held (omega arith) s)

new-front : (s : List ℕ) → read_new (take Paper.new_held s) ≡ read_new s
unfolding read_new
new-front s =
    ap (λ (a : Answer (ListsFor new_sections)). and_then a (λ l. is (four_named l))) (sections-taken new_sections Paper.new_held (omega arith) s)

-- what is refused in reading is refused in converting
new-refused : (s : List ℕ) (n r : ℕ) → read_sheet s ≡ refused r → to_new s n ≡ refused r
unfolding to_new
new-refused s n r h = rw (h)

old-refused : (s : List ℕ) (n r : ℕ) → read_new s ≡ refused r → to_old s n ≡ refused r
unfolding to_old
old-refused s n r h = rw (h)

-- a good sheet is not longer than what is held
few-readings : (s : List ℕ) → GoodSections new_sections s → length (four_in s).readings ≤ 500
unfolding GoodSections
few-readings s g =
    let c : length (four_in s).readings ≡ count_of (readings_part s) = ap (λ c. c.readings) (counted-four s) in
    omega (arith, c, (front-and-rest sheet_sections (reading_section ∷ []) s g).1.0.0.1)

pub front-is-enough : Paper.FrontIsEnough
front-is-enough =
    record {
      to-new = λ s n. new s n (dec_lt Paper.old_held (length s));
      to-old = λ s n. old s n (dec_lt Paper.new_held (length s));
    }
  where
    new : (s : List ℕ) (n : ℕ) → Dec (Paper.old_held < length s) → to_new (take Paper.old_held s) n ≡ to_new s n
    new s n (no g) = ap (λ (t : List ℕ). to_new t n) (take_all Paper.old_held s (omega (arith, g)))
    new s n (yes l) =
        ⊎_elim (λ (f : (r : ℕ) × SectionsFault sheet_sections s r).
        let h = (sheet-decided s).told f.0 f.1 in
        new-refused (take Paper.old_held s) n f.0 (old-front s ∙ h) ∙ sym (new-refused s n f.0 h))
        (λ (g : GoodSections sheet_sections s). absurd (omega (arith, l, old-size s g))) (sheet-decided s).decided

    old : (s : List ℕ) (n : ℕ) → Dec (Paper.new_held < length s) → to_old (take Paper.new_held s) n ≡ to_old s n
    old s n (no g) = ap (λ (t : List ℕ). to_old t n) (take_all Paper.new_held s (omega (arith, g)))
    old s n (yes l) =
        ⊎_elim (λ (f : (r : ℕ) × SectionsFault new_sections s r).
        let h = (new-decided s).told f.0 f.1 in
        old-refused (take Paper.new_held s) n f.0 (new-front s ∙ h) ∙ sym (old-refused s n f.0 h))
        (λ (g : GoodSections new_sections s). absurd (omega (arith, l, new-size s g 500 (few-readings s g)))) (new-decided s).decided

pub never-too-short : Paper.NeverTooShort
never-too-short =
    record {
      to-new = λ s n k h e. new s n k h (if-refused (to-new-decided s n) k e);
      to-old = λ s n k h e. old s n k h (if-refused (to-old-decided s n) k e);
    }
  where
    new : (s : List ℕ) (n k : ℕ) → 10008 ≤ n → ToNewFault s n k → read_sheet s ≡ refused k
    new s n k h (here f) = (sheet-decided s).told k f
    new s n k h (later g f) = absurd (f.fails (omega (arith, h, old-size s g)))

    old : (s : List ℕ) (n k : ℕ) → 10006 ≤ n → ToOldFault s n k → (read_new s ≡ refused k) ⊎ ((k ≡ 17) × (NoReadings s → ⊥))
    old s n k h (here f) = inl ((new-decided s).told k f)
    old s n k h (later g (here f)) = inr (f.reason, f.fails)
    old s n k h (later g (later z f)) = absurd (f.fails (omega (arith, h, new-size s g 0 z)))

-- what was taken of an input is converted as the whole
module _ (room : List ℕ) (n : ℕ) (s out : List ℕ) (r : Result ℕ Reason) (out' : List ℕ) (e : TakenInto room n s) where
  pub taken-new : Paper.old_held ≡ length room → ToNew (take n room) out r out' → ToNew s out r out'
  taken-new h p =
      let f : to_new (take n room) (length out) ≡ to_new s (length out) =
      ap (λ (t : List ℕ). to_new t (length out)) (e ∙ ap (λ (k : ℕ). take k s) (sym h)) ∙ front-is-enough.to-new s (length out)
      in
      record { answer = rw (f) at p.answer; buffer = rw (f) at p.buffer }

  pub taken-old : Paper.new_held ≡ length room → ToOld (take n room) out r out' → ToOld s out r out'
  taken-old h p =
      let f : to_old (take n room) (length out) ≡ to_old s (length out) =
      ap (λ (t : List ℕ). to_old t (length out)) (e ∙ ap (λ (k : ℕ). take k s) (sym h)) ∙ front-is-enough.to-old s (length out)
      in
      record { answer = rw (f) at p.answer; buffer = rw (f) at p.buffer }

-- so many bytes as are answered lie in the buffer
pub inside : (made : Answer (List ℕ)) (o o' : List ℕ) (r : Result ℕ Reason) →
    said r ≡ and_then made (λ b. is (length b)) → o' ≡ afterwards made (λ b. b) o → IfOk r (λ m. m ≤ length o')
inside made o o' (Err why) p q = tt
inside made o o' (Ok k) p q =
    let w = made_of made length k p in
    let f = q ∙ ap (λ (a : Answer (List ℕ)). afterwards a (λ b. b) o) w.1 in
    omega (arith, w.2, ap length f, length-append w.0 (drop (length w.0) o))

-- what is handed on is what the conversion makes
pub given : (made : Answer (List ℕ)) (o o' : List ℕ) (r : Result ℕ Reason) (to to' errors errors' : Option (List ℕ)) →
    said r ≡ and_then made (λ b. is (length b)) → o' ≡ afterwards made (λ b. b) o →
    MatchResult r (λ m. Appends to to' (take m o')) (λ why. Appends errors errors' (refused_line (reason_number why))) →
    Paper.Given made to to' errors errors'
given made o o' (Err why) to to' errors errors' p q h = rw (refused-of made length (reason_number why) p) h
given made o o' (Ok k) to to' errors errors' p q h =
    let w = made_of made length k p in
    let f = q ∙ ap (λ (a : Answer (List ℕ)). afterwards a (λ b. b) o) w.1 in
    rw (w.1) (subst (Appends to to') (front w.0 o k o' f w.2) h)
