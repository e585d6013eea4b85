-- What a sheet read into three lists of 1,000 places says, for its listing. Assumes nothing.
use Rattle.std.specs.Prelude.{Result, Ok, Err}
use Prim.Native.Nat.{ℕ, ◌≤◌}
use native.Mathlib.Omega.{arith}
use mathlib.Core.Path.{◌≡◌, ap, sym, ◌∙◌, subst}
use mathlib.Core.List.{List}
use lib.ListN.{length, take, drop, length-append}
use Rattle.rule.specs.Lists.{placed}
use Rattle.rule.specs.Reasons.{said, Answer, is, refused, reason_number, afterwards}
use Rattle.rule.specs.declared.Reason.{Reason}
use Rattle.sheet.specs.declared.Counted.{Counted}
use Rattle.sheet.specs.Sheet.{sheet_sections, Lists, lists_in, read_sheet, read_into}
use Rattle.sheet.specs.Faults.{here, later, SheetFault, GoodSections, GoodSheet, GoodEach, GoodLists}
use Rattle.sheet.specs.Promises.{counted, ReadSheet}
use Rattle.sheet.proofs.Deciding.{if-given, if-refused, made_of, refused-of}
use Rattle.sheet.proofs.Reading.{sheet-decided, into-decided}
use Rattle.sheet.proofs.Sheets.{lists-read}
use Rattle.sheet.proofs.Places.{front}

good-lists : (s : List ℕ) → GoodSections sheet_sections s → GoodLists (lists_in s)
unfolding lists_in
good-lists s g = lists-read sheet_sections s g

-- a list filled from the front has room for what filled it
pub fits : (xs old : List ℕ) (n : ℕ) (new : List ℕ) → new ≡ placed xs old → n ≡ length xs → n ≤ length new
fits xs old n new e h = omega (arith, ap length e, length-append xs (drop (length xs) old))

-- a sheet that was read: what it says, where the lists stand, and that its items are in their ranges
module _ {s y m d y' m' d' : List ℕ} {r : Result Counted Reason} (p : ReadSheet s y m d r y' m' d') {c : Counted} (e : r ≡ Ok c) where
  pub read : (l : Lists) × (read_into s (length y) (length m) (length d) ≡ is l) × (c ≡ counted l)
  read = made_of (read_into s (length y) (length m) (length d)) counted c (ap said (sym e) ∙ p.answer)

  stands : (part : Lists → List ℕ) (old new : List ℕ) → new ≡ afterwards (read_into s (length y) (length m) (length d)) part old →
      new ≡ placed (part read.0) old
  stands part old new e = e ∙ ap (λ (a : Answer Lists). afterwards a part old) read.1

  is-good : GoodSheet s (length y) (length m) (length d) × (lists_in s ≡ read.0)
  is-good = if-given (into-decided s (length y) (length m) (length d)) read.0 read.1

  pub sheet-says : read_sheet s ≡ is read.0
  sheet-says = (sheet-decided s).given is-good.0.0 ∙ ap is is-good.1

  -- so many at the front of a list are what the sheet says of it
  front-of : (part : Lists → List ℕ) (n : ℕ) (old new : List ℕ) →
      new ≡ afterwards (read_into s (length y) (length m) (length d)) part old → n ≡ length (part read.0) → take n new ≡ part read.0
  front-of part n old new e h = front (part read.0) old n new (stands part old new e) h

  pub all_there : ◌≡◌ {A = Lists} (record { years = take c.years y'; months = take c.months m'; days = take c.days d' }) read.0
  all_there =
      rw (
        front-of (λ l. l.years) c.years y y' p.years (ap (λ (k : Counted). k.years) read.2),
        front-of (λ l. l.months) c.months m m' p.months (ap (λ (k : Counted). k.months) read.2),
        front-of (λ l. l.days) c.days d d' p.days (ap (λ (k : Counted). k.days) read.2),
      )

  pub all-good : GoodLists read.0
  all-good = subst GoodLists is-good.1 (good-lists s is-good.0.0)

-- a sheet that came back from lists of 1,000 places comes back for its own fault: such lists are never too short
module _ {s y m d y' m' d' : List ℕ} {a : Result Counted Reason} (p : ReadSheet s y m d a y' m' d') {r : Reason} (e : a ≡ Err r)
    (hy : 1000 ≤ length y) (hm : 1000 ≤ length m) (hd : 1000 ≤ length d) where
  own-fault : SheetFault s (length y) (length m) (length d) (reason_number r) → read_sheet s ≡ refused (reason_number r)
  unfolding GoodEach
  own-fault (here f) = (sheet-decided s).told (reason_number r) f
  own-fault (later g f) =
      let l = good-lists s g in
      absurd (f.fails (omega (arith, l.0.0, hy), omega (arith, l.1.0.0, hm), omega (arith, l.1.1.0.0, hd)))

  pub sheet-refused : read_sheet s ≡ refused (reason_number r)
  sheet-refused =
      own-fault
      (if-refused (into-decided s (length y) (length m) (length d)) (reason_number r)
      (refused-of (read_into s (length y) (length m) (length d)) counted (reason_number r) (ap said (sym e) ∙ p.answer)))
