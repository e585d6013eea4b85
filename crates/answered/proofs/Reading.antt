-- What a sheet of the new form read into lists with room for the most items says, for its answers. Assumes nothing.
use Rattle.std.specs.Prelude.{Result, Ok, Err}
use Prim.Native.Nat.{ℕ, ◌*◌, ◌≤◌}
use native.Mathlib.Omega.{arith}
use mathlib.Core.Path.{◌≡◌, ap, sym, ◌∙◌, subst}
use mathlib.Core.List.{List}
use lib.ListN.{length, take}
use Rattle.rule.specs.Lists.{placed}
use Rattle.rule.specs.Reasons.{said, Answer, is, refused, reason_number, afterwards}
use Rattle.rule.specs.declared.Reason.{Reason}
use Rattle.sheet.specs.Sheet.{Lists}
use Rattle.sheet.specs.Faults.{here, later, GoodSections, GoodEach, GoodLists}
use Rattle.sheet.proofs.Deciding.{if-given, if-refused, made_of, refused-of}
use Rattle.sheet.proofs.Sheets.{lists-read}
use Rattle.sheet.proofs.Places.{front}
use Rattle.listed.proofs.Reading.{fits}
use Rattle.newsheet.specs.declared.FourCounts.{FourCounts}
use Rattle.newsheet.specs.New.{eights, new_sections, Four, four_in, read_new, read_new_into}
use Rattle.newsheet.specs.Faults.{NewFault, GoodNew}
use Rattle.newsheet.specs.Promises.{counted_four, ReadNew}
use Rattle.newsheet.proofs.Eights.{length-eights}
use Rattle.newsheet.proofs.Calls.{new-decided, into-four-decided}

-- the lists of a good sheet are good, and its readings few
good-lists : (s : List ℕ) → GoodSections new_sections s → GoodLists (four_in s).three × (length (four_in s).readings ≤ 500)
unfolding four_in GoodEach
good-lists s g = let h = lists-read new_sections s g in ((h.0, (h.1.0, (h.1.1.0, tt))), h.1.1.1.0.0)

-- a sheet that was read: what it says, where the lists stand, and that its items are in their ranges
module _ {s y m d n y' m' d' n' : List ℕ} {r : Result FourCounts Reason} (p : ReadNew s y m d n r y' m' d' n') {c : FourCounts} (e : r ≡ Ok c) where
  abbrev answered : Answer Four
  answered = read_new_into s (length y) (length m) (length d) (length n)

  pub read : (l : Four) × (answered ≡ is l) × (c ≡ counted_four l)
  read = made_of answered counted_four c (ap said (sym e) ∙ p.answer)

  stands : (part : Four → List ℕ) (old new : List ℕ) → new ≡ afterwards answered part old → new ≡ placed (part read.0) old
  stands part old new e = e ∙ ap (λ (a : Answer Four). afterwards a part old) read.1

  is-good : GoodNew s (length y) (length m) (length d) (length n) × (four_in s ≡ read.0)
  is-good = if-given (into-four-decided s (length y) (length m) (length d) (length n)) read.0 read.1

  pub sheet-says : read_new s ≡ is read.0
  sheet-says = (new-decided s).given is-good.0.0 ∙ ap is is-good.1

  -- a list of it, at the front of the one that was lent
  there : (part : Four → List ℕ) (k : ℕ) (old new : List ℕ) → k ≡ length (part read.0) → new ≡ afterwards answered part old →
      (take k new ≡ part read.0) × (k ≤ length new) × (k ≡ length (take k new))
  there part k old new i e =
      let f = stands part old new e in
      let t = front (part read.0) old k new f i in
      (t, fits (part read.0) old k new f i, i ∙ ap length (sym t))

  years-there : (take c.three.years y' ≡ read.0.three.years) × (c.three.years ≤ length y') × (c.three.years ≡ length (take c.three.years y'))
  years-there = there (λ l. l.three.years) c.three.years y y' (ap (λ (k : FourCounts). k.three.years) read.2) p.years

  pub months-there : (take c.three.months m' ≡ read.0.three.months) × (c.three.months ≤ length m')
      × (c.three.months ≡ length (take c.three.months m'))
  months-there = there (λ l. l.three.months) c.three.months m m' (ap (λ (k : FourCounts). k.three.months) read.2) p.months

  days-there : (take c.three.days d' ≡ read.0.three.days) × (c.three.days ≤ length d') × (c.three.days ≡ length (take c.three.days d'))
  days-there = there (λ l. l.three.days) c.three.days d d' (ap (λ (k : FourCounts). k.three.days) read.2) p.days

  pub how-many : c.readings ≡ length read.0.readings
  how-many = ap (λ (k : FourCounts). k.readings) read.2

  pub numbers-there : take (8 * c.readings) n' ≡ eights read.0.readings
  numbers-there =
      (there (λ l. eights l.readings) (8 * c.readings) n n' (omega (arith, how-many, length-eights read.0.readings)) p.readings).0

  pub all_there : ◌≡◌ {A = Lists}
      (record { years = take c.three.years y'; months = take c.three.months m'; days = take c.three.days d' }) read.0.three
  all_there = rw (years-there.0, months-there.0, days-there.0)

  pub all-good : GoodLists read.0.three
  all-good = subst (λ (l : Four). GoodLists l.three) is-good.1 (good-lists s is-good.0.0).0

  pub few : c.readings ≤ 500
  few = omega (arith, (good-lists s is-good.0.0).1, how-many, ap (λ (l : Four). length l.readings) is-good.1)

-- a sheet that came back from lists with room for the most items comes back for its own fault: such lists are never too short
module _ {s y m d n y' m' d' n' : List ℕ} {a : Result FourCounts Reason} (p : ReadNew s y m d n a y' m' d' n') {r : Reason} (e : a ≡ Err r)
    (hy : 1000 ≤ length y) (hm : 1000 ≤ length m) (hd : 1000 ≤ length d) (hn : 4000 ≤ length n) where
  own-fault : NewFault s (length y) (length m) (length d) (length n) (reason_number r) → read_new s ≡ refused (reason_number r)
  unfolding GoodEach
  own-fault (here f) = (new-decided s).told (reason_number r) f
  own-fault (later g f) =
      let l = good-lists s g in
      absurd
      (f.fails
      ((omega (arith, l.0.0.0, hy), omega (arith, l.0.1.0.0, hm), omega (arith, l.0.1.1.0.0, hd)), omega (arith, l.1, hn)))

  pub sheet-refused : read_new s ≡ refused (reason_number r)
  sheet-refused =
      own-fault
      (if-refused (into-four-decided s (length y) (length m) (length d) (length n)) (reason_number r)
      (refused-of (read_new_into s (length y) (length m) (length d) (length n)) counted_four (reason_number r) (ap said (sym e) ∙ p.answer)))
