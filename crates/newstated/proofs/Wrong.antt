-- Wrong versions of the calls on the new form, each shut out at a named input. Assumes nothing.
use Prim.Native.Nat.{ℕ}
use native.Mathlib.Omega.{arith}
use mathlib.Core.Path.{◌≡◌, refl, sym}
use Rattle.rule.specs.Reasons.{Answer, is, refused, reason_number}
use Rattle.reading.specs.Readings.{in_ranges}
use Rattle.octets.specs.Bytes.{lay}
use Rattle.sheet.specs.Promises.{counts_are}
use Rattle.sheet.proofs.Reading.{reading}
use Rattle.sheet.proofs.Places.{unlike}
use Rattle.newsheet.specs.declared.FourCounts.{FourCounts}
use Rattle.newsheet.specs.New.{eight_in, eight_of, eights, tested, four_in, read_new, read_new_into, to_new, to_old}
use Rattle.newstated.specs.Paper as Paper

-- what the new form is computed with: on an `unfolding` line this name brings all that its own line names
unfoldable pub renewing : ℕ
unfolding reading lay eight_in eight_of eights tested in_ranges four_in read_new read_new_into to_new to_old
renewing = 0

-- an answer that is given is not refused, and reasons with other numbers are others
given-refused : {A P : Type 0} (x : A) (k : ℕ) → ◌≡◌ {A = Answer A} (is x) (refused k) → P
given-refused x k e = absurd (let z : ◌≡◌ {A = ℕ} 0 1 = cc in omega arith)

refused-given : {A P : Type 0} (x : A) (k : ℕ) → ◌≡◌ {A = Answer A} (refused k) (is x) → P
refused-given x k e = absurd (let z : ◌≡◌ {A = ℕ} 0 1 = cc in omega arith)

other-reason : {A : Type 0} (j k : ℕ) → ◌≡◌ {A = Answer A} (refused j) (refused k) → j ≡ k
other-reason j k e = cc

pub wrong-new-sheets : Paper.WrongNewSheets
unfolding renewing
wrong-new-sheets =
    record {
      refusing-all = λ why y m d n p. refused-given (record { three = counts_are 0 0 0; readings = 0 }) (reason_number why) p.answer;
      old-sheet-taken-for-new = λ c y m d n p. given-refused c 9 p.answer;
      filling-none = λ a y m d p. unlike 0 7 22 p.readings refl refl (omega arith);
      window-before-the-fields = λ a y m d p. unlike 1 1 515 (sym p.readings) refl refl (omega arith);
      greatest-byte-first = λ a y m d p. unlike 6 256 65536 (sym p.readings) refl refl (omega arith);
      first-reading-for-all = λ a y m d p. unlike 8 22 23 p.readings refl refl (omega arith);
      fields-of-the-first-for-all = λ a y m d p. unlike 8 0 22 (sym p.readings) refl refl (omega arith);
      first-reading-alone = λ a y m d p. unlike 8 0 7 (sym p.readings) refl refl (omega arith);
      fields-before-the-ends = λ n y m d p. omega (arith, other-reason {A = FourCounts} 14 6 p.answer);
      fields-before-the-window = λ n y m d p. omega (arith, other-reason {A = FourCounts} 14 13 p.answer);
      window-before-the-ends = λ n y m d p. omega (arith, other-reason {A = FourCounts} 13 6 p.answer);
      month-13-let-in = λ c n y m d p. given-refused c 14 p.answer;
      leap-byte-3-for-leap = λ c n y m d p. given-refused c 14 p.answer;
      leap-byte-2-refused = λ why n y m d p. refused-given (record { three = counts_are 0 0 0; readings = 1 }) (reason_number why) p.answer;
      unread-refused = λ why n y m d p. refused-given (record { three = counts_are 0 0 0; readings = 1 }) (reason_number why) p.answer;
      up-to-1000-readings = λ y m d n p. omega (arith, other-reason {A = FourCounts} 9 10 p.answer);
      last-byte-missing = λ c y m d n p. given-refused c 9 p.answer;
      one-place-a-reading = λ c y m d n p. given-refused c 12 p.answer;
      twelve-before-fourteen = λ y m d n p. omega (arith, other-reason {A = FourCounts} 12 14 p.answer);
      twelve-before-eleven = λ y m d n p. omega (arith, other-reason {A = FourCounts} 12 11 p.answer);
    }

pub wrong-conversions : Paper.WrongConversions
unfolding renewing
wrong-conversions =
    record {
      new-refusing-all = λ why o p. refused-given 8 (reason_number why) p.answer;
      new-without-a-count = λ a p. unlike 6 0 9 (sym p.buffer) refl refl (omega arith);
      new-filling-none = λ a p. unlike 0 0 9 (sym p.buffer) refl refl (omega arith);
      new-unchecked = λ k o p. given-refused k 11 p.answer;
      new-without-room = λ k o p. given-refused k 12 p.answer;
      old-refusing-all = λ why o p. refused-given 6 (reason_number why) p.answer;
      old-with-the-count = λ a p. unlike 6 0 9 p.buffer refl refl (omega arith);
      old-filling-none = λ a p. unlike 0 0 9 (sym p.buffer) refl refl (omega arith);
      readings-dropped = λ k o p. given-refused k 17 p.answer;
      seventeen-before-eleven = λ o p. omega (arith, other-reason {A = ℕ} 17 11 p.answer);
      seventeen-before-fourteen = λ o p. omega (arith, other-reason {A = ℕ} 17 14 p.answer);
      twelve-before-seventeen = λ o p. omega (arith, other-reason {A = ℕ} 12 17 p.answer);
      old-unchecked = λ k o p. given-refused k 9 p.answer;
    }
