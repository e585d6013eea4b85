-- The new form of the sheet for C: the statements of specs/Renewed, proved under their own names. Assumes nothing.
use Rattle.std.specs.Prelude.{Result, Ok, Err}
use Rattle.rule.specs.declared.Reason.{Reason}
use Prim.Native.Nat.{ℕ}
use native.Mathlib.Omega.{arith}
use mathlib.Core.Path.{◌≡◌, refl, ap, sym, ◌∙◌}
use mathlib.Core.Logic.{◌↔◌, ◌≢◌}
use mathlib.Core.List.{List}
use lib.ListN.{length}
use Rattle.rule.specs.Reasons.{said, Answer, is, and_then, afterwards}
use Rattle.sheet.proofs.Places.{unlike}
use Rattle.newsheet.specs.declared.FourCounts.{FourCounts}
use Rattle.newsheet.specs.New.{Four, eights, read_new_into}
use Rattle.newsheet.specs.Promises.{counted_four}
use Rattle.newstated.proofs.Wrong.{renewing}
use Rattle.offered.specs.declared.CNewCounts.{CNewCounts}
use Rattle.offered.specs.declared.CLength.{CLength}
use Rattle.offered.specs.Renewed as Renewed
use Rattle.offered.specs.Renewed.{given_four, no_four, flat_four, BareFour}
use Rattle.offered.proofs.Sound as Sound
use Rattle.offered.proofs.Sound.{Sound, given}
use Rattle.offered.proofs.Paper.{one-printed, is-bare, is_zero, as_said, untouched, printed-bare, length-zero, length-said}

pub unique-renewed : Renewed.UniqueRenewed
unique-renewed =
    record {
      read-new = λ s y m d n a b y₁ m₁ d₁ n₁ y₂ m₂ d₂ n₂ p q. (
        p.answer ∙ sym q.answer,
        p.years ∙ sym q.years,
        p.months ∙ sym q.months,
        p.days ∙ sym q.days,
        p.readings ∙ sym q.readings,
      );
      to-new = λ s o a b o₁ o₂ p q. one-printed p q;
      to-old = λ s o a b o₁ o₂ p q. one-printed p q;
    }

-- the four counts that are said of what was read
abbrev counts_of : Answer Four → Answer FourCounts
counts_of a = and_then a (λ l. is (counted_four l))

abbrev reason-of : CNewCounts → ℕ
reason-of x = x.reason

counts-bare :
    (a : Answer Four) (r : CNewCounts) → r ≡ flat_four (counts_of a) → r.reason ≢ 0 →
    BareFour r × ((g : Four → List ℕ) (old : List ℕ) → afterwards a g old ≡ old)
counts-bare a r e h = (
  is-bare reason-of given_four no_four (λ x. refl) BareFour (λ k. record { years = refl; months = refl; days = refl; readings = refl }) (counts_of a) r e h,
  λ g old. untouched reason-of given_four no_four (λ x. refl) counted_four a g old r e h,
)

module _ {a : Answer Four} (s : Sound a) (r : CNewCounts) where
  counts-sound : Sound (counts_of a)
  counts-sound = Sound.sound-then (λ l. is (counted_four l)) s (λ l. given (counted_four l))

  counts_zero : r ≡ flat_four (counts_of a) → (r.reason ≡ 0) ↔ ((c : FourCounts) × (is c ≡ counts_of a) × (r ≡ given_four c))
  counts_zero e = is_zero reason-of given_four no_four (λ x. refl) (λ k. refl) counts-sound r e

  counts-said : (r ≡ flat_four (counts_of a)) ↔ ((c : Result FourCounts Reason) × (said c ≡ counts_of a) × (r ≡ flat_four (said c)))
  counts-said = as_said said Ok Err (λ x. refl) (λ w. refl) flat_four counts-sound r

pub refusal-renewed : Renewed.RefusalRenewed
refusal-renewed =
    record {
      read-new = λ s y m d n r y' m' d' n' p h.
          let b = counts-bare (read_new_into s (length y) (length m) (length d) (length n)) r p.answer h in (
            b.0,
            p.years ∙ b.1 (λ (l : Four). l.three.years) y,
            p.months ∙ b.1 (λ (l : Four). l.three.months) m,
            p.days ∙ b.1 (λ (l : Four). l.three.days) d,
            p.readings ∙ b.1 (λ (l : Four). eights l.readings) n,
          );
      to-new = λ s o r o' p h. printed-bare p h;
      to-old = λ s o r o' p h. printed-bare p h;
    }

pub says-the-renewed : Renewed.SaysTheRenewed
says-the-renewed =
    record {
      read-new = λ s y m d n r y' m' d' n'.
          let c = counts-said (Sound.read-new-sound s (length y) (length m) (length d) (length n)) r in (
            λ p.
                let w = c.0 p.answer in
                (w.0, record { answer = w.1; years = p.years; months = p.months; days = p.days; readings = p.readings }, w.2),
            λ w.
                let q = w.1 in
                record { answer = c.1 (w.0, q.answer, w.2); years = q.years; months = q.months; days = q.days; readings = q.readings },
          );
      to-new = λ s o r o'.
          let c = length-said (Sound.to-new-sound s (length o)) r in (
            λ p. let w = c.0 p.answer in (w.0, record { answer = w.1; buffer = p.buffer }, w.2),
            λ w. record { answer = c.1 (w.0, w.1.answer, w.2); buffer = w.1.buffer },
          );
      to-old = λ s o r o'.
          let c = length-said (Sound.to-old-sound s (length o)) r in (
            λ p. let w = c.0 p.answer in (w.0, record { answer = w.1; buffer = p.buffer }, w.2),
            λ w. record { answer = c.1 (w.0, w.1.answer, w.2); buffer = w.1.buffer },
          );
    }

pub reason-0-renewed : Renewed.Reason0Renewed
reason-0-renewed =
    record {
      read-new = λ s y m d n r y' m' d' n' p.
          let z = counts_zero (Sound.read-new-sound s (length y) (length m) (length d) (length n)) r p.answer in (
            λ e.
                let w = z.0 e in
                (w.0, record { answer = w.1; years = p.years; months = p.months; days = p.days; readings = p.readings }, w.2),
            λ w. z.1 (w.0, w.1.answer, w.2),
          );
      to-new = λ s o r o' p.
          let z = length-zero (Sound.to-new-sound s (length o)) r p.answer in
          (λ e. let w = z.0 e in (w.0, record { answer = w.1; buffer = p.buffer }, w.2), λ w. z.1 (w.0, w.1.answer, w.2));
      to-old = λ s o r o' p.
          let z = length-zero (Sound.to-old-sound s (length o)) r p.answer in
          (λ e. let w = z.0 e in (w.0, record { answer = w.1; buffer = p.buffer }, w.2), λ w. z.1 (w.0, w.1.answer, w.2));
    }

pub wrong-renewed : Renewed.WrongRenewed
unfolding renewing
wrong-renewed =
    record {
      refusing-all = λ r y m d n p h. h (ap reason-of p.answer);
      filling-none = λ r y m d p. unlike 0 7 22 p.readings refl refl (omega arith);
      fields-of-the-first-for-all = λ r y m d p. unlike 8 0 22 (sym p.readings) refl refl (omega arith);
      fields-before-the-ends = λ y m d n p. let e : ◌≡◌ {A = ℕ} 14 6 = ap reason-of p.answer in omega arith;
      leap-byte-3-for-leap = λ c y m d n p. let e : ◌≡◌ {A = ℕ} 0 14 = ap reason-of p.answer in omega arith;
      one-count-for-two = λ y m d n p. let e : ◌≡◌ {A = ℕ} 1 2 = ap (λ (x : CNewCounts). x.readings) p.answer in omega arith;
      new-refusing-all = λ r o p h. h (ap (λ (x : CLength). x.reason) p.answer);
      new-without-a-count = λ r p. unlike 6 0 9 (sym p.buffer) refl refl (omega arith);
      old-refusing-all = λ r o p h. h (ap (λ (x : CLength). x.reason) p.answer);
      old-with-the-count = λ r p. unlike 6 0 9 p.buffer refl refl (omega arith);
      readings-dropped = λ k o p. let e : ◌≡◌ {A = ℕ} 0 17 = ap (λ (x : CLength). x.reason) p.answer in omega arith;
      seventeen-before-eleven = λ o p. let e : ◌≡◌ {A = ℕ} 17 11 = ap (λ (x : CLength). x.reason) p.answer in omega arith;
    }
