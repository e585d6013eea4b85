-- An emendation's answer laid flat: what the statements of the calls for C have of it, and what it is computed with. Assumes nothing.
use Rattle.std.specs.Prelude.{Result, Err}
use Rattle.emending.specs.declared.Emended.{Emended}
use Rattle.emending.specs.declared.Emended.TheVariants.{Fits, Are}
use Rattle.reading.specs.declared.SearchError.{SearchError}
use Rattle.reading.specs.declared.SearchError.TheVariants.{TooShort, Refused}
use Prim.Native.Nat.{ℕ, ◌*◌}
use native.Mathlib.Omega.{arith}
use mathlib.Core.Path.{◌≡◌, refl, ap, sym, ◌∙◌}
use mathlib.Core.Logic.{◌≢◌}
use mathlib.Core.Bool.{Bool, true, false, ◌&&◌}
use mathlib.Core.List.{List}
use lib.Dec.{leb, eqb}
use Rattle.rule.specs.Reasons.{Answer, is, refused, refused-with, guard, guard-with, reason_number, afterwards}
use Rattle.rule.specs.declared.Reason.{Reason}
use Rattle.rule.specs.declared.Reason.TheVariants.{NoSuchDay, BadWindow, FieldOutOfRange}
use Rattle.reading.specs.declared.Reading.{Reading}
use Rattle.reading.specs.Readings.{in_ranges, window_holds}
use Rattle.reading.specs.Search.{said_found, total}
use Rattle.reading.proofs.Computing.{searches-computed}
use Rattle.emending.specs.Faults.{name_fault, number_fault, month_fault, day_fault, fault, gathered, emendations, emendable}
use Rattle.emending.specs.Emended.{emend_total, where_none_fits, emend_at}
use Rattle.offered.specs.declared.CEmended.{CEmended}
use Rattle.offered.specs.Flat.{flat_emended}
use Rattle.offered.specs.Structs.{BareEmended}
use Rattle.offered.specs.Paper.{saying}
use Rattle.offered.proofs.Sound.{none-is-0}

-- an emendation, by its tests: answered, refused with 12 and the total m, or with another reason
data Row (m : ℕ) : Answer Emended → Type 0 where
  answers : (o : Emended) → Row m (is o)
  short : Row m (refused-with 12 m)
  fails : (why : Reason) → reason_number why ≢ 12 → Row m (refused (reason_number why))

room_row : (t : Bool) (m : ℕ) → Row m (guard-with t 12 m (is (Are m)))
room_row true m = answers (Are m)
room_row false m = short

fits-row : (t : Bool) (n m : ℕ) → Row m (where_none_fits n (guard-with t 12 m (is (Are m))))
fits-row t n m = go (eqb n 0) refl
  where
    go : (f : Bool) → eqb n 0 ≡ f → Row m (where_none_fits n (guard-with t 12 m (is (Are m))))
    go true e = rw (e) (room_row t m)
    go false e = rw (e) (answers (Fits n))

row :
    (e w i t : Bool) (n m : ℕ) → Row m (guard e 6 (guard w 13 (guard i 14 (where_none_fits n (guard-with t 12 m (is (Are m)))))))
row false w i t n m = fails NoSuchDay (λ z. omega (arith, z))
row true false i t n m = fails BadWindow (λ z. omega (arith, z))
row true true false t n m = fails FieldOutOfRange (λ z. omega (arith, z))
row true true true t n m = fits-row t n m

-- what a row says, laid flat
abbrev reason-of : CEmended → ℕ
reason-of a = a.reason

row-bare :
    {m : ℕ} {x : Answer Emended} → Row m x → (fills : Emended → List ℕ) (old : List ℕ) → reason-of (flat_emended x) ≢ 0 →
    BareEmended m (flat_emended x) × (afterwards x fills old ≡ old)
row-bare (answers (Fits n)) fills old h = absurd (h refl)
row-bare (answers (Are n)) fills old h = absurd (h refl)
row-bare short fills old h = (record { fits = refl; other = λ z. absurd (z refl); twelve = λ z. refl }, refl)
row-bare (fails why other) fills old h = (record { fits = refl; other = λ z. refl; twelve = λ z. absurd (other z) }, refl)

row_zero :
    {m : ℕ} {x : Answer Emended} → Row m x → (a : CEmended) → a ≡ flat_emended x → a.reason ≡ 0 →
    (o : Emended) × (said_found (saying o) ≡ x) × (a ≡ flat_emended (is o))
row_zero (answers (Fits n)) a p z = (Fits n, refl, p)
row_zero (answers (Are n)) a p z = (Are n, refl, p)
row_zero short a p z = absurd (omega (arith, z, ap reason-of p))
row_zero (fails why other) a p z = absurd (none-is-0 why (sym (ap reason-of p) ∙ z))

row-said : {m : ℕ} {x : Answer Emended} → Row m x → (f : Result Emended SearchError) × (said_found f ≡ x)
row-said (answers (Fits n)) = (saying (Fits n), refl)
row-said (answers (Are n)) = (saying (Are n), refl)
row-said {m} short = (Err (TooShort m), refl)
row-said (fails why other) = (Err (Refused why), refl)

-- reason 0 is that of what is answered alone
pub outcome-zero : (o : Emended) → (flat_emended (is o)).reason ≡ 0
outcome-zero (Fits n) = refl
outcome-zero (Are n) = refl

module _ (r : Reading) (first last n : ℕ) where
  its-row : Row (emend_total r first last) (emend_at r first last n)
  unfolding emend_at
  its-row =
      row (leb first 14989859 && leb last 14989859) (window_holds first last) (in_ranges r) (leb (4 * emend_total r first last) n) (total r first last)
      (emend_total r first last)

  pub emend-bare :
      (fills : Emended → List ℕ) (old : List ℕ) (a : CEmended) → a ≡ flat_emended (emend_at r first last n) → a.reason ≢ 0 →
      BareEmended (emend_total r first last) a × (afterwards (emend_at r first last n) fills old ≡ old)
  emend-bare fills old a e no_zero = rw (e) (row-bare its-row fills old (λ z. no_zero (ap reason-of e ∙ z)))

  pub emend-zero :
      (a : CEmended) → a ≡ flat_emended (emend_at r first last n) → a.reason ≡ 0 →
      (o : Emended) × (said_found (saying o) ≡ emend_at r first last n) × (a ≡ flat_emended (is o))
  emend-zero = row_zero its-row

  pub emend-said : (f : Result Emended SearchError) × (said_found f ≡ emend_at r first last n)
  emend-said = row-said its-row

-- what an emendation is computed with at named inputs: on an `unfolding` line this name brings all that its own line names
unfoldable pub emendations-computed : ℕ
unfolding name_fault number_fault month_fault day_fault fault gathered emendations emendable emend_total emend_at searches-computed
emendations-computed = 0
