-- What an emendation comes to: a fault of the paper's rows, the days that fit, the emendations given, or their total told. Assumes nothing.
use Rattle.emending.specs.declared.Emended.TheVariants.{Fits, Are}
use Rattle.emending.specs.declared.Emended.{Emended}
use Prim.Native.Nat.{ℕ, ◌*◌, ◌≤◌, ◌<◌}
use native.Mathlib.Omega.{arith}
use native.Mathlib.Decide.{dec_lt}
use mathlib.Core.Path.{◌≡◌, refl, ap, sym, ◌∙◌, subst}
use mathlib.Core.Logic.{⊎_elim}
use lib.ListN.{length}
use Rattle.rule.specs.declared.Reason.{Reason}
use Rattle.rule.specs.Reasons.{Answer, is, refused, refused-with, reason_number}
use Rattle.reading.specs.declared.Reading.{Reading}
use Rattle.reading.specs.Readings.{window_days}
use Rattle.reading.specs.Search.{total}
use Rattle.reading.specs.Paper.{SearchFault, GoodSearch}
use Rattle.reading.proofs.Rows.{refuses-any, lets-through, good-or-not}
use Rattle.emending.specs.Faults.{emendations}
use Rattle.emending.specs.Emended.{emend_total, emend_at}
use Rattle.emending.proofs.Passing.{emended-four}
use Rattle.emending.proofs.Answered.{some_fit, as_many, too_short, enough}

module _ (r : Reading) (first last room : ℕ) where
  pub refuses : (why : Reason) → SearchFault r first last why → emend_at r first last room ≡ refused (reason_number why)
  unfolding emend_at
  refuses why h = refuses-any r first last _ why h

  module _ (g : GoodSearch r first last) where
    pub fits_said : 0 < total r first last → emend_at r first last room ≡ is (Fits (total r first last))
    unfolding total
    fits_said h = some_fit r first last room (lets-through r first last g) (total r first last) refl h

    -- no day fits
    module _ (z : 0 ≡ total r first last) where
      abbrev numbers : ℕ
      numbers = length (emendations r first (window_days first last))

      four-times : numbers ≡ 4 * emend_total r first last
      unfolding emend_total
      four-times = emended-four r first (window_days first last)

      pub tells : room < 4 * emend_total r first last → emend_at r first last room ≡ refused-with 12 (emend_total r first last)
      unfolding total
      tells h =
          too_short r first last room (lets-through r first last g) z numbers refl (omega (arith, four-times, h))
          ∙ ap (refused-with 12) (as_many r first last room (lets-through r first last g) z numbers refl)

      pub gives : 4 * emend_total r first last ≤ room → emend_at r first last room ≡ is (Are (emend_total r first last))
      unfolding total
      gives h =
          enough r first last room (lets-through r first last g) z numbers refl (omega (arith, four-times, h))
          ∙ ap (λ n. is (Are n)) (as_many r first last room (lets-through r first last g) z numbers refl)

  -- by what is said
  abbrev Comes : Answer Emended → Type 0
  Comes (is (Fits n)) = GoodSearch r first last × (n ≡ total r first last) × (0 < n)
  Comes (is (Are n)) = GoodSearch r first last × (0 ≡ total r first last) × (n ≡ emend_total r first last) × (4 * n ≤ room)
  Comes (refused k) = (why : Reason) × (reason_number why ≡ k) × SearchFault r first last why
  Comes (refused-with k n) = GoodSearch r first last × (0 ≡ total r first last) × (n ≡ emend_total r first last) × (room < 4 * n)

  pub comes : (x : Answer Emended) → x ≡ emend_at r first last room → Comes x
  comes x said =
      subst Comes (sym said)
      (⊎_elim (λ (g : GoodSearch r first last). good g (dec_lt 0 (total r first last)))
      (λ (h : (why : Reason) × SearchFault r first last why). subst Comes (sym (refuses h.0 h.1)) (h.0, refl, h.1))
      (good-or-not r first last))
    where
      none : GoodSearch r first last → 0 ≡ total r first last → Dec (room < 4 * emend_total r first last) → Comes (emend_at r first last room)
      none g z (yes h) = subst Comes (sym (tells g z h)) (g, z, refl, h)
      none g z (no n) =
          let h : 4 * emend_total r first last ≤ room = omega (arith, n) in
          subst Comes (sym (gives g z h)) (g, z, refl, h)

      good : GoodSearch r first last → Dec (0 < total r first last) → Comes (emend_at r first last room)
      good g (yes h) = subst Comes (sym (fits_said g h)) (g, refl, h)
      good g (no n) = none g (omega (arith, n)) (dec_lt room (4 * emend_total r first last))
