-- Laws of an emendation into a list with places enough for the longest window, and of its lines. Assumes nothing.
use Rattle.std.specs.Prelude.{Result, Ok}
use Rattle.emending.specs.declared.Emended.{Emended}
use Rattle.emending.specs.declared.Emended.TheVariants.{Fits, Are}
use Rattle.reading.specs.declared.SearchError.{SearchError}
use Prim.Native.Nat.{ℕ, zero, suc, ◌+◌, ◌*◌, ◌≤◌}
use native.Mathlib.Omega.{arith}
use mathlib.Core.Path.{◌≡◌, refl, ap, sym, ◌∙◌}
use mathlib.Core.List.{List, [], ◌∷◌, ◌++◌, append-nil, append_assoc}
use lib.Dec.{leb}
use lib.ListN.{length, take, drop, length-append}
use borrow.Author.Tests.{ne_eqb}
use Rattle.rule.specs.Lists.{placed}
use Rattle.rule.specs.Reasons.{Answer, is, refused, guard-with, afterwards}
use Rattle.told.specs.Answers.{places, emendation_line, line_from, emendation_lines}
use Rattle.told.proofs.Refusing.{NeverWith}
use Rattle.told.proofs.Finding.{alike-behind, never-behind, twelve-behind, has_room}
use Rattle.sheet.proofs.Places.{front}
use Rattle.reading.specs.declared.Reading.{Reading}
use Rattle.reading.specs.Readings.{window_days}
use Rattle.reading.specs.Search.{said_found, total}
use Rattle.reading.specs.Paper.{IsWindow, GoodSearch}
use Rattle.emending.specs.Faults.{emendations}
use Rattle.emending.specs.Emended.{emend_total, where_none_fits, emend_at, filled_with, EmendsReading}
use Rattle.emending.proofs.Passing.{emended-four, emended-few}
use Rattle.emending.proofs.Rows.{comes}

-- an answer, where n days fit
other : (n : ℕ) (a : Answer Emended) → (n ≡ 0 → ⊥) → where_none_fits n a ≡ is (Fits n)
other n a h = rw (ne_eqb n 0 h) refl

outcome : ℕ → Emended → Emended
outcome zero o = o
outcome (suc n) o = Fits (suc n)

by_fits : (n : ℕ) (o : Emended) → where_none_fits n (is o) ≡ is (outcome n o)
unfolding outcome
by_fits zero o = refl
by_fits (suc n) o = other (suc n) (is o) (λ z. omega (arith, z))

-- as many emendations at most as the window has days
pub emendings-few : (r : Reading) (first last : ℕ) → IsWindow first last → emend_total r first last ≤ 27759
unfolding emend_total
emendings-few r first last w = omega (arith, w.1, emended-few r first (window_days first last))

module _ (r : Reading) (first last : ℕ) where
  emendings : Emended
  emendings = outcome (total r first last) (Are (emend_total r first last))

  behind-tests : ℕ → Answer Emended
  behind-tests room =
      where_none_fits (total r first last)
      (guard-with (leb (4 * emend_total r first last) room) 12 (emend_total r first last) (is (Are (emend_total r first last))))

  -- so it is answered, whatever room there is above so many places
  emended-is : (room : ℕ) → places ≤ room → IsWindow first last → behind-tests room ≡ is emendings
  unfolding emendings behind-tests
  emended-is room h w =
      ap (where_none_fits (total r first last))
      (has_room (Are (emend_total r first last)) (4 * emend_total r first last) (emend_total r first last) room (omega (arith, emendings-few r first last w)))
      ∙ by_fits (total r first last) (Are (emend_total r first last))

  -- more make no difference
  pub emended-alike : (room : ℕ) → places ≤ room → emend_at r first last room ≡ emend_at r first last places
  unfolding emend_at behind-tests
  emended-alike room h =
      alike-behind r first last (behind-tests room) (behind-tests places) (λ w. emended-is room h w ∙ sym (emended-is places (omega arith) w))

  -- and none is refused for want of a place
  pub emended-never-with : NeverWith (emend_at r first last places)
  unfolding emend_at behind-tests
  emended-never-with =
      never-behind r first last (behind-tests places) emendings (emended-is places (omega arith))

  pub emended-not-twelve : emend_at r first last places ≡ refused 12 → ⊥
  unfolding emend_at behind-tests
  emended-not-twelve = twelve-behind r first last (behind-tests places) emendings (emended-is places (omega arith))

-- the list after n emendations: its first 4 × n places hold them
module _ {r : Reading} {first last : ℕ} {old new : List ℕ} {a : Result Emended SearchError} (s : EmendsReading r first last old a new) {n : ℕ} (e : a ≡ Ok (Are n)) where
  list : List ℕ
  list = emendations r first (window_days first last)

  said : emend_at r first last (length old) ≡ is (Are n)
  said = sym s.answered ∙ ap said_found e

  known : GoodSearch r first last × (0 ≡ total r first last) × (n ≡ emend_total r first last) × (4 * n ≤ length old)
  known = comes r first last (length old) (is (Are n)) (sym said)

  count : 4 * n ≡ length list
  unfolding list emend_total
  count = omega (arith, known.2, emended-four r first (window_days first last))

  filled : new ≡ placed list old
  unfolding list
  filled = s.lent ∙ ap (λ (x : Answer Emended). afterwards x (filled_with r first last) old) said

  pub emended-list : take (4 * n) new ≡ emendations r first (window_days first last)
  unfolding list
  emended-list = front list old (4 * n) new filled count

  pub emended-most : n ≤ 27759
  emended-most = omega (arith, known.2, emendings-few r first last known.0.window)

  pub emended-inside : 4 * n ≤ length new
  emended-inside = omega (arith, count, ap length filled, length-append list (drop (length list) old))

-- the lines of an emendation more
pub lines_next : (i : ℕ) (xs : List ℕ) → 4 * i + 4 ≤ length xs →
    emendation_lines (take (4 * (i + 1)) xs)
    ≡ emendation_lines (take (4 * i) xs) ++ line_from xs (4 * i)
unfolding emendation_lines
lines_next zero (d ∷ f ∷ k ∷ v ∷ xs) h = append-nil (emendation_line d f k v)
lines_next (suc i) (d ∷ f ∷ k ∷ v ∷ xs) h =
    let e0 : 4 * (suc i + 1) ≡ suc (suc (suc (suc (4 * (i + 1))))) = omega arith in
    let e1 : 4 * suc i + 1 ≡ suc (suc (suc (suc (4 * i + 1)))) = omega arith in
    let e2 : 4 * suc i + 2 ≡ suc (suc (suc (suc (4 * i + 2)))) = omega arith in
    let e3 : 4 * suc i + 3 ≡ suc (suc (suc (suc (4 * i + 3)))) = omega arith in
    let e4 : 4 * suc i ≡ suc (suc (suc (suc (4 * i)))) = omega arith in
    rw (e0, e1, e2, e3, e4) (ap (λ (l : List ℕ). emendation_line d f k v ++ l) (lines_next i xs (omega arith)) ∙ sym (append_assoc (emendation_line d f k v) _ _))
lines_next i (d ∷ f ∷ k ∷ []) h = absurd (omega arith)
lines_next i (d ∷ f ∷ []) h = absurd (omega arith)
lines_next i (d ∷ []) h = absurd (omega arith)
lines_next i [] h = absurd (omega arith)
