-- What stands in the list of emendations: four numbers for each day that has one fault, in their order. Assumes nothing.
use Prim.Native.Nat.{ℕ, zero, suc, ◌+◌, ◌-◌, ◌*◌, ◌≤◌, ◌<◌}
use native.Mathlib.Nat.{not-suc-le-zero}
use native.Mathlib.Decide.{dec_lt}
use native.Mathlib.Omega.{arith}
use mathlib.Core.Path.{◌≡◌, refl, ap, ap₂, sym, ◌∙◌}
use mathlib.Core.Bool.{true}
use mathlib.Core.List.{List, [], ◌∷◌, ◌++◌}
use lib.ListN.{length, get_or, drop, length-append, get_or-append}
use lib.Seq.{get_or-append-add, get_or-append_seam, get_or-drop}
use Rattle.rule.specs.Lists.{kept, those, placed}
use Rattle.rule.proofs.Lists.{has-place, at-place, rises}
use Rattle.reading.specs.declared.Reading.{Reading}
use Rattle.reading.specs.Readings.{window_days}
use Rattle.emending.specs.declared.Place.{Place}
use Rattle.emending.specs.declared.Fault.{Fault}
use Rattle.emending.specs.declared.Fault.TheVariants.{Without, One, More}
use Rattle.emending.specs.Faults.{fault, is_one, laid_out, gathered, emendations, emendable}
use Rattle.emending.specs.Paper.{Entry, Emendation, ListsEmendations}
use Rattle.emending.proofs.Gathering.{four-a-day}
use Rattle.emending.proofs.Literally.{found-fault, made_fault, fits-righted}

-- the j-th of the four numbers of the i-th day that has one fault
module _ (g : ℕ → Fault) (a : ℕ) where
  abbrev days : ℕ → List ℕ
  days k = those (λ d. is_one (g d)) a k

  abbrev numbers : ℕ → List ℕ
  numbers k = gathered (λ d. laid_out d (g d)) a k

  abbrev of_day : ℕ → ℕ → ℕ
  of_day j d = get_or (laid_out d (g d)) j 0

  four-at : (k i j : ℕ) → i < length (days k) → j < 4 → get_or (numbers k) (4 * i + j) 0 ≡ of_day j (get_or (days k) i 0)
  unfolding those gathered
  four-at zero i j h l = absurd (not-suc-le-zero h)
  four-at (suc k) i j h l = go (four-at k i j) (g (a + k)) refl (dec_lt i (length (days k)))
    where
      ds : List ℕ
      ds = kept (is_one (g (a + k))) (a + k)

      xs : List ℕ
      xs = laid_out (a + k) (g (a + k))

      Here : Type 0
      Here = get_or (numbers k ++ xs) (4 * i + j) 0 ≡ of_day j (get_or (days k ++ ds) i 0)

      earlier : i < length (days k) → get_or (numbers k) (4 * i + j) 0 ≡ of_day j (get_or (days k) i 0) → Here
      earlier m ih =
          get_or-append (numbers k) xs 0 (4 * i + j) (omega (arith, four-a-day g a k))
          ∙ ih ∙ ap (of_day j) (sym (get_or-append (days k) ds 0 i m))

      go : (i < length (days k) → j < 4 → get_or (numbers k) (4 * i + j) 0 ≡ of_day j (get_or (days k) i 0)) →
          (x : Fault) → g (a + k) ≡ x → Dec (i < length (days k)) → Here
      go ih x e (yes m) = earlier m (ih m l)
      go ih Without e (no n) =
          absurd (omega (arith, length-append (days k) ds, ap (λ (y : Fault). length (kept (is_one y) (a + k))) e, h))
      go ih More e (no n) =
          absurd (omega (arith, length-append (days k) ds, ap (λ (y : Fault). length (kept (is_one y) (a + k))) e, h))
      go ih (One p q v) e (no n) =
          let q : ds ≡ (a + k) ∷ [] = ap (λ (y : Fault). kept (is_one y) (a + k)) e in
          let f : i ≡ length (days k) = omega (arith, length-append (days k) ds, ap length q, h) in
          let here : get_or (days k ++ ds) i 0 ≡ a + k =
          ap₂ (λ (y : List ℕ) (m : ℕ). get_or (days k ++ y) m 0) q f ∙ get_or-append_seam (days k) (a + k) [] 0 in
          let place : 4 * i + j ≡ length (numbers k) + j = omega (arith, f, four-a-day g a k) in
          ap (λ (m : ℕ). get_or (numbers k ++ xs) m 0) place ∙ get_or-append-add (numbers k) xs j 0 ∙ sym (ap (of_day j) here)

-- a list filled at its front: what was filled, and what was there beyond
module _ (xs old : List ℕ) where
  pub in-front : (i : ℕ) → i < length xs → get_or (placed xs old) i 0 ≡ get_or xs i 0
  in-front i h = get_or-append xs (drop (length xs) old) 0 i h

  pub behind : (i : ℕ) → length xs ≤ i → get_or (placed xs old) i 0 ≡ get_or old i 0
  behind i h =
      let e : length xs + (i - length xs) ≡ i = omega arith in
      ap (λ (n : ℕ). get_or (placed xs old) n 0) (sym e)
      ∙ get_or-append-add xs (drop (length xs) old) (i - length xs) 0
      ∙ get_or-drop (length xs) old (i - length xs) 0
      ∙ ap (λ (n : ℕ). get_or old n 0) e

-- the emendations of a window
module _ (r : Reading) (first last : ℕ) where
  abbrev among : List ℕ
  among = emendable r first (window_days first last)

  abbrev written : List ℕ
  written = emendations r first (window_days first last)

  -- the i-th of them, where its day has one fault at p
  entry_of : (i d : ℕ) (p : Place) (k v : ℕ) → i < length among → get_or among i 0 ≡ d → fault r d ≡ One p k v → Entry written i d p k v
  unfolding emendations emendable
  entry_of i d p k v h e f =
      record {
        day = ap (λ (n : ℕ). get_or written n 0) {x = 4 * i} {y = 4 * i + 0} (omega arith) ∙ at 0 (omega arith);
        field = at 1 (omega arith);
        was_read = at 2 (omega arith);
        should-be = at 3 (omega arith);
      }
    where
      at : (j : ℕ) → j < 4 → get_or written (4 * i + j) 0 ≡ get_or (laid_out d (One p k v)) j 0
      at j l =
          four-at (fault r) first (window_days first last) i j h l
          ∙ ap (λ (n : ℕ). get_or (laid_out n (fault r n)) j 0) e ∙ ap (λ (x : Fault). get_or (laid_out d x) j 0) f

  -- a fault that is one
  one-there : (x : Fault) → is_one x ≡ true → (i : Place) × (k : ℕ) × (v : ℕ) × (x ≡ One i k v)
  one-there Without e = absurd (let o : ◌≡◌ {A = ℕ} 0 1 = cc in omega arith)
  one-there (One i k v) e = (i, k, v, refl)
  one-there More e = absurd (let o : ◌≡◌ {A = ℕ} 0 1 = cc in omega arith)

  lists-only : (i : ℕ) → i < length among → Emendation r first last written i
  unfolding emendable
  lists-only i h =
      let w = at-place (λ d. is_one (fault r d)) first (window_days first last) i h in
      let o = one-there (fault r (first + w.i)) w.passes in
      let f = found-fault r (first + w.i) o.3 in
      record {
        d = first + w.i;
        p = f.0;
        k = o.1;
        v = o.2;
        entry = entry_of i (first + w.i) f.0 o.1 o.2 h w.here (o.3 ∙ ap (λ (n : Place). One n o.1 o.2) f.1);
        from_first = omega arith;
        to_last = omega (arith, w.inside);
        only-fault = f.2;
        put_right = fits-righted r (first + w.i) f.0 o.1 o.2 f.2;
      }

  -- its day, from both lists
  day-at : (i : ℕ) → i < length among → get_or written (4 * i) 0 ≡ get_or among i 0
  unfolding emendable lists-only
  day-at i h =
      (lists-only i h).entry.day ∙ sym (at-place (λ d. is_one (fault r d)) first (window_days first last) i h).here

  pub lists-emendations : ListsEmendations r first last (length among) written
  unfolding emendable
  lists-emendations =
      record {
        listed = λ d p k v h l o.
            let e = made_fault r d p k v o in
            let back : first + (d - first) ≡ d = omega arith in
            let w = has-place (λ n. is_one (fault r n)) first (window_days first last) (d - first) (omega arith) (ap (λ n. is_one (fault r n)) back ∙ ap is_one e) in
            (w.0, w.1, entry_of w.0 d p k v w.1 (w.2 ∙ back) e);
        only = lists-only;
        rising = λ i j h l.
            omega (
              arith,
              day-at i (omega arith),
              day-at j l,
              rises (λ n. is_one (fault r n)) first (window_days first last) i j h l,
            );
      }
