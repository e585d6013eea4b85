-- The rows of a drawer's table, and what a filled list holds, over whatever a record is: what the statements are read off. Assumes nothing.
use Rattle.std.proofs.Common.{◌≡◌, ℕ, zero, suc, ◌+◌, ◌-◌, ◌<◌, ◌≤◌, ◌⊎◌, ◌↔◌, List, [], ◌∷◌, ◌++◌, map, length, get_or, drop, sym, refl, ap, ◌∙◌, inl, inr, le_of_suc-le-suc, not-suc-le-zero, arith, length-append, length-drop, get_or-drop, get_or-append-add, ext_get_or}
use lib.ListN.{length-map}
use Rattle.rule.specs.Counts.{DayInRange}
use Rattle.rule.specs.Lists.{placed}
use Rattle.rule.specs.Reasons.{Answer, is, refused, refused-with}
use Rattle.rule.proofs.Pairs.{lt-or-le}
use Rattle.rule.proofs.Answers.{exactly, turned}
use Rattle.drawer.specs.Drawer.{drawer_at}
use Rattle.drawer.specs.Paper.{NotTooMany, Roomy, AllInRange, FirstBad, FilledWith}
use Rattle.drawer.proofs.Days.{Verdict, many, short, bad, good, too_many, too_few, verdict}

-- a list filled from its front: the images, and behind them what was there
module _ {X : Type 0} where
  image : (f : ℕ → X) (ds : List ℕ) (rest : List X) (i : ℕ) (none : X) → i < length ds → get_or (map f ds ++ rest) i none ≡ f (get_or ds i 0)
  image f [] rest i none l = absurd (not-suc-le-zero l)
  image f (d ∷ ds) rest zero none l = refl
  image f (d ∷ ds) rest (suc i) none l = image f ds rest i none (le_of_suc-le-suc l)

  untouched : (xs old : List X) (i : ℕ) (none : X) → length xs ≤ i → get_or (placed xs old) i none ≡ get_or old i none
  untouched xs old i none l =
      ap (λ (k : ℕ). get_or (placed xs old) k none) (sym back)
      ∙ get_or-append-add xs (drop (length xs) old) (i - length xs) none
      ∙ get_or-drop (length xs) old (i - length xs) none
      ∙ ap (λ (k : ℕ). get_or old k none) back
    where
      back : length xs + (i - length xs) ≡ i
      back = omega arith

-- where `Gives` holds of what `of` gives and of nothing else: the images of all days, put into the lent list, are what a filled list holds
module _ {X : Type 0} (of : ℕ → X) (Gives : ℕ → X → Type 0) (gives : (d : ℕ) → DayInRange d → (x : X) → (x ≡ of d) ↔ Gives d x)
    (days : List ℕ) (old : List X) (all : AllInRange days) (room : Roomy days old) where
  abbrev images : List X
  images = map of days

  as_many : length images ≡ length days
  as_many = length-map days of

  as_long : length (placed images old) ≡ length old
  as_long = omega (arith, as_many, length-append images (drop (length images) old), length-drop (length images) old)

  beyond : (i : ℕ) (none : X) → length days ≤ i → get_or (placed images old) i none ≡ get_or old i none
  beyond i none l = untouched images old i none (omega (arith, as_many))

  fills : FilledWith Gives days old (placed images old)
  fills =
      record {
        as_long = as_long;
        single = λ i none l. (gives (get_or days i 0) (all i l) _).0 (image of days (drop (length images) old) i none l);
        beyond = beyond;
      }

  only-fills : (new : List X) → FilledWith Gives days old new → new ≡ placed images old
  only-fills new f = ext_get_or (of 0) new (placed images old) (f.as_long ∙ sym as_long) (λ i l. go i (lt-or-le i (length days)))
    where
      go : (i : ℕ) → (i < length days) ⊎ (length days ≤ i) → get_or new i (of 0) ≡ get_or (placed images old) i (of 0)
      go i (inl l) = (gives (get_or days i 0) (all i l) _).1 (f.single i (of 0) l) ∙ sym (image of days (drop (length images) old) i (of 0) l)
      go i (inr l) = f.beyond i (of 0) l ∙ sym (beyond i (of 0) l)

  pub filled-with : (new : List X) → (new ≡ placed images old) ↔ FilledWith Gives days old new
  filled-with new = turned (exactly (FilledWith Gives days old) (placed images old) fills only-fills new)

-- there is one first bad place
pub only-first : (days : List ℕ) (i j : ℕ) → FirstBad days i → FirstBad days j → i ≡ j
only-first days i j p q =
    let not-before : ¬ (i < j) = λ l. p.bad (q.good-before i l) in
    let not_after : ¬ (j < i) = λ l. q.bad (p.good-before j l) in
    omega arith

-- the rows of the table: where each answer is the one that comes back for these days and so much room
abbrev pub Row : List ℕ → ℕ → Answer ℕ → Type 0
Row ds room (is n) = NotTooMany ds × ((length ds ≤ room) × (AllInRange ds × (n ≡ length ds)))
Row ds room (refused k) = ((k ≡ 10) × (NotTooMany ds → ⊥)) ⊎ ((k ≡ 12) × (NotTooMany ds × (length ds ≤ room → ⊥)))
Row ds room (refused-with k i) = (k ≡ 6) × (NotTooMany ds × ((length ds ≤ room) × FirstBad ds i))

module _ (ds : List ℕ) (room : ℕ) where
  in_row : (a : Answer ℕ) → Verdict ds room a → Row ds room a
  in_row a (many l e) = rw (e) (inl (refl, λ h. omega arith))
  in_row a (short l m e) = rw (e) (inr (refl, (l, λ h. omega arith)))
  in_row a (bad l m j f e) = rw (e) (refl, (l, (m, f)))
  in_row a (good l m all e) = rw (e) (l, (m, (all, refl)))

  only_row : (a : Answer ℕ) → Verdict ds room (drawer_at ds room) → Row ds room a → a ≡ drawer_at ds room
  only_row (is n) (many o f) (l, (m, (all, e))) = absurd (omega arith)
  only_row (is n) (short o p f) (l, (m, (all, e))) = absurd (omega arith)
  only_row (is n) (bad o p j first f) (l, (m, (all, e))) = absurd (first.bad (all j first.a-place))
  only_row (is n) (good o p every f) (l, (m, (all, e))) = ap is e ∙ sym f
  only_row (refused k) v (inl (e, out)) = ap refused e ∙ sym (too_many ds room (omega arith))
  only_row (refused k) v (inr (e, (l, out))) = ap refused e ∙ sym (too_few ds room l (omega arith))
  only_row (refused-with k i) (many o f) (e, (l, (m, first))) = absurd (omega arith)
  only_row (refused-with k i) (short o p f) (e, (l, (m, first))) = absurd (omega arith)
  only_row (refused-with k i) (bad o p j other f) (e, (l, (m, first))) = rw (e, only-first ds i j first other) (sym f)
  only_row (refused-with k i) (good o p every f) (e, (l, (m, first))) = absurd (first.bad (every i first.a-place))

  pub row : (a : Answer ℕ) → (a ≡ drawer_at ds room) ↔ Row ds room a
  row a = turned (exactly (Row ds room) (drawer_at ds room) (in_row (drawer_at ds room) (verdict ds room)) (λ b. only_row b (verdict ds room)) a)
