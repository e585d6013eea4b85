-- Laws of a drawer's answer: which row of the table it is, and what the two loops over the days have in their middle. Assumes nothing.
use Rattle.std.proofs.Common.{◌≡◌, ℕ, zero, suc, ◌+◌, ◌<◌, ◌≤◌, Bool, true, false, ◌&&◌, leb, ◌⊎◌, List, [], ◌∷◌, length, get_or, drop, sym, refl, ap, ◌∙◌, inl, inr, add-one, arith, length-drop, drop-cons, le-leb}
use borrow.Author.Tests.{lt-leb}
use Rattle.rule.specs.Counts.{DayInRange}
use Rattle.rule.specs.Reasons.{Answer, is, refused, refused-with}
use Rattle.rule.proofs.Answers.{both_true, at_most}
use Rattle.rule.proofs.Pairs.{lt-or-le}
use Rattle.drawer.specs.Drawer.{all_in_range, days_from, drawer_at}
use Rattle.drawer.specs.Paper.{AllInRange, FirstBad}

-- the first of the days from place i on
module _ (d : ℕ) (ds : List ℕ) (i : ℕ) where
  head-good : d ≤ 14989859 → days_from (d ∷ ds) i ≡ days_from ds (i + 1)
  unfolding days_from
  head-good h = rw (le-leb d 14989859 h)

  head-bad : 14989859 < d → days_from (d ∷ ds) i ≡ refused-with 6 i
  unfolding days_from
  head-bad h = rw (lt-leb d 14989859 h)

-- a list that has no elements
none_left : (ds : List ℕ) (i : ℕ) → length ds ≡ 0 → (days_from ds i ≡ is i) × (all_in_range ds ≡ true)
unfolding days_from all_in_range
none_left [] i e = (refl, refl)
none_left (d ∷ ds) i e = absurd (let n : suc (length ds) ≡ 0 = e in omega arith)

-- the loops: the day in place i of all, and past the last
module _ (ds : List ℕ) (i : ℕ) where
  pub good-here : i < length ds → get_or ds i 0 ≤ 14989859 → days_from (drop i ds) i ≡ days_from (drop (i + 1) ds) (i + 1)
  good-here l h =
      ap (λ (t : List ℕ). days_from t i) (drop-cons ds i 0 l)
      ∙ head-good (get_or ds i 0) (drop (suc i) ds) i h
      ∙ ap (λ (k : ℕ). days_from (drop k ds) (i + 1)) (sym (add-one i))

  pub bad-here : i < length ds → 14989859 < get_or ds i 0 → days_from (drop i ds) i ≡ refused-with 6 i
  bad-here l h = rw (drop-cons ds i 0 l) (head-bad (get_or ds i 0) (drop (suc i) ds) i h)

  pub past-last : length ds ≤ i → days_from (drop i ds) i ≡ is i
  past-last l = (none_left (drop i ds) i (simp length-drop (omega arith))).0

  pub all_past : (a : Bool) → length ds ≤ i → (a && all_in_range (drop i ds)) ≡ a
  all_past a l = rw (none_left (drop i ds) i (simp length-drop (omega arith))).1 (and-true a)
    where
      and-true : (a : Bool) → (a && true) ≡ a
      and-true true = refl
      and-true false = refl

  pub all_here : (a : Bool) → i < length ds →
      (a && all_in_range (drop i ds)) ≡ ((a && leb (get_or ds i 0) 14989859) && all_in_range (drop (i + 1) ds))
  unfolding all_in_range
  all_here a l = rw (drop-cons ds i 0 l, add-one i) (and-three a (leb (get_or ds i 0) 14989859) (all_in_range (drop (suc i) ds)))
    where
      and-three : (a b c : Bool) → (a && (b && c)) ≡ ((a && b) && c)
      and-three true b c = refl
      and-three false b c = refl

-- the days from place i on are all in range, or there is a first that is not
decided : (ds : List ℕ) (i : ℕ) →
    (AllInRange ds × (days_from ds i ≡ is (i + length ds))) ⊎ ((j : ℕ) × FirstBad ds j × (days_from ds i ≡ refused-with 6 (i + j)))
unfolding days_from
decided [] i = inl (λ j l. absurd (let n : j < 0 = l in omega arith), ap is (omega arith))
decided (d ∷ ds) i = go (lt-or-le 14989859 d) (decided ds (i + 1))
  where
    one-longer : length (d ∷ ds) ≡ suc (length ds)
    one-longer = refl

    -- what holds of the first day and of those after it
    each : (P : ℕ → Type 0) → P d → (k : ℕ) → ((j : ℕ) → j < k → P (get_or ds j 0)) → (j : ℕ) → j < suc k → P (get_or (d ∷ ds) j 0)
    each P h k f zero l = h
    each P h k f (suc j) l = f j (let n : suc j < suc k = l in omega arith)

    go : (14989859 < d) ⊎ (d ≤ 14989859) →
        (AllInRange ds × (days_from ds (i + 1) ≡ is (i + 1 + length ds))) ⊎ ((j : ℕ) × FirstBad ds j × (days_from ds (i + 1) ≡ refused-with 6 (i + 1 + j))) →
        (AllInRange (d ∷ ds) × (days_from (d ∷ ds) i ≡ is (i + length (d ∷ ds))))
        ⊎ ((j : ℕ) × FirstBad (d ∷ ds) j × (days_from (d ∷ ds) i ≡ refused-with 6 (i + j)))
    go (inl bad) later =
        inr (0, record { a-place = omega arith; bad = λ h. omega arith; good-before = λ j l. absurd (omega arith) }, head-bad d ds i bad ∙ ap (refused-with 6) (omega arith))
    go (inr good) (inl (all, e)) = inl (each DayInRange good (length ds) all, head-good d ds i good ∙ e ∙ ap is (omega (arith, one-longer)))
    go (inr good) (inr (j, f, e)) =
        inr (
          suc j,
          record { a-place = omega (arith, f.a-place, one-longer); bad = f.bad; good-before = each DayInRange good j f.good-before },
          head-good d ds i good ∙ e ∙ ap (refused-with 6) (omega arith),
        )

-- which row of the table the answer a is for these days and so much room: too many days, too few records, a bad day, or none of these
pub data Verdict (ds : List ℕ) (room : ℕ) (a : Answer ℕ) : Type 0 where
  many : 4096 < length ds → a ≡ refused 10 → Verdict ds room a
  short : length ds ≤ 4096 → room < length ds → a ≡ refused 12 → Verdict ds room a
  bad : length ds ≤ 4096 → length ds ≤ room → (j : ℕ) → FirstBad ds j → a ≡ refused-with 6 j → Verdict ds room a
  good : length ds ≤ 4096 → length ds ≤ room → AllInRange ds → a ≡ is (length ds) → Verdict ds room a

module _ (ds : List ℕ) (room : ℕ) where
  pub too_many : 4096 < length ds → drawer_at ds room ≡ refused 10
  unfolding drawer_at
  too_many l = rw (lt-leb (length ds) 4096 l)

  pub too_few : length ds ≤ 4096 → room < length ds → drawer_at ds room ≡ refused 12
  unfolding drawer_at
  too_few l m = rw (le-leb (length ds) 4096 l, lt-leb (length ds) room m)

  pub by-days : length ds ≤ 4096 → length ds ≤ room → drawer_at ds room ≡ days_from ds 0
  unfolding drawer_at
  by-days l m = rw (le-leb (length ds) 4096 l, le-leb (length ds) room m)

  pub verdict : Verdict ds room (drawer_at ds room)
  verdict = go (lt-or-le 4096 (length ds)) (lt-or-le room (length ds)) (decided ds 0)
    where
      go : (4096 < length ds) ⊎ (length ds ≤ 4096) → (room < length ds) ⊎ (length ds ≤ room) →
          (AllInRange ds × (days_from ds 0 ≡ is (0 + length ds))) ⊎ ((j : ℕ) × FirstBad ds j × (days_from ds 0 ≡ refused-with 6 (0 + j))) →
          Verdict ds room (drawer_at ds room)
      go (inl l) m w = many l (too_many l)
      go (inr l) (inl m) w = short l m (too_few l m)
      go (inr l) (inr m) (inl (all, e)) = good l m all (by-days l m ∙ e ∙ ap is (omega arith))
      go (inr l) (inr m) (inr (j, f, e)) = bad l m j f (by-days l m ∙ e ∙ ap (refused-with 6) (omega arith))

-- all days in range, by the loop that looks at every one
all_from : (ds : List ℕ) (i : ℕ) → all_in_range ds ≡ true → days_from ds i ≡ is (i + length ds)
unfolding all_in_range days_from
all_from [] i e = ap is (omega arith)
all_from (d ∷ ds) i e =
    let b = (both_true (leb d 14989859) (all_in_range ds) (at_most d 14989859) (λ h. h, λ h. h)).0 e in
    head-good d ds i b.0 ∙ all_from ds (i + 1) b.1 ∙ ap is (let n : length (d ∷ ds) ≡ suc (length ds) = refl in omega arith)

pub all-in-range : (ds : List ℕ) → all_in_range ds ≡ true → days_from ds 0 ≡ is (length ds)
all-in-range ds h = all_from ds 0 h ∙ ap is (omega arith)
